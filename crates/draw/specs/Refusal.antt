-- Why the compiler refuses a list, as a sentence.
use Rattle.std.specs.Prelude.{cond, List, [], ◌∷◌, ◌++◌, ℕ, eqb}
use Rattle.text.specs.Text.{bytes}
use Rattle.print.specs.Printed.{decimal_of}

-- no line is to blame for a list that is too long
abbrev pub place_of : ℕ → List ℕ
place_of line = cond (eqb line 0) [] (bytes ", line " ++ decimal_of line)

abbrev pub malformed : List ℕ
malformed =
    bytes "no put, fill or set, a field too many or too few, an unknown register, a number with a leading zero or not of 1 to 3 digits, or no newline at the end"

abbrev pub out_of_range : List ℕ
out_of_range =
    bytes "a column above 100, a bank above 16, ends the wrong way round, a byte above 255, a byte above 63 where bank 16 is touched, or a value wider than its field"

abbrev pub unreadable : List ℕ
unreadable = bytes "a register whose row of the instruction table can't be read"

abbrev pub too_many_lines : List ℕ
too_many_lines = bytes "more than 4096 lines"

-- the rule of a refusal's number
unfoldable pub reason_of : ℕ → List ℕ
reason_of number = cond (eqb number 6) malformed (cond (eqb number 7) out_of_range (cond (eqb number 8) unreadable too_many_lines))

abbrev pub sentence_of : List ℕ → ℕ → ℕ → List ℕ
sentence_of name number line =
    name ++ place_of line ++ bytes ": refused by " ++ decimal_of number ++ bytes ": " ++ reason_of number ++ (10 ∷ [])
