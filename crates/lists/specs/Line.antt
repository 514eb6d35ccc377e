-- One line of a drawing list, without its newline: what it asks for, or 6 (malformed), 7 (out of range) or 8 (a row that can't be read).
use Rattle.std.specs.Prelude.{Bool, cond, not, ◌&&◌, ◌||◌, List, [], ◌∷◌, ℕ, eqb, leb, ltb, length, get_or, Option, Some, None, Result, Ok, Err}
use Rattle.registers.specs.Unreadable.{row_unreadable}
use Rattle.registers.specs.Places.{H, X, Y, GR}
use Rattle.registers.specs.Record.{names, limits}
use Rattle.text.specs.Decimal.{number_of}
use Rattle.text.specs.Text.{bytes, same_bytes, split, index_of}
use Rattle.lists.specs.declared.Line.{Line}
use Rattle.lists.specs.declared.Line.TheVariants.{Fill, Set}

abbrev pub tab : ℕ
tab = 9

-- ---- what comes back, in document 01's numbers

-- a fill's columns, banks and byte; a register's place and its value
abbrev pub values_of : Line → List ℕ
values_of (Fill c0 c1 b0 b1 n) = c0 ∷ c1 ∷ b0 ∷ b1 ∷ n ∷ []
values_of (Set f n) = f ∷ n ∷ []

-- 0 and the line's values, or a refusal's number alone
abbrev pub numbers_of : Result Line ℕ → List ℕ
numbers_of (Ok l) = 0 ∷ values_of l
numbers_of (Err k) = k ∷ []

-- ---- 7, once a line is well formed

-- columns to 100 and banks to 16, each pair in order; a byte, and in bank 16 one of six bits
abbrev pub fill_fits : ℕ → ℕ → ℕ → ℕ → ℕ → Bool
fill_fits c0 c1 b0 b1 n =
    leb c0 100 && leb c1 100 && leb b0 16 && leb b1 16 && leb c0 c1 && leb b0 b1 && leb n 255 && (ltb b1 16 || leb n 63)

abbrev pub fill_within : ℕ → ℕ → ℕ → ℕ → ℕ → Result Line ℕ
fill_within c0 c1 b0 b1 n = cond (fill_fits c0 c1 b0 b1 n) (Ok (Fill c0 c1 b0 b1 n)) (Err 7)

-- 7 where the value is wider than its field, then 8
abbrev pub set_within : ℕ → ℕ → Result Line ℕ
set_within f n = cond (leb n (get_or limits f 0)) (cond (row_unreadable f) (Err 8) (Ok (Set f n))) (Err 7)

-- ---- 6, whatever the numbers are

-- a field that should be a number
abbrev pub or_malformed : Option ℕ → Result ℕ ℕ
or_malformed (Some n) = Ok n
or_malformed None = Err 6

abbrev pub fill_of : Option ℕ → Option ℕ → Option ℕ → Option ℕ → Option ℕ → Result Line ℕ
fill_of None c1 b0 b1 n = Err 6
fill_of (Some c0) None b0 b1 n = Err 6
fill_of (Some c0) (Some c1) None b1 n = Err 6
fill_of (Some c0) (Some c1) (Some b0) None n = Err 6
fill_of (Some c0) (Some c1) (Some b0) (Some b1) None = Err 6
fill_of (Some c0) (Some c1) (Some b0) (Some b1) (Some n) = fill_within c0 c1 b0 b1 n

-- one cell
abbrev pub put_of : Option ℕ → Option ℕ → Option ℕ → Result Line ℕ
put_of column bank n = fill_of column column bank bank n

-- the registers that a `set` line can name: all but the page, the two address registers and the number of the grey register
abbrev pub is_field : ℕ → Bool
is_field f = ltb f 29 && not (eqb f H) && not (eqb f X) && not (eqb f Y) && not (eqb f GR)

-- f is the place of the register of that name, or 29 where none has it
abbrev pub set_of : ℕ → Option ℕ → Result Line ℕ
set_of f None = Err 6
set_of f (Some n) = cond (is_field f) (set_within f n) (Err 6)

-- ---- the words, each with its number of fields

-- the number that a field writes; where there is no field, there is none
abbrev pub number_in : Option (List ℕ) → Option ℕ
number_in (Some field) = number_of field
number_in None = None

abbrev pub piece_at : List (List ℕ) → ℕ → List ℕ
piece_at ps k = get_or ps k []

abbrev pub number_at : List (List ℕ) → ℕ → Option ℕ
number_at ps k = number_of (piece_at ps k)

abbrev pub put_line : List (List ℕ) → Result Line ℕ
put_line ps = cond (eqb (length ps) 4) (put_of (number_at ps 1) (number_at ps 2) (number_at ps 3)) (Err 6)

abbrev pub fill_line : List (List ℕ) → Result Line ℕ
fill_line ps = cond (eqb (length ps) 6) (fill_of (number_at ps 1) (number_at ps 2) (number_at ps 3) (number_at ps 4) (number_at ps 5)) (Err 6)

abbrev pub set_line : List (List ℕ) → Result Line ℕ
set_line ps = cond (eqb (length ps) 3) (set_of (index_of (piece_at ps 1) names) (number_at ps 2)) (Err 6)

abbrev pub of_pieces : List (List ℕ) → Result Line ℕ
of_pieces ps =
    cond (same_bytes (piece_at ps 0) (bytes "put")) (put_line ps)
    (cond (same_bytes (piece_at ps 0) (bytes "fill")) (fill_line ps)
    (cond (same_bytes (piece_at ps 0) (bytes "set")) (set_line ps)
    (Err 6)))

-- fields are parted by one tab
unfoldable pub line_of : List ℕ → Result Line ℕ
line_of p = of_pieces (split tab p)
