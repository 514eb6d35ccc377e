-- A whole drawing list: its lines, or its first fault; and the line at a place of its text.
use Rattle.std.specs.Prelude.{cond, ◌||◌, List, [], ◌∷◌, ℕ, ◌+◌, ◌-◌, eqb, leb, ltb, length, get_or, take, drop, Result, Ok, Err}
use Rattle.std.specs.Borrow.{Bor}
use Rattle.refusals.specs.Numbers.{numbered}
use Rattle.text.specs.Text.{split, count_of, find_of}
use Rattle.lists.specs.declared.Line.{Line}
use Rattle.lists.specs.declared.LineAt.{LineAt}
use Rattle.lists.specs.declared.reader.Reader.{Reader}
use Rattle.lists.specs.Line.{line_of}

abbrev pub newline : ℕ
newline = 10

abbrev pub newlines : List ℕ → ℕ
newlines text = count_of newline text

-- ---- the whole text

pub data Reading : Type 0 where
  -- 6, 7 or 8, and the line that it is for, counted from 1
  faulty : (number line : ℕ) → Reading
  lines : List Line → Reading

abbrev pub also_line : Line → Reading → Reading
also_line l (faulty k n) = faulty k n
also_line l (lines ls) = lines (l ∷ ls)

-- line n and what comes after it
abbrev pub with_line : Result Line ℕ → ℕ → Reading → Reading
with_line (Ok l) n rest = also_line l rest
with_line (Err k) n rest = faulty k n

-- after the last newline there is nothing
abbrev pub last_piece : ℕ → List ℕ → Reading
last_piece n [] = lines []
last_piece n (x ∷ xs) = faulty 6 n

-- the pieces between newlines, the first of them being line n
abbrev pub pieces_from : ℕ → List (List ℕ) → Reading
pieces_from n [] = lines []
pieces_from n (p ∷ []) = last_piece n p
pieces_from n (p ∷ q ∷ ps) = with_line (line_of p) n (pieces_from (n + 1) (q ∷ ps))

unfoldable pub reading_from : ℕ → List ℕ → Reading
reading_from n text = pieces_from n (split newline text)

unfoldable pub reading_of : List ℕ → Reading
reading_of text = reading_from 1 text

-- ---- place by place

-- behind the newline at `end`, or at the text's end where there is none
abbrev pub behind : ℕ → List ℕ → ℕ
behind end text = cond (ltb end (length text)) (end + 1) (length text)

-- where the next line starts
unfoldable pub next_line : List ℕ → ℕ → ℕ
next_line text at = behind (find_of text at newline) text

-- the bytes up to the newline at `end`; 6 where there is none
abbrev pub line_up_to : ℕ → List ℕ → ℕ → Result Line ℕ
line_up_to end text at = cond (ltb end (length text)) (line_of (take (end - at) (drop at text))) (Err 6)

-- a line or the number of its refusal, and where the next one starts
pub record LineThere : Type 0 where
  pub parsed : Result Line ℕ
  pub next : ℕ

-- what the code says of it
abbrev pub told : LineAt → LineThere
told l = record { parsed = numbered l.parsed; next = l.next }

-- the line that starts at `at`
unfoldable pub line_at : List ℕ → ℕ → LineThere
line_at text at = record { parsed = line_up_to (find_of text at newline) text at; next = next_line text at }

-- how many newlines the byte before a place is: 1 or 0
unfoldable pub newline_before : List ℕ → ℕ → ℕ
newline_before text at = cond (eqb at 0 || leb (length text) (at - 1)) 0 (cond (eqb (get_or text (at - 1) 0) newline) 1 0)

-- ---- the reader: a lent text, and a place in it

-- as it is made
abbrev pub reader_at : Bor (List ℕ) → ℕ → Reader
reader_at text at = record { text = text; at = at }

-- what it gives where it stands
abbrev pub line_here : Reader → LineThere
line_here r = line_at r.text.now r.at

-- past the line where it stands
abbrev pub past_line : Reader → Reader
past_line r = record { text = r.text; at = next_line r.text.now r.at }
