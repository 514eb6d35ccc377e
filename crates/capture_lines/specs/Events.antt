-- Whole event lines, each with its newline: how they are written, and what is read of them.
use Rattle.std.specs.Prelude.{Bool, true, cond, Option, None, Some, ◌&&◌, ◌||◌, List, [], ◌∷◌, ◌++◌, ◌⊎◌, ◌≡◌, ℕ, zero, suc, ◌+◌, ◌<◌, ◌≤◌, eqb, ltb, length, get_or, take, drop}
use Rattle.text.specs.Decimal.{is_digit, is_leading, one_digit, two_digits, three_digits, decimal}
use Rattle.capture_lines.specs.declared.EventLines.{EventLines}
use Rattle.capture_lines.specs.declared.event.EventLine.{EventLine}
use Rattle.capture_lines.specs.Line.{newline}

-- one event a line, and then the rest of a text
abbrev pub event_lines : List ℕ → List ℕ → List ℕ
event_lines [] rest = rest
event_lines (e ∷ es) rest = decimal e ++ newline ∷ event_lines es rest

-- numbers of at most three digits
abbrev pub Small : List ℕ → Type 0
Small [] = Unit {0}
Small (e ∷ es) = (e < 1000) × Small es

-- ---- the line that four bytes begin with

-- the line of a number with so many bytes
abbrev pub line_of : ℕ → Option ℕ → Option EventLine
line_of n (Some e) = Some (record { event = e; bytes = n })
line_of n None = None

unfoldable pub long_line : ℕ → ℕ → ℕ → ℕ → Option EventLine
long_line a b c d =
    cond (eqb c newline) (line_of 3 (two_digits a b))
    (cond (eqb d newline) (line_of 4 (three_digits a b c)) None)

-- two digits or three, the first of them no 0, and the newline
unfoldable pub is_long : ℕ → ℕ → ℕ → ℕ → Bool
is_long a b c d = is_leading a && is_digit b && (eqb c newline || (is_digit c && eqb d newline))

-- digits, of which a newline stands for the third where there are two
pub record Digits (a b c : ℕ) : Type 0 where
  pub first : is_leading a ≡ true
  pub second : is_digit b ≡ true
  pub third : (c ≡ newline) ⊎ (is_digit c ≡ true)

unfoldable pub line_of_digits : ℕ → ℕ → ℕ → Option EventLine
line_of_digits a b c = cond (eqb c newline) (line_of 3 (two_digits a b)) (line_of 4 (three_digits a b c))

unfoldable pub line_in : ℕ → ℕ → ℕ → ℕ → Option EventLine
line_in a b c d = cond (eqb b newline) (line_of 2 (one_digit a)) (long_line a b c d)

-- ---- lines one after the other

-- the line at a place of a part; none where fewer than four bytes are left
unfoldable pub line_from : List ℕ → ℕ → Option EventLine
line_from part at =
    cond (ltb (at + 3) (length part)) (line_in (get_or part at 0) (get_or part (at + 1) 0) (get_or part (at + 2) 0) (get_or part (at + 3) 0))
    None

-- events, and the place behind their lines
pub record Lines : Type 0 where
  pub events : List ℕ
  pub at : ℕ

abbrev pub before : List ℕ → Lines → Lines
before es l = record { events = es ++ l.events; at = l.at }

-- none at a place, or its line and what follows that
abbrev pub lines_with : ℕ → Option EventLine → (ℕ → Lines) → Lines
lines_with at None behind = record { events = []; at = at }
lines_with at (Some line) behind = before (line.event ∷ []) (behind (at + line.bytes))

-- the lines from a place on, up to the first that is none, and at most so many
unfoldable pub lines_from : ℕ → List ℕ → ℕ → Lines
lines_from zero part at = record { events = []; at = at }
lines_from (suc most) part at = lines_with at (line_from part at) (lines_from most part)

abbrev pub counted : Lines → EventLines
counted l = record { count = length l.events; at = l.at }

-- the first places of a memory with the events, the others as they were
abbrev pub over : List ℕ → Lines → List ℕ
over memory l = l.events ++ drop (length l.events) memory

-- from one place of a part to another stand event lines, and their events are the first ones
pub record LinesRead (part : List ℕ) (from : ℕ) (events : List ℕ) (r : EventLines) : Type 0 where
  pub room : r.count ≤ length events
  pub starts : from ≤ r.at
  pub within : from ≤ length part → r.at ≤ length part
  pub small : Small (take r.count events)
  pub written : drop from part ≡ event_lines (take r.count events) (drop r.at part)

-- where there is room for one more, none stands behind them, as far as four bytes do
abbrev pub NoneLeft : List ℕ → List ℕ → EventLines → Type 0
NoneLeft part events r =
    r.count < length events → r.at + 3 < length part
    → line_in (get_or part r.at 0) (get_or part (r.at + 1) 0) (get_or part (r.at + 2) 0) (get_or part (r.at + 3) 0) ≡ None
