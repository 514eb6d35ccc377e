-- Document 01's list of rows that can't be read. docs/INSTRUCTIONS.md holds every row of the sheet against its tests: none is listed.
use Rattle.std.specs.Prelude.{Bool, false, ◌||◌, List, [], ◌∷◌, ℕ, eqb}

-- the registers whose row is on the list, by their places
abbrev pub unreadable : List ℕ
unreadable = []

abbrev pub is_among : ℕ → List ℕ → Bool
is_among f [] = false
is_among f (g ∷ gs) = eqb f g || is_among f gs

-- register f has a row that can't be read, or none: refusal 8
abbrev pub row_unreadable : ℕ → Bool
row_unreadable f = is_among f unreadable
