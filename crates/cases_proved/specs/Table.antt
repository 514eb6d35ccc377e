-- A statement of every row of a table, and a test of every row.
use Rattle.std.specs.Prelude.{Bool, true, ◌&&◌, List, [], ◌∷◌}

abbrev pub EachRow : {Row : Type 0} → (Row → Type 0) → List Row → Type 0
EachRow P [] = Unit
EachRow P (row ∷ rows) = P row × EachRow P rows

abbrev pub each_passes : {Row : Type 0} → (Row → Bool) → List Row → Bool
each_passes test [] = true
each_passes test (row ∷ rows) = test row && each_passes test rows
