-- From a test that every row of a table passes to a statement of every row.
use mathlib.Core.Bool.{Bool}
use mathlib.Core.List.{List, [], ◌∷◌}
use lib.Dec.{T}
use Rattle.registers.proofs.Below.{and_left, and_right}
use Rattle.cases_proved.specs.Table.{EachRow, each_passes}

pub each_row :
    {Row : Type 0} (P : Row → Type 0) (test : Row → Bool) → ((row : Row) → T (test row) → P row)
    → (rows : List Row) → T (each_passes test rows) → EachRow P rows
each_row P test f [] t = tt
each_row P test f (row ∷ rows) t =
    (f row (and_left (test row) (each_passes test rows) t), each_row P test f rows (and_right (test row) (each_passes test rows) t))
