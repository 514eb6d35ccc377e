use mathlib.Core.Path.{sym}
use mathlib.Core.List.{List, [], ◌∷◌, ◌++◌}
use Prim.Native.Nat.{ℕ}
use Rattle.print.specs.Printed.{decimal_of}
use Rattle.print.proofs.Writing.{prints_then, prints-same, prints-known}
use Rattle.picture.proofs.CodeWays.{pixel-fields}
use Rattle.picture.proofs.pixel.Goals as goal

-- a number and the byte after it
abbrev ended : ℕ → ℕ → List ℕ
ended end n = decimal_of n ++ (end ∷ [])

pub returns : goal.returns
returns c =
    let colour = c.args.colour in
    prints-same (pixel-fields (decimal_of colour.red) (decimal_of colour.green) (decimal_of colour.blue))
    (prints_then (prints-known (ended 32) _ (sym c.from.ensures) c.field.ensures)
    (prints_then (prints-known (ended 32) _ (sym c.from-2.ensures) c.field-2.ensures) (prints-known (ended 10) _ (sym c.from-3.ensures) c.field-3.ensures)))
