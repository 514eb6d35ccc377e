use mathlib.Core.Path.{◌≡◌, ap, ◌∙◌}
use Prim.Native.Nat.{ℕ}
use native.Mathlib.Omega.{arith}
use Rattle.registers.specs.State.{places}
use Rattle.print.specs.Printed.{parts_from}
use Rattle.print.proofs.Writing.{prints_none, prints-part, prints-same}
use Rattle.differences.specs.Differences.{cell_line_at}
use Rattle.differences.specs.Sides.{side_of}
use Rattle.differences.proofs.Lines.{cells-parts}
use Rattle.differences.proofs.cell_lines.Goals as goal

pub loop-place-init : goal.loop-place-init
loop-place-init c = prints_none _ (omega arith)

pub loop-place-preserved : goal.loop-place-preserved
loop-place-preserved c =
    let given = c.args in
    prints-part (cell_line_at (side_of given.first).cells (side_of given.second).cells) c.loop-place.place c.loop-place.invariant c.cell_at.ensures

pub returns : goal.returns
returns c =
    let given = c.args in
    let all : c.loop-place.place ≡ places = omega arith in
    prints-same (ap (λ (k : ℕ). parts_from (cell_line_at (side_of given.first).cells (side_of given.second).cells) 0 k) all ∙ cells-parts (side_of given.first).cells (side_of given.second).cells)
    c.loop-place.invariant
