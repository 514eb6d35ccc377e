use mathlib.Core.Path.{◌≡◌, ap, ◌∙◌}
use Prim.Native.Nat.{ℕ}
use native.Mathlib.Omega.{arith}
use Rattle.print.specs.Printed.{parts_from}
use Rattle.print.proofs.Writing.{prints_none, prints-part, prints-same}
use Rattle.differences.specs.Differences.{register_line_at}
use Rattle.differences.proofs.Lines.{registers-parts}
use Rattle.differences.proofs.register_lines.Goals as goal

pub loop-place-init : goal.loop-place-init
loop-place-init c = prints_none _ (omega arith)

pub loop-place-preserved : goal.loop-place-preserved
loop-place-preserved c =
    let given = c.args in
    prints-part (register_line_at given.first.registers given.second.registers) c.loop-place.place c.loop-place.invariant c.register_at.ensures

pub returns : goal.returns
returns c =
    let given = c.args in
    let all : c.loop-place.place ≡ 29 = omega arith in
    prints-same (ap (λ (k : ℕ). parts_from (register_line_at given.first.registers given.second.registers) 0 k) all ∙ registers-parts given.first.registers given.second.registers)
    c.loop-place.invariant
