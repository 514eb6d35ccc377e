use mathlib.Core.Path.{◌≡◌, ap}
use Prim.Native.Nat.{ℕ}
use native.Mathlib.Omega.{arith}
use Rattle.print.specs.Printed.{parts_from}
use Rattle.print.proofs.Writing.{prints_none, prints-part, prints-same}
use Rattle.chip_text.specs.ChipText.{register_line_at, register_lines}
use Rattle.chip_text.proofs.register_lines.Goals as goal

pub loop-place-init : goal.loop-place-init
loop-place-init c = prints_none _ (omega arith)

pub loop-place-preserved : goal.loop-place-preserved
loop-place-preserved c = prints-part (register_line_at c.args.values.now) c.loop-place.place c.loop-place.invariant c.register.ensures

pub returns : goal.returns
unfolding register_lines
returns c =
    let all : c.loop-place.place ≡ 29 = omega arith in
    prints-same (ap (λ (k : ℕ). parts_from (register_line_at c.args.values.now) 0 k) all) c.loop-place.invariant
