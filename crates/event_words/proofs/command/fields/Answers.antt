use mathlib.Core.Path.{◌≡◌, ap, ◌∙◌}
use Prim.Native.Nat.{ℕ}
use native.Mathlib.Omega.{arith}
use Rattle.print.specs.Printed.{parts_from}
use Rattle.print.proofs.Writing.{prints-same, prints_none, prints-part}
use Rattle.event_words.specs.Fields.{field_at}
use Rattle.event_words.proofs.Fields.{row-fields}
use Rattle.event_words.proofs.command.fields.Goals as goal

pub loop-part-init : goal.loop-part-init
loop-part-init c = prints_none _ (omega arith)

pub loop-part-preserved : goal.loop-part-preserved
loop-part-preserved c =
    let given = c.args in
    prints-part (field_at given.registers given.byte given.row) c.loop-part.part c.loop-part.invariant c.field_at.ensures

pub returns : goal.returns
returns c =
    let given = c.args in
    let all : c.loop-part.part ≡ 29 = omega arith in
    prints-same (ap (λ (k : ℕ). parts_from (field_at given.registers given.byte given.row) 0 k) all ∙ row-fields given.registers given.byte given.row)
    c.loop-part.invariant
