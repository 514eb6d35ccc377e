use mathlib.Core.Path.{sym, ◌∙◌}
use native.Mathlib.Omega.{arith}
use Rattle.event_words.proofs.CodeWays.{field-of-other, field-of-own}
use Rattle.event_words.proofs.command.field_at.Goals as goal

pub returns-then-from-row : goal.returns-then-from-row
returns-then-from-row c =
    let given = c.args in
    field-of-own given.registers given.byte given.row given.part _ c.part_row.ensures _ _ _ (sym c.from.ensures ∙ c.if-from-row.true) c.part_target.ensures c.place-place.ensures c.value.ensures c.field.ensures

pub returns-else-from-row : goal.returns-else-from-row
returns-else-from-row c =
    let given = c.args in
    field-of-other given.registers given.byte given.row given.part _ c.part_row.ensures (omega arith) (λ e. c.if-from-row.false (c.from.ensures ∙ e))
