use mathlib.Core.Path.{sym, ◌∙◌}
use native.Mathlib.Omega.{arith}
use Rattle.drawing.proofs.SetPlays.{grey-bounds}
use Rattle.compiler.proofs.Settings.{grey-set, other-set}
use Rattle.compiler.proofs.setting.with_field.Goals as goal

pub overflow_sub-field : goal.overflow_sub-field
overflow_sub-field c =
    let grey = sym c.is_grey.ensures ∙ c.if-is_grey.true in
    omega (arith, (grey-bounds c.args.field grey).0)

pub returns-then-is_grey : goal.returns-then-is_grey
returns-then-is_grey c =
    let grey = sym c.is_grey.ensures ∙ c.if-is_grey.true in
    grey-set _ _ c.args.registers _ _ grey c.with.ensures c.with-then-is_grey.ensures

pub returns : goal.returns
returns c =
    let other = sym c.is_grey.ensures ∙ c.if-is_grey.false in
    other-set _ _ c.args.registers _ other c.with-2.ensures
