use mathlib.Core.Path.{sym, ◌∙◌}
use Rattle.compiler.proofs.Settings.{grey-count, page-0-count, page-count}
use Rattle.compiler.proofs.setting.commands_count.Goals as goal

pub returns-then-is_grey : goal.returns-then-is_grey
returns-then-is_grey c = grey-count c.args.field (sym c.is_grey.ensures ∙ c.if-is_grey.true)

pub returns-then-page_of-eq0 : goal.returns-then-page_of-eq0
returns-then-page_of-eq0 c =
    let other = sym c.is_grey.ensures ∙ c.if-is_grey.false in
    page-0-count c.args.field _ _ other c.row_for.ensures c.page_of.ensures c.if-page_of-eq0.true

pub returns : goal.returns
returns c =
    let other = sym c.is_grey.ensures ∙ c.if-is_grey.false in
    page-count c.args.field _ _ other c.row_for.ensures c.page_of.ensures c.if-page_of-eq0.false
