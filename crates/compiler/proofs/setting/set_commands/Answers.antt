use mathlib.Core.Path.{refl, sym, ◌∙◌}
use native.Mathlib.Omega.{arith}
use Rattle.compiler.proofs.Settings.{grey-said, page-0-said, page-said}
use Rattle.compiler.proofs.setting.set_commands.Goals as goal

pub returns-then-is_grey : goal.returns-then-is_grey
returns-then-is_grey c =
    let given = c.args in
    let grey = sym c.is_grey.ensures ∙ c.if-is_grey.true in
    (grey-said given.field _ _ given.target grey c.row_byte-select.ensures c.row_byte-level.ensures, omega arith)

pub returns-then-page-eq0 : goal.returns-then-page-eq0
returns-then-page-eq0 c =
    let given = c.args in
    let other = sym c.is_grey.ensures ∙ c.if-is_grey.false in (
      page-0-said given.field _ _ given.target other
          _ c.row_for-row.ensures c.page_of-page.ensures c.row_byte-byte.ensures c.if-page-eq0.true,
      omega arith,
    )

pub returns : goal.returns
returns c =
    let given = c.args in
    let other = sym c.is_grey.ensures ∙ c.if-is_grey.false in (
      page-said given.field _ _ given.target other
          _ c.row_for-row.ensures c.page_of-page.ensures c.row_byte-byte.ensures _ refl c.if-page-eq0.false,
      omega arith,
    )
