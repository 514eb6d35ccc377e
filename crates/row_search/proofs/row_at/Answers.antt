use mathlib.Core.Path.{sym}
use borrow.Author.Rules.{rules}
use Rattle.row_search.proofs.CodeWays.{row-in-page, row-past-pages}
use Rattle.row_search.proofs.row_at.Goals as goal

pub returns-then-h-gt4 : goal.returns-then-h-gt4
returns-then-h-gt4 c = row-past-pages _ _ _ c.if-h-gt4.true (search rules) c.look.ensures

pub returns : goal.returns
returns c = row-in-page _ _ _ _ (sym c.page_of.ensures) c.find.ensures
