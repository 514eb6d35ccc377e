use borrow.Author.Rules.{rules}
use Rattle.instruction_table.proofs.RowByte.{row-for-at, no-row-for}
use Rattle.instruction_table.proofs.encoding.row_for.Goals as goal

pub returns-then-register-ge29 : goal.returns-then-register-ge29
returns-then-register-ge29 c = no-row-for c.args.register c.if-register-ge29.true

pub returns : goal.returns
returns c = row-for-at c.args.register (search rules)
