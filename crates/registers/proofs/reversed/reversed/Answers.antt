use Rattle.registers.proofs.Tables.{reversed-at}
use borrow.Author.Rules.{rules}
use Rattle.registers.proofs.reversed.reversed.Goals as goal

pub returns : goal.returns
returns c = rw c.from.ensures (reversed-at _ (search rules))
