use Rattle.print.proofs.Writing.{prints_then}
use borrow.Author.Rules.{rules}
use Rattle.event_words.proofs.byte.address.Goals as goal

pub returns : goal.returns
returns c = prints_then c.bytes.ensures (prints_then (rw c.from.ensures at c.decimal.ensures) (search rules))
