use Rattle.print.proofs.Writing.{prints_then}
use borrow.Author.Rules.{rules}
use Rattle.event_words.proofs.refused.Goals as goal

pub returns : goal.returns
returns c = prints_then c.bytes.ensures (search rules)
