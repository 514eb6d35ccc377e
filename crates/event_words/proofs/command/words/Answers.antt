use Rattle.print.proofs.Writing.{prints_then}
use Rattle.event_words.specs.Words.{command_words}
use borrow.Author.Rules.{rules}
use Rattle.event_words.proofs.command.words.Goals as goal

pub returns : goal.returns
unfolding command_words
returns c = prints_then c.bytes.ensures (search rules)
