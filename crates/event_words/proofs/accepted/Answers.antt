use Rattle.engine.specs.declared.answer.Answer.{Answer}
use Rattle.engine.specs.declared.answer.Answer.TheVariants.{NotAcknowledged}
use Rattle.print.proofs.Writing.{prints-known}
use Rattle.engine.specs.Answer.{given}
use Rattle.event_words.specs.Words.{answer_words}
use Rattle.event_words.proofs.accepted.Goals as goal

pub returns-in-NotAcknowledged : goal.returns-in-NotAcknowledged
unfolding answer_words
returns-in-NotAcknowledged c = prints-known (λ (a : Answer). answer_words (given a)) NotAcknowledged c.in-NotAcknowledged.is c.bytes-in-NotAcknowledged.ensures
