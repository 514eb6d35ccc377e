use Rattle.glass.specs.declared.answer.Shown.TheVariants.{Level}
use Rattle.print.proofs.Writing.{prints_then, prints-known}
use Rattle.origin.specs.Origin.{shown_text}
use Rattle.origin.proofs.shown_words.Goals as goal

pub returns-in-Level : goal.returns-in-Level
returns-in-Level c = prints-known shown_text (Level _) c.in-Level.is (prints_then c.bytes-in-Level.ensures (rw c.from.ensures at c.decimal.ensures))
