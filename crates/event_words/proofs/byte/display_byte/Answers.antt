use Rattle.event_words.specs.Words.{display_words}
use Rattle.print.proofs.Writing.{prints_then, prints-same}
use Rattle.event_words.proofs.CodeWays.{spaced}
use borrow.Author.Rules.{rules}
use Rattle.event_words.proofs.byte.display_byte.Goals as goal

pub returns : goal.returns
unfolding display_words
returns c =
    prints_then c.bytes.ensures (prints-same (spaced _ _ _) (prints_then (rw (c.from.ensures, c.column.ensures) at c.field.ensures) (prints_then (rw c.from-2.ensures at c.field-2.ensures) (search rules))))
