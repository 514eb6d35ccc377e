use Rattle.print.proofs.Writing.{prints_then, prints-same}
use Rattle.event_words.proofs.CodeWays.{name-found}
use borrow.Author.Rules.{rules}
use Rattle.event_words.proofs.command.field.Goals as goal

pub returns : goal.returns
returns c =
    prints_then c.byte.ensures
    (prints_then (prints-same (name-found _ _ _ c.all-all.ensures c.piece.ensures) c.bytes.ensures) (prints_then c.byte-2.ensures (search rules)))
