use Rattle.print.proofs.Writing.{prints_then, prints-same}
use Rattle.event_words.proofs.CodeWays.{line-fields}
use Rattle.event_words.proofs.line.Goals as goal

pub returns : goal.returns
returns c =
    prints-same (line-fields _ _ _ _)
    (prints_then c.decimal_plus.ensures
    (prints_then c.byte.ensures
    (prints_then (rw c.from.ensures at c.field.ensures)
    (prints_then c.what.ensures (prints_then c.byte-2.ensures (prints_then c.answer.ensures c.byte-3.ensures))))))
