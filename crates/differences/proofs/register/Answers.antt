use Rattle.print.proofs.Writing.{prints_then, prints-same}
use Rattle.differences.proofs.CodeWays.{register-fields, name-found}
use Rattle.differences.proofs.register.Goals as goal

pub returns : goal.returns
returns c =
    prints-same (register-fields _ _ _)
    (prints_then (prints-same (name-found _ _ _ c.all-all.ensures c.piece.ensures) c.bytes.ensures)
    (prints_then c.byte.ensures (prints_then (rw c.from.ensures at c.field.ensures) (rw c.from-2.ensures at c.field-2.ensures))))
