use Rattle.print.proofs.Writing.{prints_then, prints-same}
use Rattle.differences.proofs.CodeWays.{cell-fields}
use Rattle.differences.proofs.cell.Goals as goal

pub returns : goal.returns
returns c =
    prints-same (cell-fields _ _ _ _ _ _)
    (prints_then c.field.ensures
    (prints_then c.field-2.ensures
    (prints_then (rw c.from.ensures at c.field-3.ensures)
    (prints_then (rw c.from-2.ensures at c.field-4.ensures) (prints_then c.field-5.ensures c.field-6.ensures)))))
