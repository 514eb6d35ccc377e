use Rattle.print.proofs.Writing.{prints_then, prints-same}
use Rattle.listing.proofs.CodeWays.{cell-fields}
use Rattle.listing.proofs.cell.Goals as goal

pub returns : goal.returns
returns c =
    prints-same (cell-fields _ _ _ _)
    (prints_then c.field.ensures (prints_then c.field-2.ensures (prints_then (rw c.from.ensures at c.field-3.ensures) c.field-4.ensures)))
