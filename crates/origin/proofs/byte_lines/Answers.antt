use Rattle.text.specs.Text.{bytes}
use Rattle.print.specs.Printed.{decimal_of}
use Rattle.print.proofs.Writing.{prints_then, prints-same}
use Rattle.origin.specs.Origin.{line_of}
use Rattle.origin.proofs.CodeWays.{last-line}
use Rattle.origin.proofs.byte_lines.Goals as goal

pub returns : goal.returns
returns c =
    prints_then (rw c.from.ensures at c.named_line.ensures)
    (prints_then (rw c.from-2.ensures at c.named_line-2.ensures)
    (prints_then c.named_line-3.ensures
    (prints-same (last-line (bytes "line") (decimal_of (line_of c.args.origin.event)))
    (prints_then c.bytes.ensures (prints_then c.line_number.ensures c.byte.ensures)))))
