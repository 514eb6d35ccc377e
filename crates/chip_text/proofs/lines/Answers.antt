use Rattle.print.proofs.Writing.{prints_then}
use Rattle.chip_text.proofs.lines.Goals as goal

pub returns : goal.returns
returns c = prints_then c.record_lines.ensures (prints_then c.bus_lines.ensures c.pixel_lines.ensures)
