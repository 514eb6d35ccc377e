use Rattle.print.proofs.Writing.{prints_then}
use Rattle.origin.specs.Origin.{origin_text}
use Rattle.origin.proofs.lines.Goals as goal

pub returns : goal.returns
unfolding origin_text
returns c = prints_then c.pixel_lines.ensures (prints_then c.cell_lines.ensures c.byte_lines.ensures)
