use Rattle.print.proofs.Writing.{prints_then}
use Rattle.chip_text.specs.ChipText.{bus_lines}
use Rattle.chip_text.proofs.bus_lines.Goals as goal

pub returns : goal.returns
unfolding bus_lines
returns c = prints_then c.phase_line.ensures (prints_then c.named_line.ensures (prints_then c.named_line-2.ensures c.named_line-3.ensures))
