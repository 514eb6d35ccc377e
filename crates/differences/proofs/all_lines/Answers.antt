use Rattle.print.proofs.Writing.{prints_then}
use Rattle.differences.specs.Differences.{differences_of}
use Rattle.differences.proofs.all_lines.Goals as goal

pub returns : goal.returns
unfolding differences_of
returns c = prints_then c.bytes.ensures (prints_then c.cell_lines.ensures c.register_lines.ensures)
