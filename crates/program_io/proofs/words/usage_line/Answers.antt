use Rattle.print.proofs.Writing.{prints_then}
use Rattle.program_io.proofs.words.usage_line.Goals as goal

pub returns : goal.returns
returns c = prints_then (prints_then c.bytes.ensures c.bytes-2.ensures) c.byte.ensures
