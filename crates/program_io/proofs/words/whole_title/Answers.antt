use Rattle.print.proofs.Writing.{prints_then}
use Rattle.program_io.proofs.words.whole_title.Goals as goal

pub returns : goal.returns
returns c = prints_then (prints_then c.bytes.ensures c.bytes-2.ensures) c.name.ensures
