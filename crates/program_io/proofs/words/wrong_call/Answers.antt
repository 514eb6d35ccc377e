use Rattle.print.proofs.Writing.{prints_then}
use Rattle.program_io.proofs.words.wrong_call.Goals as goal

pub returns : goal.returns
returns c =
    prints_then (prints_then (prints_then (prints_then c.bytes.ensures c.bytes-2.ensures) c.bytes-3.ensures) c.bytes-4.ensures)
    c.usage_line.ensures
