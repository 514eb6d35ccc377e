use Rattle.print.proofs.CodeWays.{prints-named}
use Rattle.print.proofs.Printout.named_line.Goals as goal

pub returns : goal.returns
returns c = prints-named _ _ c.bytes.ensures c.byte.ensures c.field.ensures
