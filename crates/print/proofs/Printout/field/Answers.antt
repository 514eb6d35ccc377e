use Rattle.print.proofs.Writing.{prints_then}
use Rattle.print.proofs.Printout.field.Goals as goal

pub returns : goal.returns
returns c = prints_then c.decimal.ensures c.byte.ensures
