use Rattle.print.proofs.CodeWays.{prints-digit, prints-digits}
use Rattle.print.proofs.Printout.+decimal.Goals as goal

pub returns-then-n-lt10 : goal.returns-then-n-lt10
returns-then-n-lt10 t c = prints-digit _ c.if-n-lt10.true c.byte.ensures

pub returns-else-n-lt10 : goal.returns-else-n-lt10
returns-else-n-lt10 t c = prints-digits _ c.if-n-lt10.false c.decimal.ensures c.byte-else-n-lt10.ensures
