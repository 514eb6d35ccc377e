use Rattle.print.proofs.CodeWays.{prints-sum-digit, prints-sum-digits}
use Rattle.print.proofs.Printout.decimal_plus.Goals as goal

pub returns-then-tens-eq0 : goal.returns-then-tens-eq0
returns-then-tens-eq0 c = rw c.from.ensures at (prints-sum-digit c.args.n _ c.if-tens-eq0.true c.byte.ensures)

pub returns-else-tens-eq0 : goal.returns-else-tens-eq0
returns-else-tens-eq0 c = rw c.from.ensures at (prints-sum-digits c.args.n _ c.if-tens-eq0.false c.decimal.ensures c.byte-else-tens-eq0.ensures)
