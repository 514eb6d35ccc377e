use Rattle.print.proofs.Writing.{prints-same, prints_then}
use Rattle.draw.proofs.CodeWays.{some-place}
use Rattle.draw.proofs.refusal.place.Goals as goal

pub returns-then-line-ne0 : goal.returns-then-line-ne0
returns-then-line-ne0 c = prints-same (some-place _ c.if-line-ne0.true) (prints_then c.bytes.ensures c.decimal.ensures)
