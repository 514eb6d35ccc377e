use native.Mathlib.Omega.{arith}
use Rattle.print.proofs.Writing.{prints_none, prints-next, prints-all}
use Rattle.print.proofs.Printout.bytes.Goals as goal

pub loop-b-init : goal.loop-b-init
loop-b-init c = prints_none _ (omega arith)

pub loop-b-preserved : goal.loop-b-preserved
loop-b-preserved c = prints-next _ _ c.loop-b-test.true c.loop-b.invariant c.byte.ensures

pub returns : goal.returns
returns c = prints-all _ c.loop-b-test.false c.loop-b.invariant
