use native.Mathlib.Omega.{arith}
use Rattle.print.proofs.Writing.{prints_none}
use Rattle.program_io.proofs.CodeWays.{shown-next, shown-all}
use Rattle.program_io.proofs.words.shown.Goals as goal

pub loop-b-init : goal.loop-b-init
loop-b-init c = prints_none _ (omega arith)

pub loop-b-preserved : goal.loop-b-preserved
loop-b-preserved c = shown-next _ _ _ c.loop-b-test.true c.shown_byte.ensures c.loop-b.invariant c.byte.ensures

pub returns : goal.returns
returns c = shown-all _ c.loop-b-test.false c.loop-b.invariant
