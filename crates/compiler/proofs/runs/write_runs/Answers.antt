use native.Mathlib.Omega.{arith}
use borrow.Author.Rules.{rules}
use Rattle.compiler.proofs.CodeRuns.{running-start, running-room, running-turn, running-end}
use Rattle.compiler.proofs.runs.write_runs.Goals as goal

pub loop-init : goal.loop-init
loop-init c = running-start _ _ _ _ _ (omega arith) c.requires.0 c.requires.1

pub write_run-here-requires : goal.write_run-here-requires
write_run-here-requires c = running-room c.loop.invariant (omega arith)

pub overflow_add-x : goal.overflow_add-x
overflow_add-x c = let inv = c.loop.invariant in omega (arith, inv.x-limit, inv.fits.dx)

pub overflow_add-y : goal.overflow_add-y
overflow_add-y c = let inv = c.loop.invariant in omega (arith, inv.y-limit, inv.fits.dy)

pub loop-preserved : goal.loop-preserved
loop-preserved c = running-turn c.loop.invariant (omega arith) (search rules) c.write_run-here.ensures _ (omega arith)

pub returns : goal.returns
returns c = running-end c.loop.invariant (omega arith)
