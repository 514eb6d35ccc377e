use mathlib.Core.Path.{refl, ◌∙◌}
use native.Mathlib.Omega.{arith}
use Rattle.capture_file.proofs.CodeWays.{begun, begun-refused, turn-fed, last-fed, all-fed}
use Rattle.capture_file.proofs.play.Goals as goal

pub returns-in-Err : goal.returns-in-Err
returns-in-Err c = begun-refused _ _ _ _ _ _ c.start.ensures c.in-Err.ensures

pub loop-init : goal.loop-init
loop-init c = (refl, refl, begun _ _ _ _ _ _ c.start.ensures c.in-Ok.ensures)

pub loop-preserved : goal.loop-preserved
loop-preserved c = (
  c.read_once.auto.memory ∙ c.loop.invariant.0,
  c.read_once.auto.writers ∙ c.loop.invariant.1,
  turn-fed c.loop.invariant.2 _ c.in-More.ensures,
)

pub returns-in-Last : goal.returns-in-Last
returns-in-Last c = last-fed c.loop.invariant.2 _ _ _ c.in-Last.ensures c.finish.ensures

pub returns : goal.returns
returns c = all-fed c.loop.invariant.2 _ c.finish-2.ensures (omega (arith, c.loop-test.false, c.loop.auto.counter-end))
