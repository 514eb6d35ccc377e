use mathlib.Core.Path.{refl, ◌∙◌}
use native.Mathlib.Omega.{arith}
use Rattle.trace_file.proofs.CodeWays.{begun-followed, refused-followed, known-turn, turn-followed, last-followed, stopped-followed, all-followed}
use Rattle.trace_file.proofs.follow.Goals as goal

pub returns-in-Err : goal.returns-in-Err
returns-in-Err c = refused-followed _ _ _ _ _ _ _ c.start.ensures c.in-Err.ensures c.none-tally.ensures

pub loop-init : goal.loop-init
loop-init c = (refl, refl, begun-followed _ _ _ _ _ _ _ c.start.ensures c.in-Ok.ensures c.none-tally.ensures)

pub loop-preserved : goal.loop-preserved
loop-preserved c = (
  c.read_once-step.auto.memory ∙ c.loop.invariant.0,
  c.read_once-step.auto.writers ∙ c.loop.invariant.1,
  turn-followed c.loop.invariant.2 _ _ (known-turn _ _ c.in-More.is c.read_once-step.ensures),
)

pub returns-then-not-printed : goal.returns-then-not-printed
returns-then-not-printed c =
    stopped-followed (turn-followed c.loop.invariant.2 _ _ (known-turn _ _ c.in-More.is c.read_once-step.ensures)) _ _ c.finish.ensures c.if-not-printed.true

pub returns-in-Last : goal.returns-in-Last
returns-in-Last c =
    last-followed c.loop.invariant.2 _ _ _ _ _ (known-turn _ _ c.in-Last.is c.read_once-step.ensures) c.finish-in-Last.ensures

pub returns : goal.returns
returns c = all-followed c.loop.invariant.2 _ c.finish-2.ensures (omega (arith, c.loop-test.false, c.loop.auto.counter-end))
