use Rattle.std.proofs.Common.{arith, refl, sym, subst, ◌∙◌}
use lib.Dec.{T}
use Rattle.wire_file.proofs.CodeWays.{begun, turn-read, last-read, all_read}
use Rattle.wire_file.proofs.capture.Goals as goal

pub loop-init : goal.loop-init
loop-init c = begun _ _ c.start-reading.ensures

pub loop-preserved : goal.loop-preserved
loop-preserved c = turn-read c.loop.invariant _ c.in-More.ensures

pub returns-in-More-2 : goal.returns-in-More-2
returns-in-More-2 c = last-read c.loop.invariant _ c.in-More-2.ensures _ (λ h. absurd (subst T (sym h ∙ c.if-printed.false) tt))

pub returns-in-Last : goal.returns-in-Last
returns-in-Last c = last-read c.loop.invariant _ c.in-Last.ensures _ (λ h. refl)

pub returns : goal.returns
returns c = all_read c.loop.invariant (omega (arith, c.loop-test.false, c.loop.auto.counter-end))
