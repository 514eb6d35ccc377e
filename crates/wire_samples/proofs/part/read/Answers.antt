use Rattle.std.proofs.Common.{refl, sym, ap, ◌∙◌, arith}
use Rattle.wire_samples.specs.declared.sample.Sampled.{Sampled}
use Rattle.wire_samples.proofs.Again.{last-sample}
use Rattle.wire_samples.proofs.SoFar.{begins, one_again, short, put_on, all_read}
use Rattle.wire_samples.proofs.part.read.Goals as goal

pub loop-at-init : goal.loop-at-init
loop-at-init c = (refl, refl, begins _ _ _)

pub loop-at-preserved-then-now-last : goal.loop-at-preserved-then-now-last
loop-at-preserved-then-now-last c =
    (c.loop-at.invariant.0, c.loop-at.invariant.1, one_again _ _ _ c.loop-at.invariant.2 c.loop-at-test.true (c.if-now-last.true ∙ c.loop-at.invariant.1))

pub returns-in_default-clause-value : goal.returns-in_default-clause-value
returns-in_default-clause-value c =
    (short _ _ _ c.loop-at.invariant.2 c.loop-at-test.true _ c.sample-sampled.ensures c.in_default.ensures.0 _ (omega arith)).answer

pub returns-in_default-clause-events_after : goal.returns-in_default-clause-events_after
returns-in_default-clause-events_after c =
    c.in_default.ensures.1
    ∙ (short _ _ _ c.loop-at.invariant.2 c.loop-at-test.true _ c.sample-sampled.ensures c.in_default.ensures.0 _ refl).leaves

pub loop-at-preserved : goal.loop-at-preserved
loop-at-preserved c =
    let there =
    put_on _ _ _ c.loop-at.invariant.2 c.loop-at-test.true _ c.sample-sampled.ensures c.in-Some.ensures.0 _ _ c.in-Some.ensures.2
    c.in-Some.ensures.1 in
    (there.0, sym (ap (λ (r : Sampled). r.wires.last) c.sample-sampled.ensures ∙ last-sample _ _), there.1)

pub returns-clause-value : goal.returns-clause-value
returns-clause-value c =
    (all_read _ _ _ c.loop-at.invariant.2 (omega (arith, c.loop-at-test.false))).answer
