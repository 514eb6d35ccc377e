use mathlib.Core.Path.{ap}
use native.Mathlib.Omega.{arith}
use Rattle.registers.specs.declared.PixelCounts.{PixelCounts}
use Rattle.pixel_counts.proofs.CodeWays.{none_yet, few, one_more, whole-memory}
use Rattle.pixel_counts.proofs.of_memory.Goals as goal

pub loop-at-init : goal.loop-at-init
loop-at-init c = (none_yet _ _, none_yet _ _, none_yet _ _, none_yet _ _)

pub overflow_add-zeros : goal.overflow_add-zeros
overflow_add-zeros c =
    let low = few 0 _ _ _ (ap (λ (n : PixelCounts). n.zeros) c.shown-here.ensures) in
    omega (arith, low, c.loop-at.invariant.0.low, c.loop-at-test.true)

pub overflow_add-ones : goal.overflow_add-ones
overflow_add-ones c =
    let low = few 1 _ _ _ (ap (λ (n : PixelCounts). n.ones) c.shown-here.ensures) in
    omega (arith, low, c.loop-at.invariant.1.low, c.loop-at-test.true)

pub overflow_add-twos : goal.overflow_add-twos
overflow_add-twos c =
    let low = few 2 _ _ _ (ap (λ (n : PixelCounts). n.twos) c.shown-here.ensures) in
    omega (arith, low, c.loop-at.invariant.2.low, c.loop-at-test.true)

pub overflow_add-threes : goal.overflow_add-threes
overflow_add-threes c =
    let low = few 3 _ _ _ (ap (λ (n : PixelCounts). n.threes) c.shown-here.ensures) in
    omega (arith, low, c.loop-at.invariant.3.low, c.loop-at-test.true)

pub loop-at-preserved : goal.loop-at-preserved
loop-at-preserved c =
    let byte = c.entry.ensures in
    let so_far = c.loop-at.invariant in (
      one_more _ _ _ _ _ _ so_far.0 byte (ap (λ (n : PixelCounts). n.zeros) c.shown-here.ensures),
      one_more _ _ _ _ _ _ so_far.1 byte (ap (λ (n : PixelCounts). n.ones) c.shown-here.ensures),
      one_more _ _ _ _ _ _ so_far.2 byte (ap (λ (n : PixelCounts). n.twos) c.shown-here.ensures),
      one_more _ _ _ _ _ _ so_far.3 byte (ap (λ (n : PixelCounts). n.threes) c.shown-here.ensures),
    )

pub returns : goal.returns
returns c =
    let here = c.loop-at in
    whole-memory _ here.at _ _ _ _ (omega arith) here.invariant.0 here.invariant.1 here.invariant.2 here.invariant.3
