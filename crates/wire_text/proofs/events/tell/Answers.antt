use Rattle.std.proofs.Common.{arith, refl, ◌∙◌, ap}
use Rattle.std.specs.Slice.Iter.{chunks_rest, chunks_size}
use Rattle.wire_text.proofs.CodeWays.{in-ranges, ranges-allow, some_good, none_told, some-told, all-after, all-printed}
use Rattle.wire_text.proofs.events.tell.Goals as goal

pub loop-some-init : goal.loop-some-init
loop-some-init c = (
  ap chunks_size c.into_iter-some-iterator.ensures.into_iter_gives ∙ c.chunks-some-items.ensures.size,
  refl,
  none_told _ _ _ (in-ranges c.args.wires c.requires.wires_allowed (omega (arith, c.well_formed))) c.requires.all_samples (omega arith) _
      (ap chunks_rest c.into_iter-some-iterator.ensures.into_iter_gives ∙ c.chunks-some-items.ensures.rest),
)

pub tell_some-after-requires-clause-wires_allowed : goal.tell_some-after-requires-clause-wires_allowed
tell_some-after-requires-clause-wires_allowed c = ranges-allow c.loop-some.invariant.2.ranges

pub tell_some-after-requires-clause-all_samples : goal.tell_some-after-requires-clause-all_samples
tell_some-after-requires-clause-all_samples c = some_good _ _ _ c.loop-some.invariant.2 _ _ c.in-Some.ensures.steps.1.0

pub loop-some-preserved : goal.loop-some-preserved
loop-some-preserved c = (
  c.in-Some.ensures.steps.0 ∙ c.loop-some.invariant.0,
  omega arith,
  some-told _ _ _ c.loop-some.invariant.2 _ _ c.in-Some.ensures.steps.1.0 c.tell_some-after.ensures.after
      c.tell_some-after.ensures.told,
)

pub returns-clause-after : goal.returns-clause-after
returns-clause-after c = all-after _ _ _ c.loop-some.invariant.2 c.in-None.ensures.steps.1.0

pub returns-clause-told : goal.returns-clause-told
returns-clause-told c = all-printed _ _ _ c.loop-some.invariant.2 c.in-None.ensures.steps.1.0
