use Rattle.std.proofs.Common.{arith}
use Rattle.wire_text.proofs.CodeWays.{part-over, going-allowed, front-count, front-good, part-after, part-printed}
use Rattle.wire_text.proofs.tell.Goals as goal

pub returns-then-is_over-clause-reading : goal.returns-then-is_over-clause-reading
returns-then-is_over-clause-reading c = (part-over _ _ _ c.is_over.ensures c.if-is_over.true c.args.out.now (omega arith)).0

pub returns-then-is_over-clause-told : goal.returns-then-is_over-clause-told
returns-then-is_over-clause-told c = (part-over _ _ _ c.is_over.ensures c.if-is_over.true c.args.out.now (omega arith)).1

pub slice_bounds-tell-end : goal.slice_bounds-tell-end
slice_bounds-tell-end c =
    front-count _ _ _ c.is_over.ensures c.if-is_over.false _ _ c.samples_in-n.ensures c.counted_on-samples.ensures

pub tell-wires-requires-clause-wires_allowed : goal.tell-wires-requires-clause-wires_allowed
tell-wires-requires-clause-wires_allowed c = going-allowed _ _ c.is_over.ensures c.if-is_over.false

pub tell-wires-requires-clause-all_samples : goal.tell-wires-requires-clause-all_samples
tell-wires-requires-clause-all_samples c =
    front-good _ _ _ c.is_over.ensures c.if-is_over.false _ _ c.samples_in-n.ensures c.counted_on-samples.ensures

pub returns-clause-reading : goal.returns-clause-reading
returns-clause-reading c =
    part-after _ _ _ c.is_over.ensures c.if-is_over.false _ _ c.samples_in-n.ensures c.counted_on-samples.ensures _
    c.tell-wires.ensures.after

pub returns-clause-told : goal.returns-clause-told
returns-clause-told c =
    part-printed _ _ _ c.is_over.ensures c.if-is_over.false _ _ c.samples_in-n.ensures c.counted_on-samples.ensures
    c.first_line.ensures c.tell-wires.ensures.told c.last_line.ensures
