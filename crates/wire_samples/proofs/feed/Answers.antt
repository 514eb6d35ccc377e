use Rattle.wire_samples.proofs.Refused.{refused, accepted}
use Rattle.wire_samples.proofs.feed.Goals as goal

pub returns-in-Err-clause-value : goal.returns-in-Err-clause-value
returns-in-Err-clause-value c = (refused _ _ c.args.events.now _ c.in-Err.ensures).value

pub returns-in-Err-clause-events_after : goal.returns-in-Err-clause-events_after
returns-in-Err-clause-events_after c = (refused _ _ c.args.events.now _ c.in-Err.ensures).events_after

pub returns-clause-value : goal.returns-clause-value
returns-clause-value c = (accepted _ _ c.args.events.now c.in_default.ensures _ _ c.read.ensures.value c.read.ensures.events_after).value

pub returns-clause-events_after : goal.returns-clause-events_after
returns-clause-events_after c =
    (accepted _ _ c.args.events.now c.in_default.ensures _ _ c.read.ensures.value c.read.ensures.events_after).events_after
