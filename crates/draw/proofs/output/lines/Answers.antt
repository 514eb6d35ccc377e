use native.Mathlib.Omega.{arith}
use Rattle.print.proofs.Writing.{prints_none, prints-part, prints-parts}
use Rattle.draw.specs.Lines.{event_line}
use Rattle.draw.proofs.output.lines.Goals as goal

pub loop-event-init : goal.loop-event-init
loop-event-init c = prints_none _ (omega arith)

pub loop-event-preserved : goal.loop-event-preserved
loop-event-preserved c =
    prints-part (event_line c.args.events.now) c.loop-event.event-index c.loop-event.invariant (rw c.from.ensures at c.field.ensures)

pub returns : goal.returns
returns c =
    prints-parts (event_line c.args.events.now) c.loop-event.auto.event-index-end c.loop-event-test.false c.loop-event.invariant
