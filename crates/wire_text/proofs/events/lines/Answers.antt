use Rattle.std.proofs.Common.{arith, rules}
use Rattle.print.proofs.Writing.{prints_none}
use Rattle.wire_text.proofs.CodeWays.{lines-next, lines-all}
use Rattle.wire_text.proofs.events.lines.Goals as goal

pub loop-event-init : goal.loop-event-init
loop-event-init c = prints_none _ (omega arith)

pub loop-event-preserved : goal.loop-event-preserved
loop-event-preserved c = lines-next _ _ c.loop-event-test.true c.loop-event.invariant (search rules)

pub returns : goal.returns
returns c = lines-all _ _ c.loop-event-test.false c.loop-event.invariant
