use Rattle.std.proofs.Common.{take}
use Rattle.print.specs.Chosen.{lines_of}
use Rattle.print.specs.Prints.{Prints}
use Rattle.wire_text.specs.Capture.{event_line}
use Rattle.wire_text.proofs.events.lines.Given as goal

abbrev pub invariant-loop-event : goal.invariant-loop-event
invariant-loop-event l = Prints l.initial.out (lines_of event_line (take l.event-index l.events)) l.out
