use Rattle.print.specs.Printed.{parts_from}
use Rattle.print.specs.Prints.{Prints}
use Rattle.draw.specs.Lines.{event_line}
use Rattle.draw.proofs.output.lines.Given as goal

abbrev pub invariant-loop-event : goal.invariant-loop-event
invariant-loop-event l = Prints l.initial.out (parts_from (event_line l.events) 0 l.event-index) l.out
