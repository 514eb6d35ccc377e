use Rattle.print.specs.Printed.{parts_from}
use Rattle.print.specs.Prints.{Prints}
use Rattle.event_words.specs.Fields.{field_at}
use Rattle.event_words.proofs.command.fields.Given as goal

abbrev pub invariant-loop-part : goal.invariant-loop-part
invariant-loop-part l = Prints l.initial.out (parts_from (field_at l.registers l.byte l.row) 0 l.part) l.out
