use Rattle.print.specs.Printed.{parts_from}
use Rattle.print.specs.Prints.{Prints}
use Rattle.pulses.specs.Row.{pixel_bytes}
use Rattle.pulses.proofs.of_row.Given as goal

-- the pixels before this column are printed
abbrev pub invariant-loop-column : goal.invariant-loop-column
invariant-loop-column l = Prints l.initial.printed (parts_from (pixel_bytes l.chip l.memory l.row) 0 l.column) l.printed
