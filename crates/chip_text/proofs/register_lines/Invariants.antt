use Rattle.print.specs.Printed.{parts_from}
use Rattle.print.specs.Prints.{Prints}
use Rattle.chip_text.specs.ChipText.{register_line_at}
use Rattle.chip_text.proofs.register_lines.Given as goal

abbrev pub invariant-loop-place : goal.invariant-loop-place
invariant-loop-place l = Prints l.initial.out (parts_from (register_line_at l.values) 0 l.place) l.out
