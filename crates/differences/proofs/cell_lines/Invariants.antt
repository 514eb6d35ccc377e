use Rattle.print.specs.Printed.{parts_from}
use Rattle.print.specs.Prints.{Prints}
use Rattle.differences.specs.Differences.{cell_line_at}
use Rattle.differences.specs.Sides.{side_of}
use Rattle.differences.proofs.cell_lines.Given as goal

abbrev pub invariant-loop-place : goal.invariant-loop-place
invariant-loop-place l = Prints l.initial.out (parts_from (cell_line_at (side_of l.first).cells (side_of l.second).cells) 0 l.place) l.out
