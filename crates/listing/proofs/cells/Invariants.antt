use mathlib.Core.List.{◌++◌}
use Rattle.print.specs.Printed.{parts_from}
use Rattle.print.specs.Prints.{Prints}
use Rattle.listing.specs.Listing.{header, line_at}
use Rattle.listing.proofs.cells.Given as goal

abbrev pub invariant-loop-place : goal.invariant-loop-place
invariant-loop-place l = Prints l.fn.out (header ++ parts_from (line_at l.memory l.writers) 0 l.place) l.out
