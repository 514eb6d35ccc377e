use Rattle.print.specs.Printed.{parts_from}
use Rattle.print.specs.Prints.{Prints}
use Rattle.picture.specs.Picture.{pixel_at}
use Rattle.picture.proofs.pixels.Given as goal

abbrev pub invariant-loop-k : goal.invariant-loop-k
invariant-loop-k l = Prints l.initial.out (parts_from (pixel_at l.chip l.memory) 0 l.k) l.out
