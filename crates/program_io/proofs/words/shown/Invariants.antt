use Rattle.std.proofs.Common.{take}
use Rattle.print.specs.Prints.{Prints}
use Rattle.program_io.specs.Messages.{shown_of}
use Rattle.program_io.proofs.words.shown.Given as goal

abbrev pub invariant-loop-b : goal.invariant-loop-b
invariant-loop-b l = Prints l.initial.out (shown_of (take l.b-index l.s)) l.out
