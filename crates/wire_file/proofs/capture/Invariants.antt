use Rattle.wire_file.proofs.CodeWays.{ReadSoFar}
use Rattle.wire_file.proofs.capture.Given as goal

abbrev pub invariant-loop : goal.invariant-loop
invariant-loop l = ReadSoFar l.fn.pins l.reading l.counter
