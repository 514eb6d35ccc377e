use Rattle.std.proofs.Common.{◌≡◌, length}
use Rattle.wire_samples.proofs.SoFar.{SoFar}
use Rattle.wire_samples.proofs.part.read.Given as goal

abbrev pub invariant-loop-at : goal.invariant-loop-at
invariant-loop-at l =
    (length l.events ≡ length l.initial.events) × (l.last ≡ l.after.last) × SoFar l.fn.wires l.samples l.initial.events l.at l.written l.after l.events
