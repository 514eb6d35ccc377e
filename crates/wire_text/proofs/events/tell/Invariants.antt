use Rattle.std.proofs.Common.{◌≡◌, length}
use Rattle.std.specs.Slice.Iter.{chunks_rest, chunks_size}
use Rattle.wire_text.proofs.CodeWays.{ToldSoFar}
use Rattle.wire_text.proofs.events.tell.Given as goal

abbrev pub invariant-loop-some : goal.invariant-loop-some
invariant-loop-some l =
    (chunks_size l.some-iterator ≡ 4096) × (length l.events ≡ 4096) × ToldSoFar l.fn.wires l.samples l.initial.out (chunks_rest l.some-iterator) l.after l.out
