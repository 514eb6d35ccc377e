use Rattle.pixel_counts.proofs.CodeWays.{SoFar}
use Rattle.pixel_counts.proofs.of_memory.Given as goal

abbrev pub invariant-loop-at : goal.invariant-loop-at
invariant-loop-at l =
    SoFar 0 l.memory l.at l.zeros × SoFar 1 l.memory l.at l.ones × SoFar 2 l.memory l.at l.twos × SoFar 3 l.memory l.at l.threes
