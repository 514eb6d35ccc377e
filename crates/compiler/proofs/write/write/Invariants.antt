use Prim.Native.Nat.{◌-◌}
use lib.ListN.{length}
use Rattle.compiler.proofs.CodeWays.{Writing}
use Rattle.compiler.proofs.write.write.Given as goal

abbrev pub invariant-loop-at : goal.invariant-loop-at
invariant-loop-at l = Writing l.text l.pins l.initial.tracked l.initial.out l.at l.here l.tracked l.out

abbrev pub decreases-loop-at : goal.decreases-loop-at
decreases-loop-at l = length l.text - l.at
