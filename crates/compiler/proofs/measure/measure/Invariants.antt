use Prim.Native.Nat.{◌-◌}
use lib.ListN.{length}
use Rattle.compiler.proofs.CodeWays.{Measuring}
use Rattle.compiler.proofs.measure.measure.Given as goal

abbrev pub invariant-loop-at : goal.invariant-loop-at
invariant-loop-at l = Measuring l.text l.pins l.initial.tracked l.at l.number l.tracked l.length l.bytes

abbrev pub decreases-loop-at : goal.decreases-loop-at
decreases-loop-at l = length l.text - l.at
