use Prim.Native.Nat.{◌-◌}
use Rattle.compiler.proofs.CodeRuns.{Running}
use Rattle.compiler.proofs.runs.write_runs.Given as goal

abbrev pub invariant-loop : goal.invariant-loop
invariant-loop l = Running l.initial.out l.at l.pins l.runs l.out l.here l.x l.y (l.runs.count - l.counter)
