use Rattle.engine.proofs.Running.{Running}
use Rattle.phases.specs.Interface.{whole}
use Rattle.registers.specs.State.{state}
use lib.ListN.{length}
use Prim.Native.Nat.{◌+◌, ◌-◌, ◌^◌, ◌≤◌, ◌<◌}
use mathlib.Core.Path.{◌≡◌}
use Rattle.engine.proofs.sequence.go_through.Given as goal

abbrev pub invariant-loop-done : goal.invariant-loop-done
invariant-loop-done l =
    ((l.done ≤ l.end) × (l.end ≤ length l.events) × (l.count + l.end < 2 ^ 64))
    × (length l.memory ≡ length l.initial.memory)
    × (length l.writers ≡ length l.initial.writers)
    × Running l.events (state (whole l.initial.registers l.initial.interface l.initial.pixels) l.initial.memory l.initial.writers l.count) l.done
    (state (whole l.registers l.interface l.pixels) l.memory l.writers (l.count + l.done)) l.unknown l.out_of_range

abbrev pub decreases-loop-done : goal.decreases-loop-done
decreases-loop-done l =
    l.end - l.done
