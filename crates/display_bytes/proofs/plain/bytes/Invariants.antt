use Rattle.display_bytes.proofs.Ways.{Stretching}
use lib.ListN.{length}
use Prim.Native.Nat.{◌+◌, ◌^◌, ◌≤◌, ◌<◌}
use Rattle.display_bytes.proofs.plain.bytes.Given as goal

abbrev pub invariant-loop-done : goal.invariant-loop-done
invariant-loop-done l =
    ((l.end ≤ length l.events) × (l.count + l.end < 2 ^ 64))
    × Stretching l.events l.initial.at l.initial.shown l.initial.memory l.initial.writers l.count l.done l.at l.shown l.memory l.writers l.number
