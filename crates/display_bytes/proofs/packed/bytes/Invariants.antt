use Rattle.display_bytes.specs.Lanes.{unpacked_of, Packed}
use Rattle.display_bytes.proofs.Ways.{Stretching}
use lib.ListN.{length}
use Prim.Native.Nat.{◌+◌, ◌^◌, ◌≤◌, ◌<◌}
use mathlib.Core.Path.{◌≡◌}
use Rattle.display_bytes.proofs.packed.bytes.Given as goal

abbrev pub invariant-loop-event : goal.invariant-loop-event
invariant-loop-event l =
    ((l.end ≤ length l.events) × (l.count + l.end < 2 ^ 64))
    × ((length l.memory ≡ 1717) × (length l.writers ≡ 1717))
    × ((l.at.x ≤ 100) × (l.at.y ≤ 16))
    × Packed l.sum
    × Stretching l.events l.initial.at (unpacked_of l.initial.sum) l.initial.memory l.initial.writers l.count l.event-index l.at (unpacked_of l.sum) l.memory l.writers l.number
