use mathlib.Core.List.{List, []}
use mathlib.Core.Path.{◌≡◌}
use Prim.Native.Nat.{ℕ, ◌+◌, ◌*◌}
use lib.ListN.{length, drop}
use Rattle.chip.specs.Plays.{singles}
use Rattle.compiler.specs.Writes.{Wrote}
use Rattle.compiler.proofs.message.commands.Given as goal

abbrev pub invariant-loop-byte : goal.invariant-loop-byte
invariant-loop-byte l =
    (l.here ≡ l.at + 2 * l.byte-index)
    × (length l.out ≡ length l.initial.out)
    × ((ls : List ℕ) (j : ℕ) → Wrote l.out l.here (singles (drop l.byte-index l.bytes) []) ls j → Wrote l.initial.out l.at (singles l.bytes []) ls j)
