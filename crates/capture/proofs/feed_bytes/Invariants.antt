use Rattle.capture.specs.Feeding.{kept}
use Rattle.capture.specs.Lines.{PartlyFed}
use lib.ListN.{length}
use Prim.Native.Nat.{◌-◌}
use mathlib.Core.Path.{◌≡◌}
use Rattle.capture.proofs.feed_bytes.Given as goal

abbrev pub invariant-loop-at : goal.invariant-loop-at
invariant-loop-at l =
    (length l.memory ≡ length l.initial.memory)
    × (length l.writers ≡ length l.initial.writers)
    × PartlyFed l.part 0 (kept l.initial.fed l.initial.memory l.initial.writers) (kept l.fed l.memory l.writers) l.at

abbrev pub decreases-loop-at : goal.decreases-loop-at
decreases-loop-at l = length l.part - l.at
