use mathlib.Core.Path.{◌≡◌}
use Prim.Native.Nat.{◌-◌, ◌≤◌}
use lib.ListN.{drop, length}
use Rattle.capture.specs.Feeding.{kept, bytes_fed}
use Rattle.capture.specs.Where.{Passed}
use Rattle.capture_trace.specs.Done.{done_in_bytes}
use Rattle.capture_trace.specs.Follow.{tallied_over}
use Rattle.capture_trace.proofs.CodeWays.{ToldSoFar}
use Rattle.capture_trace.proofs.follow_bytes.Given as goal

abbrev pub invariant-loop-at : goal.invariant-loop-at
invariant-loop-at l =
    (l.at ≤ length l.part)
    × (length l.memory ≡ length l.initial.memory)
    × (length l.writers ≡ length l.initial.writers)
    × Passed (kept l.followed.capture l.memory l.writers)
    × (bytes_fed (drop l.at l.part) (kept l.followed.capture l.memory l.writers) ≡ bytes_fed l.part (kept l.initial.followed.capture l.initial.memory l.initial.writers))
    × (tallied_over (done_in_bytes (drop l.at l.part) (kept l.followed.capture l.memory l.writers)) l.followed.tally
    ≡ tallied_over (done_in_bytes l.part (kept l.initial.followed.capture l.initial.memory l.initial.writers)) l.initial.followed.tally)
    × ToldSoFar l.told (done_in_bytes l.part (kept l.initial.followed.capture l.initial.memory l.initial.writers))
    (done_in_bytes (drop l.at l.part) (kept l.followed.capture l.memory l.writers)) l.initial.out l.out

abbrev pub decreases-loop-at : goal.decreases-loop-at
decreases-loop-at l = length l.part - l.at
