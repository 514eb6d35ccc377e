use Rattle.std.proofs.Common.{◌≡◌, length}
use Rattle.trace_file.proofs.CodeWays.{FollowedSoFar}
use Rattle.trace_file.proofs.follow.Given as goal

abbrev pub invariant-loop : goal.invariant-loop
invariant-loop l =
    (length l.memory ≡ length l.initial.memory)
    × (length l.writers ≡ length l.initial.writers)
    × FollowedSoFar l.fn.memory l.fn.writers l.course.capture l.course.tally l.memory l.writers l.counter
