use Rattle.std.proofs.Common.{◌≡◌, length}
use Rattle.capture_file.proofs.CodeWays.{FedSoFar}
use Rattle.capture_file.proofs.play.Given as goal

abbrev pub invariant-loop : goal.invariant-loop
invariant-loop l =
    (length l.memory ≡ length l.initial.memory)
    × (length l.writers ≡ length l.initial.writers)
    × FedSoFar l.fn.memory l.fn.writers l.capture l.memory l.writers l.counter
