use Rattle.capture_lines.specs.declared.LineSoFar.TheVariants.{Number}
use Rattle.capture_lines.specs.SoFar.{scanned_from}
use lib.ListN.{length, drop}
use Prim.Native.Nat.{max, ◌≤◌}
use mathlib.Core.Path.{◌≡◌}
use Rattle.capture_lines.proofs.bytes.more_digits.Given as goal

abbrev pub invariant-loop-at : goal.invariant-loop-at
invariant-loop-at l =
    (l.at ≤ max l.from (length l.part))
    × (scanned_from l.at (drop l.at l.part) (Number l.n) ≡ scanned_from l.from (drop l.from l.part) (Number l.number))
