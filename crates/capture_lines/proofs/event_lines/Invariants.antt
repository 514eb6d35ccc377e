use Rattle.capture_lines.proofs.WholeLines.{Reading}
use Rattle.capture_lines.specs.Events.{LinesRead}
use lib.ListN.{length}
use mathlib.Core.Path.{◌≡◌}
use Rattle.capture_lines.proofs.event_lines.Given as goal

abbrev pub invariant-loop-count : goal.invariant-loop-count
invariant-loop-count l =
    (length l.events ≡ length l.initial.events) × LinesRead l.part l.from l.events (record { count = l.count; at = l.at }) × Reading l.part l.from l.initial.events l.events l.count l.at
