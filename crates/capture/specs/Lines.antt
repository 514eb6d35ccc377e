-- Whole event lines of a part, played in one run. They come to what their bytes come to one by one (proofs/Laws.antt).
use Rattle.std.specs.Prelude.{List, ◌≡◌, ℕ, ◌≤◌, length, drop}
use Rattle.registers.specs.State.{State}
use Rattle.chip.specs.Promised.{run_past_entry}
use Rattle.capture_lines.specs.Events.{event_lines, Small, lines_from}
use Rattle.capture.specs.Feeding.{Playing, played, bytes_fed}
use Rattle.capture.specs.Where.{Passed}

-- so many event lines are played at a time, at most
abbrev pub at_a_time : ℕ
at_a_time = 4096

-- from one place of a part to another stand event lines, and from s their events were run past the entry, up to the first that was refused: p is left
pub record LinesRun (part : List ℕ) (from : ℕ) (s : State) (p : Playing) (at : ℕ) : Type 0 where
  pub events : List ℕ
  pub lines : record { events = events; at = at } ≡ lines_from at_a_time part from
  pub small : Small events
  pub starts : from ≤ at
  pub within : from ≤ length part → at ≤ length part
  pub written : drop from part ≡ event_lines events (drop at part)
  pub run : p ≡ played (run_past_entry 0 events s)

-- q is reached from p on the way: what is left to feed comes to the same
pub record PartlyFed (part : List ℕ) (from : ℕ) (p q : Playing) (at : ℕ) : Type 0 where
  pub starts : from ≤ at
  pub within : at ≤ length part
  pub passed : Passed q
  pub leaves : bytes_fed (drop at part) q ≡ bytes_fed (drop from part) p
