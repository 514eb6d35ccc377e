-- A whole capture played on a chip after reset, from a counting start. The two memories are lent; a capture starts with 1,717 zeros in each.
use Rattle.std.specs.Prelude.{Bool, true, false, List, [], ◌∷◌, ℕ, zero, suc, ◌+◌, length, Option, Some, None}
use Rattle.registers.specs.Record.{reset_chip, with_pixels}
use Rattle.registers.specs.Refusals.{lengths_refusal}
use Rattle.registers.specs.State.{State, state}
use Rattle.text.specs.Text.{split}
use Rattle.chip.specs.Promised.{Outcome, run_of, counts_of}
use Rattle.capture_lines.specs.Line.{newline, pins_of}
use Rattle.capture.specs.Reading.{EventsRead, events_of}

pub data Replay : Type 0 where
  -- no event is played: 1, a lent memory isn't 1,717 long; 2, what was kept of a capture is not allowed. And a chip after reset, with the memories
  refused_by : (number : ℕ) → State → Replay
  -- the first bad line or refused event, by its line from 1, and what the events before it left
  refused_at : (line : ℕ) → State → Replay
  replayed : State → Replay

-- the chip, the memories and the count that it leaves
abbrev pub left_by : Replay → State
left_by (refused_by k s) = s
left_by (refused_at n s) = s
left_by (replayed s) = s

-- reset values, idle, the pixels of the memory by value, count 0
abbrev pub started : ℕ → List ℕ → List ℕ → State
started pins m w = state (with_pixels (reset_chip pins) (counts_of m)) m w 0

-- the run over the events was stopped by a refusal or not, and no bad line follows them or one does. The first event stands in line 2
abbrev pub ended_by : ℕ → Bool → ℕ → State → Replay
ended_by zero true done s = replayed s
ended_by zero false done s = refused_at (done + 2) s
ended_by (suc k) all-good done s = refused_at (done + 2) s

abbrev pub replay_by : Outcome → Bool → Replay
replay_by o all-good = ended_by o.refusal all-good o.done o.state

-- a bad first line says nothing of the pins
abbrev pub with_pins : Option ℕ → EventsRead → List ℕ → List ℕ → Replay
with_pins None l m w = refused_at 1 (started 0 m w)
with_pins (Some pins) l m w = replay_by (run_of l.events (started pins m w)) l.all-good

abbrev pub replay_lines : List (List ℕ) → List ℕ → List ℕ → Replay
replay_lines [] m w = refused_at 1 (started 0 m w)
replay_lines (p ∷ []) m w = refused_at 1 (started 0 m w)
replay_lines (p ∷ q ∷ ps) m w = with_pins (pins_of p) (events_of (q ∷ ps)) m w

-- refused by a number, 0 being none, the memories as they were; or what else comes
abbrev pub unless_refused : ℕ → List ℕ → List ℕ → Replay → Replay
unless_refused zero m w r = r
unless_refused (suc k) m w r = refused_by (suc k) (started 0 m w)

unfoldable pub replay_of : List ℕ → List ℕ → List ℕ → Replay
replay_of text m w = unless_refused (lengths_refusal (length m) (length w)) m w (replay_lines (split newline text) m w)
