-- Demand 2 on a bus, for each chip by its pins: which event wrote a place of its display memory. Only events that the bus accepted count, and they are
-- numbered by the one count.
use Rattle.std.specs.Prelude.{List, ◌⊎◌, ◌≡◌, ℕ, ◌+◌, ◌<◌, get_or, length}
use Rattle.chip.specs.LastWriter.{before, Untouched, Written}
use Rattle.bus.specs.Bus.{Bus}
use Rattle.bus.specs.Streams.{Sent, sent, refusal_at, bus_played, bus_before, accepted_of, heard_of, chip_on}

-- none of the accepted events was stored at k by that chip: byte and writer are as they were
abbrev pub UntouchedOnBus : ℕ → List Sent → Bus → ℕ → Type 0
UntouchedOnBus p xs b k = Untouched (heard_of p xs b) (length (accepted_of xs b)) (chip_on p b) (chip_on p (bus_played xs b)) k

-- which event of the stream the accepted event i is, both counted from 0, and how the chip with pins p stands when it comes
pub record AcceptedAt (p : ℕ) (xs : List Sent) (b : Bus) (i : ℕ) : Type 0 where
  pub place : ℕ
  pub in_stream : place < length xs
  pub same_event : get_or xs place (sent 0 0) ≡ get_or (accepted_of xs b) i (sent 0 0)
  pub is-accepted : refusal_at (get_or xs place (sent 0 0)) (bus_before xs place b) ≡ 0
  -- the count that it comes upon: its number is one more
  pub count : (bus_before xs place b).count ≡ b.count + i
  -- the chip alone that hears what it hears stands then as the chip on the bus does
  pub upon : before (heard_of p xs b) i (chip_on p b) ≡ chip_on p (bus_before xs place b)

-- the last that was left its stored byte, and its number: the starting count plus its place among the accepted events from 1
pub record WrittenOnBus (p : ℕ) (xs : List Sent) (b : Bus) (k : ℕ) : Type 0 where
  pub written : Written (heard_of p xs b) (length (accepted_of xs b)) (chip_on p b) (chip_on p (bus_played xs b)) k
  -- it was heard as it was sent
  pub as_sent : get_or (heard_of p xs b) written.last.event 0 ≡ (get_or (accepted_of xs b) written.last.event (sent 0 0)).event
  pub in_stream : AcceptedAt p xs b written.last.event

abbrev pub PlaceOnBus : ℕ → List Sent → Bus → ℕ → Type 0
PlaceOnBus p xs b k = UntouchedOnBus p xs b k ⊎ WrittenOnBus p xs b k
