-- The events that a capture does, each with the chip as it stands before it: those of a whole capture, and those of one that comes in parts.
use Rattle.std.specs.Prelude.{cond, List, [], ◌∷◌, ◌++◌, ℕ, zero, suc, eqb, length, Option, Some, None}
use Rattle.registers.specs.Refusals.{lengths_refusal}
use Rattle.registers.specs.State.{State}
use Rattle.text.specs.Text.{split}
use Rattle.chip.specs.Promised.{refusal_of, step_of}
use Rattle.capture_lines.specs.declared.LineSoFar.{LineSoFar}
use Rattle.capture_lines.specs.declared.LineSoFar.TheVariants.{First, Pins, Empty, Number, BadFirst, Bad}
use Rattle.capture_lines.specs.Line.{newline, pins_of}
use Rattle.capture.specs.Feeding.{Playing, with_next, part_refusal}
use Rattle.capture.specs.Reading.{EventsRead, events_of}
use Rattle.capture.specs.Replay.{started}

-- an event that was done, and the chip with its memories before it
pub record DoneEvent : Type 0 where
  pub event : ℕ
  pub before : State

abbrev pub done_event : ℕ → State → DoneEvent
done_event e s = record { event = e; before = s }

-- none where there is a refusal, 0 being none
abbrev pub done_unless : ℕ → List DoneEvent → List DoneEvent
done_unless zero ds = ds
done_unless (suc k) ds = []

-- ---- a whole capture

-- events in order, up to the first refused one
unfoldable pub done_events : List ℕ → State → List DoneEvent
done_events [] s = []
done_events (e ∷ es) s = done_unless (refusal_of e s) (done_event e s ∷ done_events es (step_of e s).state)

abbrev pub done_with_pins : Option ℕ → EventsRead → List ℕ → List ℕ → List DoneEvent
done_with_pins None l m w = []
done_with_pins (Some pins) l m w = done_events l.events (started pins m w)

abbrev pub done_lines : List (List ℕ) → List ℕ → List ℕ → List DoneEvent
done_lines [] m w = []
done_lines (p ∷ []) m w = []
done_lines (p ∷ q ∷ ps) m w = done_with_pins (pins_of p) (events_of (q ∷ ps)) m w

-- those before the first bad line or refused event
unfoldable pub done_of : List ℕ → List ℕ → List ℕ → List DoneEvent
done_of text m w = done_unless (lengths_refusal (length m) (length w)) (done_lines (split newline text) m w)

-- ---- part by part

-- at a newline: the event of its line
abbrev pub done_at_end : LineSoFar → State → List DoneEvent
done_at_end (First k) s = []
done_at_end (Pins p) s = []
done_at_end Empty s = []
done_at_end (Number e) s = done_events (e ∷ []) s
done_at_end BadFirst s = []
done_at_end Bad s = []

abbrev pub done_at_byte : ℕ → Playing → List DoneEvent
done_at_byte b p = cond (eqb b newline) (done_at_end p.line p.state) []

unfoldable pub done_in_bytes : List ℕ → Playing → List DoneEvent
done_in_bytes [] p = []
done_in_bytes (b ∷ bs) p = done_at_byte b p ++ done_in_bytes bs (with_next b p)

-- a refused part does none
unfoldable pub done_in_part : List ℕ → Playing → List DoneEvent
done_in_part part p = done_unless (part_refusal p) (done_in_bytes part p)
