-- What a capture says after its first line (document 01, "Replay listing"): one event number a line. And how a capture is written.
use Rattle.std.specs.Prelude.{Bool, true, false, List, [], ◌∷◌, ◌++◌, ℕ, Option, Some, None}
use Rattle.text.specs.Decimal.{number_of, decimal}
pub use Rattle.capture_lines.specs.Events.{event_lines}
use Rattle.capture_lines.specs.Line.{newline, word}

-- ---- the lines after the first

-- the events of the lines before the first that is bad, and whether there is no bad one
pub record EventsRead : Type 0 where
  pub events : List ℕ
  pub all-good : Bool

abbrev pub events_read : List ℕ → Bool → EventsRead
events_read es t = record { events = es; all-good = t }

abbrev pub with_event : Option ℕ → EventsRead → EventsRead
with_event None rest = events_read [] false
with_event (Some e) rest = events_read (e ∷ rest.events) rest.all-good

-- after the last newline there is nothing
abbrev pub last_piece : List ℕ → EventsRead
last_piece [] = events_read [] true
last_piece (x ∷ xs) = events_read [] false

-- the pieces between newlines, the one behind the last of them too
abbrev pub events_of : List (List ℕ) → EventsRead
events_of [] = events_read [] true
events_of (p ∷ []) = last_piece p
events_of (p ∷ q ∷ ps) = with_event (number_of p) (events_of (q ∷ ps))

-- ---- the other way: how a capture is written

abbrev pub first_line : ℕ → List ℕ
first_line pins = word ++ decimal pins

abbrev pub capture_then : ℕ → List ℕ → List ℕ → List ℕ
capture_then pins es rest = first_line pins ++ newline ∷ event_lines es rest

abbrev pub capture_text : ℕ → List ℕ → List ℕ
capture_text pins es = capture_then pins es []
