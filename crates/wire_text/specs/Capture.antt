-- Samples of the two wires of the bus as the text of a capture (document 02, W7): the `pins` line, and the number of each event that they tell, on a
-- line of its own. A byte above 3 is no sample: there a line says where it stands, and nothing follows.
use Rattle.std.specs.Prelude.{Bool, cond, List, [], ◌∷◌, ◌++◌, ℕ, ◌≤◌, ◌<◌, leb, length, get_or}
use Rattle.text.specs.Text.{bytes}
use Rattle.print.specs.Chosen.{lines_of, line, named_line}
use Rattle.print.specs.Printed.{decimal_of}
use Rattle.wire_samples.specs.declared.Wires.{Wires}
use Rattle.wire_samples.specs.Feed.{events_of, are_samples}
use Rattle.wire_samples.specs.Sample.{at_start}

-- the samples before the first byte that is none
unfoldable pub samples_in : List ℕ → List ℕ
samples_in [] = []
samples_in (b ∷ bs) = cond (leb b 3) (b ∷ samples_in bs) []

-- ---- lines

abbrev pub pins_line : ℕ → List ℕ
pins_line pins = named_line (bytes "pins") pins

abbrev pub event_line : ℕ → List ℕ
event_line e = decimal_of e ++ 10 ∷ []

-- a line for each event that the samples tell, from these wires on
abbrev pub event_lines : Wires → List ℕ → List ℕ
event_lines w ss = lines_of event_line (events_of w ss)

-- the number of the refusal, and the place of the byte that is no sample, from 0
abbrev pub refused_line : ℕ → List ℕ
refused_line place = line (bytes "refused" ∷ bytes "14" ∷ decimal_of place ∷ [])

-- where all bytes are samples there is no such line
abbrev pub last_line : Bool → ℕ → List ℕ
last_line good place = cond good [] (refused_line place)

-- ---- a whole capture

unfoldable pub capture_of : ℕ → List ℕ → List ℕ
capture_of pins bs = pins_line pins ++ (event_lines at_start (samples_in bs) ++ last_line (are_samples bs) (length (samples_in bs)))

-- ---- which byte is told as no sample

-- the first that is above 3
pub record FirstAbove (bs : List ℕ) (place : ℕ) : Type 0 where
  pub inside : place < length bs
  pub above : 3 < get_or bs place 0
  pub before : (i : ℕ) → i < place → get_or bs i 0 ≤ 3
