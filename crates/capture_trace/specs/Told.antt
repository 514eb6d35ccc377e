-- What is told of a capture that comes in parts, one after the other, and which events those are.
use Rattle.std.specs.Prelude.{Bool, true, false, cond, List, [], ◌∷◌, ◌++◌, ◌≡◌, ℕ, ◌+◌, ◌*◌, ◌<◌, ◌≤◌, length, get_or}
use Rattle.registers.specs.State.{State}
use Rattle.text.specs.Text.{bytes}
use Rattle.print.specs.Chosen.{lines_of}
use Rattle.print.specs.Printed.{decimal_of}
use Rattle.chip.specs.LastWriter.{before}
use Rattle.chip.specs.Promised.{Answer, Refused, Nothing, Acknowledged, NotAcknowledged, Command, Read, step_of}
use Rattle.capture.specs.Feeding.{Playing, feed_of}
use Rattle.event_words.specs.Words.{what_of}
use Rattle.capture_trace.specs.declared.tally.Tally.{Tally}
use Rattle.capture_trace.specs.Done.{DoneEvent, done_event, done_in_part}
use Rattle.capture_trace.specs.Follow.{answer_to, line_for, tallied_over}

-- ---- part after part

-- the lines of all parts, as they are printed one after the other
abbrev pub lines_in_parts : Playing → List (List ℕ) → List ℕ
lines_in_parts p [] = []
lines_in_parts p (part ∷ ps) = lines_of line_for (done_in_part part p) ++ lines_in_parts (feed_of part p).after ps

abbrev pub tallied_in_parts : Playing → List (List ℕ) → Tally → Tally
tallied_in_parts p [] t = t
tallied_in_parts p (part ∷ ps) t = tallied_in_parts (feed_of part p).after ps (tallied_over (done_in_part part p) t)

-- ---- the bytes that were acknowledged, and those that were not: a count over the events done

-- what is no byte from the master is neither acknowledged nor this
abbrev pub is_not_acknowledged : Answer → Bool
is_not_acknowledged (Refused k) = false
is_not_acknowledged Nothing = false
is_not_acknowledged Acknowledged = false
is_not_acknowledged NotAcknowledged = true
is_not_acknowledged (Command a) = false
is_not_acknowledged (Read b) = false

abbrev pub how_many : (Answer → Bool) → List DoneEvent → ℕ
how_many is [] = 0
how_many is (d ∷ ds) = cond (is (answer_to d)) 1 0 + how_many is ds

-- ---- a display byte

-- the line of display byte b, coming upon s, names a cell by column and bank, and the byte that stands there after it, which this event wrote
pub record DisplayTold (b : ℕ) (s : State) : Type 0 where
  pub column : ℕ
  pub bank : ℕ
  pub column_there : column ≤ 100
  pub bank_there : bank ≤ 16
  pub words :
      what_of b s.chip
      ≡ bytes "display "
      ++ (decimal_of column ++ 32 ∷ (decimal_of bank ++ 32 ∷ decimal_of (get_or (step_of b s).state.memory (101 * bank + column) 0)))
  pub writer : get_or (step_of b s).state.writers (101 * bank + column) 0 ≡ s.count + 1

-- ---- which events were done

-- the events es from s, each once and in order. Event i, from 0, is told of the chip as those before it left it, and of the count, which is the starting one and i
pub record Follows (es : List ℕ) (s : State) (ds : List DoneEvent) : Type 0 where
  pub as_many : length ds ≡ length es
  pub each : (i : ℕ) → i < length es → (d : DoneEvent) → get_or ds i d ≡ done_event (get_or es i 0) (before es i s)
  pub numbered : (i : ℕ) → i < length es → (before es i s).count ≡ s.count + i
