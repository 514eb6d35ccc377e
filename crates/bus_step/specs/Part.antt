-- A chip's part in an event of its bus, as the code asks for it: a sensor reading that names other pins passes by, and the rest is the step of a chip
-- alone past its entry: the bus has tested 1 and 2 for all its chips. Where it accepts the event, this is what the bus's definition says.
use Rattle.std.specs.Prelude.{cond, List, [], ◌∷◌, ℕ}
use Rattle.engine.specs.Answer.{Answer, Nothing}
use Rattle.engine.specs.Event.{event_of}
use Rattle.engine.specs.PastEntry.{step_past_entry}
use Rattle.engine.specs.Step.{After}
use Rattle.bus.specs.Bus.{Device, alone, device_of}
use Rattle.bus.specs.Step.{misses, unanswered, or_else}

pub record Part : Type 0 where
  pub answer : Answer
  pub device : Device

abbrev pub part : Answer → Device → Part
part a d = record { answer = a; device = d }

abbrev pub part_in : After → Part
part_in a = part a.answer (device_of a.state)

unfoldable pub part_of : ℕ → ℕ → ℕ → Device → Part
part_of e k count d = cond (misses e k d) (part Nothing d) (part_in (step_past_entry e (alone count d)))

abbrev pub device_by : ℕ → ℕ → ℕ → Device → Device
device_by e k count d = (part_of e k count d).device

abbrev pub answer_by : ℕ → ℕ → ℕ → List Device → Answer
answer_by e k count [] = unanswered (event_of e)
answer_by e k count (d ∷ ds) = or_else (part_of e k count d).answer (answer_by e k count ds)
