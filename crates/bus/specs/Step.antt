-- One event of a bus (document 02, W6): each device takes it as a chip of its own would, and the bus answers what the one that answers says.
use Rattle.std.specs.Prelude.{Bool, cond, ◌&&◌, List, [], ◌∷◌, map, ℕ, zero, suc, ◌+◌, eqb}
use Rattle.engine.specs.Answer.{Answer, Refused, Nothing, Acknowledged, NotAcknowledged, Command, Read}
use Rattle.engine.specs.declared.event.Event.{Event}
use Rattle.engine.specs.declared.event.Event.TheVariants.{Byte, Start, Stop, ReadAcknowledged, ReadNotAcknowledged, Reset, Sensor, Unlisted}
use Rattle.engine.specs.Event.{event_of}
use Rattle.engine.specs.Step.{After, nothing_stored, applied}
use Rattle.bus.specs.Bus.{Device, Bus, bus, alone, device_of, has_other_pins}
use Rattle.bus.specs.Refusals.{is_sensor_reading, bus_refusal}

-- a sensor reading is for the chip whose pins it names
abbrev pub misses : ℕ → ℕ → Device → Bool
misses e k d = is_sensor_reading e && has_other_pins k d

-- a device and its answer after the event that is number n
unfoldable pub heard_by : ℕ → ℕ → ℕ → Device → After
heard_by e k n d = cond (misses e k d) (nothing_stored Nothing d.chip (alone n d)) (applied (event_of e) (alone n d))

abbrev pub device_after : ℕ → ℕ → ℕ → Device → Device
device_after e k n d = device_of (heard_by e k n d).state

-- ---- what the bus answers

-- where no device answers: a byte is not acknowledged, a read finds the line high
abbrev pub unanswered : Event → Answer
unanswered (Byte b) = NotAcknowledged
unanswered Start = Nothing
unanswered Stop = Nothing
unanswered ReadAcknowledged = Read 255
unanswered ReadNotAcknowledged = Read 255
unanswered Reset = Nothing
unanswered (Sensor v) = Nothing
unanswered Unlisted = Nothing

-- a device's answer, or what else is heard where it has none
abbrev pub or_else : Answer → Answer → Answer
or_else (Refused n) a = Refused n
or_else Nothing a = a
or_else Acknowledged a = Acknowledged
or_else NotAcknowledged a = a
or_else (Command c) a = Command c
or_else (Read b) a = cond (eqb b 255) a (Read b)

abbrev pub answer_of : ℕ → ℕ → ℕ → List Device → Answer
answer_of e k n [] = unanswered (event_of e)
answer_of e k n (d ∷ ds) = or_else (heard_by e k n d).answer (answer_of e k n ds)

-- ---- the step

pub record BusAfter : Type 0 where
  pub answer : Answer
  pub bus : Bus

abbrev pub bus_after : Answer → List Device → ℕ → BusAfter
bus_after a ds n = record { answer = a; bus = Rattle.bus.specs.Bus.bus ds n }

-- an accepted event first adds 1 to the count, and that is its number
unfoldable pub bus_accepted : ℕ → ℕ → Bus → BusAfter
bus_accepted e k b = bus_after (answer_of e k (b.count + 1) b.devices) (map (device_after e k (b.count + 1)) b.devices) (b.count + 1)

abbrev pub unless_refused : ℕ → BusAfter → Bus → BusAfter
unless_refused zero a b = a
unless_refused (suc r) a b = bus_after (Refused (suc r)) b.devices b.count

-- event e, with k for the pins that a sensor reading names
unfoldable pub bus_step_of : ℕ → ℕ → Bus → BusAfter
bus_step_of e k b = unless_refused (bus_refusal e k b) (bus_accepted e k b) b
