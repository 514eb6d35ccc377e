-- Streams of bus events: what they do to a bus, which of them it accepts, and what the chip with certain pins hears of them.
use Rattle.std.specs.Prelude.{Bool, false, cond, not, ◌&&◌, ◌||◌, List, [], ◌∷◌, map, ℕ, zero, suc, eqb, get_or}
use Rattle.registers.specs.Record.{reset_chip}
use Rattle.registers.specs.State.{State}
use Rattle.engine.specs.Answer.{Answer}
use Rattle.bus.specs.Bus.{Device, device, Bus, alone, has_pins}
use Rattle.bus.specs.Refusals.{is_sensor_reading, bus_refusal}
use Rattle.bus.specs.Step.{bus_step_of}

-- an event, and the pins that it names if it is a sensor reading
pub record Sent : Type 0 where
  pub event : ℕ
  pub pins : ℕ

abbrev pub sent : ℕ → ℕ → Sent
sent e k = record { event = e; pins = k }

-- without the pins
abbrev pub events_of : List Sent → List ℕ
events_of xs = map (λ (x : Sent). x.event) xs

-- the number by which it is refused, 0 if it is accepted
abbrev pub refusal_at : Sent → Bus → ℕ
refusal_at x b = bus_refusal x.event x.pins b

-- what the bus answers
abbrev pub answer_at : Sent → Bus → Answer
answer_at x b = (bus_step_of x.event x.pins b).answer

-- the bus after it: as it was, if it is refused
abbrev pub stepped : Sent → Bus → Bus
stepped x b = (bus_step_of x.event x.pins b).bus

-- the bus after these events, one after the other
abbrev pub bus_played : List Sent → Bus → Bus
bus_played [] b = b
bus_played (x ∷ xs) b = bus_played xs (stepped x b)

-- the bus that event i of the stream, counted from 0, comes upon
abbrev pub bus_before : List Sent → ℕ → Bus → Bus
bus_before [] i b = b
bus_before (x ∷ xs) zero b = b
bus_before (x ∷ xs) (suc i) b = bus_before xs i (stepped x b)

-- ---- the events that the bus accepts

abbrev pub unless_refusal : ℕ → Sent → List Sent → List Sent
unless_refusal zero x xs = x ∷ xs
unless_refusal (suc r) x xs = xs

-- each upon the bus that it comes upon
abbrev pub accepted_of : List Sent → Bus → List Sent
accepted_of [] b = []
accepted_of (x ∷ xs) b = unless_refusal (refusal_at x b) x (accepted_of xs (stepped x b))

-- ---- one chip, by its pins

-- a sensor reading that names other pins
abbrev pub is_for_others : ℕ → Sent → Bool
is_for_others pins x = is_sensor_reading x.event && not (eqb pins x.pins)

-- what a chip with these pins hears: a sensor reading for others is as good as 258, which does nothing to a chip in any phase
abbrev pub heard_as : ℕ → Sent → ℕ
heard_as pins x = cond (is_for_others pins x) 258 x.event

-- the events that reach it, in their order
abbrev pub heard_of : ℕ → List Sent → Bus → List ℕ
heard_of pins xs b = map (heard_as pins) (accepted_of xs b)

-- what stands for a device where there is none
abbrev pub no_device : Device
no_device = device (reset_chip 0) [] []

-- the first with these pins; on a bus that 12 lets pass there is no other
abbrev pub device_with : ℕ → List Device → Device
device_with p [] = no_device
device_with p (d ∷ ds) = cond (has_pins p d) d (device_with p ds)

-- as a chip of its own, its count the bus's
abbrev pub chip_on : ℕ → Bus → State
chip_on p b = alone b.count (device_with p b.devices)

-- there is one
abbrev pub is_on : ℕ → List Device → Bool
is_on p [] = false
is_on p (d ∷ ds) = has_pins p d || is_on p ds

-- the one at this place of the list, from 0
abbrev pub device_at : ℕ → List Device → Device
device_at i ds = get_or ds i no_device
