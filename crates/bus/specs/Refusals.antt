-- The refusals of a bus event in their order: 1, 2 and 12 of the devices, then 3, 13 and 4 of the event, then 16 of what it would do; 0 is none.
use Rattle.std.specs.Prelude.{Bool, true, not, ◌&&◌, List, ◌≡◌, ℕ, ◌-◌, ◌^◌, eqb, leb, ltb, length}
use Rattle.registers.specs.Record.{allowed}
use Rattle.registers.specs.Refusals.{refuse, ◌then◌, is_listed_event}
use Rattle.registers.specs.State.{places}
use Rattle.engine.specs.Step.{pixel_refusal}
use Rattle.bus.specs.Bus.{Device, Bus, every, pins_differ, phases_agree}

abbrev pub is_long : Device → Bool
is_long d = eqb (length d.memory) places && eqb (length d.writers) places

abbrev pub is_allowed : Device → Bool
is_allowed d = allowed d.chip

-- other pins each, and phases that stand together
abbrev pub can_share : List Device → Bool
can_share ds = pins_differ ds && phases_agree ds

-- 1: a lent memory isn't 1,717 long; 2: a record is not allowed; 12: devices that can't share a bus
abbrev pub devices_refusal_for : Bool → List Device → ℕ
devices_refusal_for long ds = refuse (not long) 1 then refuse (not (every is_allowed ds)) 2 then refuse (not (can_share ds)) 12

unfoldable pub devices_refusal : List Device → ℕ
devices_refusal ds = devices_refusal_for (every is_long ds) ds

-- the numbers of sensor readings
abbrev pub is_sensor_reading : ℕ → Bool
is_sensor_reading e = leb 512 e && leb e 767

-- k being the pins that a sensor reading names, 3: an event that is not listed; 13: a sensor reading for pins above 3; 4: a full count
unfoldable pub sent_refusal : ℕ → ℕ → ℕ → ℕ
sent_refusal e k count = refuse (not (is_listed_event e)) 3 then refuse (is_sensor_reading e && ltb 3 k) 13 then refuse (eqb count (2 ^ 64 - 1)) 4

-- 16: of some device a count of pixels would leave its range
abbrev pub counts_fit : ℕ → Device → Bool
counts_fit e d = eqb (pixel_refusal e d.chip d.memory) 0

abbrev pub pixels_refusal_for : Bool → ℕ
pixels_refusal_for fit = refuse (not fit) 16

unfoldable pub bus_refusal : ℕ → ℕ → Bus → ℕ
bus_refusal e k b = devices_refusal b.devices then sent_refusal e k b.count then pixels_refusal_for (every (counts_fit e) b.devices)

-- what 1, 2 and 12 let pass
pub record BusFit (ds : List Device) : Type 0 where
  pub long : every is_long ds ≡ true
  pub allowed : every is_allowed ds ≡ true
  pub pins-differ : pins_differ ds ≡ true
  pub phases-agree : phases_agree ds ≡ true
