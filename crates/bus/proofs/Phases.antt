-- What an event does to a device's phase and pins, and that a sensor reading leaves the devices that it misses.
use mathlib.Core.Bool.{Bool, true, false, cond, ◌&&◌}
use mathlib.Core.Path.{◌≡◌, refl}
use Prim.Native.Nat.{ℕ, ◌-◌, ◌<◌, ◌≤◌}
use native.Mathlib.Omega.{arith}
use borrow.Author.Tests.{leb-true}
use lib.Dec.{leb}
use Rattle.registers.specs.declared.Phase.{Phase}
use Rattle.registers.specs.declared.Phase.TheVariants.{Idle, AddressAwaited, Ignoring, ControlAwaited, OneByte, EndlessBytes, Reading, ReadEnded}
use Rattle.registers.specs.State.{State}
use Rattle.registers.proofs.Below.{false-true}
use Rattle.phases.specs.Changes.{controlled, pulsed, sensed}
use Rattle.phases.specs.Phases.{is_addressed, phase_after_address, phase_after_control, phase_after_last_read}
use Rattle.engine.specs.Answer.{Nothing}
use Rattle.engine.specs.declared.event.Event.{Event}
use Rattle.engine.specs.declared.event.Event.TheVariants.{Byte, Start, Stop, ReadAcknowledged, ReadNotAcknowledged, Reset, Sensor, Unlisted}
use Rattle.engine.specs.Event.{event_of}
use Rattle.engine.specs.Step.{nothing_stored, on_byte, applied}
use Rattle.engine.proofs.Events.{reading-event}
use Rattle.bus.specs.Bus.{Device, alone, has_other_pins}
use Rattle.bus.specs.Refusals.{is_sensor_reading}
use Rattle.bus.specs.Step.{misses, heard_by, device_after}

-- ---- the phase after an event, by the event, the pins and the phase alone

abbrev pub phase_after_byte : ℕ → ℕ → Phase → Phase
phase_after_byte b pins Idle = Idle
phase_after_byte b pins AddressAwaited = phase_after_address (is_addressed pins b) b
phase_after_byte b pins Ignoring = Ignoring
phase_after_byte b pins ControlAwaited = phase_after_control b
phase_after_byte b pins (OneByte rs) = ControlAwaited
phase_after_byte b pins (EndlessBytes rs) = EndlessBytes rs
phase_after_byte b pins Reading = Ignoring
phase_after_byte b pins ReadEnded = Ignoring

abbrev pub phase_after : Event → ℕ → Phase → Phase
phase_after (Byte b) pins p = phase_after_byte b pins p
phase_after Start pins p = AddressAwaited
phase_after Stop pins p = Idle
phase_after ReadAcknowledged pins p = p
phase_after ReadNotAcknowledged pins p = phase_after_last_read p
phase_after Reset pins p = Idle
phase_after (Sensor v) pins p = p
phase_after Unlisted pins p = p

-- ---- a chip alone

byte-phase : (p : Phase) (b : ℕ) (s : State) → s.chip.phase ≡ p → (on_byte p b s).state.chip.phase ≡ phase_after_byte b s.chip.pins p
unfolding controlled
byte-phase Idle b s e = e
byte-phase AddressAwaited b s e = refl
byte-phase Ignoring b s e = e
byte-phase ControlAwaited b s e = refl
byte-phase (OneByte true) b s e = refl
byte-phase (OneByte false) b s e = refl
byte-phase (EndlessBytes true) b s e = refl
byte-phase (EndlessBytes false) b s e = refl
byte-phase Reading b s e = refl
byte-phase ReadEnded b s e = refl

byte-pins : (p : Phase) (b : ℕ) (s : State) → (on_byte p b s).state.chip.pins ≡ s.chip.pins
unfolding controlled
byte-pins Idle b s = refl
byte-pins AddressAwaited b s = refl
byte-pins Ignoring b s = refl
byte-pins ControlAwaited b s = refl
byte-pins (OneByte true) b s = refl
byte-pins (OneByte false) b s = refl
byte-pins (EndlessBytes true) b s = refl
byte-pins (EndlessBytes false) b s = refl
byte-pins Reading b s = refl
byte-pins ReadEnded b s = refl

applied-phase : (v : Event) (s : State) → (applied v s).state.chip.phase ≡ phase_after v s.chip.pins s.chip.phase
unfolding applied pulsed sensed
applied-phase (Byte b) s = byte-phase s.chip.phase b s refl
applied-phase Start s = refl
applied-phase Stop s = refl
applied-phase ReadAcknowledged s = refl
applied-phase ReadNotAcknowledged s = refl
applied-phase Reset s = refl
applied-phase (Sensor v) s = refl
applied-phase Unlisted s = refl

applied-pins : (v : Event) (s : State) → (applied v s).state.chip.pins ≡ s.chip.pins
unfolding applied pulsed sensed
applied-pins (Byte b) s = byte-pins s.chip.phase b s
applied-pins Start s = refl
applied-pins Stop s = refl
applied-pins ReadAcknowledged s = refl
applied-pins ReadNotAcknowledged s = refl
applied-pins Reset s = refl
applied-pins (Sensor v) s = refl
applied-pins Unlisted s = refl

-- ---- a sensor reading

-- the numbers of sensor readings are theirs
pub is-reading : (e : ℕ) → is_sensor_reading e ≡ true → (512 ≤ e) × (e < 768)
is-reading e t = go (leb 512 e) (leb e 767) refl refl t
  where
    go : (a b : Bool) → leb 512 e ≡ a → leb e 767 ≡ b → a && b ≡ true → (512 ≤ e) × (e < 768)
    go true true ea eb t = (leb-true 512 e ea, omega (arith, leb-true e 767 eb))
    go true false ea eb t = absurd (false-true t)
    go false b ea eb t = absurd (false-true t)

pub reading-is-sensor : (e : ℕ) → is_sensor_reading e ≡ true → event_of e ≡ Sensor (e - 512)
reading-is-sensor e t = let so = is-reading e t in reading-event e so.0 so.1

-- ---- a device

module _ (e k n : ℕ) (d : Device) where
  -- a sensor reading that names other pins leaves all of a device, and has no answer
  pub missed : misses e k d ≡ true → heard_by e k n d ≡ nothing_stored Nothing d.chip (alone n d)
  unfolding heard_by
  missed m = rw m

  -- every other event is taken as a chip alone takes it
  pub not-missed : misses e k d ≡ false → heard_by e k n d ≡ applied (event_of e) (alone n d)
  unfolding heard_by
  not-missed m = rw m

  -- the phase after an event, by the event, the pins and the phase
  pub device-phase : (device_after e k n d).chip.phase ≡ phase_after (event_of e) d.chip.pins d.chip.phase
  unfolding heard_by
  device-phase = go (is_sensor_reading e) (has_other_pins k d) refl
    where
      go :
          (t o : Bool) → is_sensor_reading e ≡ t
          → (cond (t && o) (nothing_stored Nothing d.chip (alone n d)) (applied (event_of e) (alone n d))).state.chip.phase
          ≡ phase_after (event_of e) d.chip.pins d.chip.phase
      go true true q = rw (reading-is-sensor e q)
      go true false q = applied-phase (event_of e) (alone n d)
      go false o q = applied-phase (event_of e) (alone n d)

  -- no event changes the pins
  pub device-pins : (device_after e k n d).chip.pins ≡ d.chip.pins
  unfolding heard_by
  device-pins = go (misses e k d)
    where
      go : (t : Bool) → (cond t (nothing_stored Nothing d.chip (alone n d)) (applied (event_of e) (alone n d))).state.chip.pins ≡ d.chip.pins
      go true = refl
      go false = applied-pins (event_of e) (alone n d)
