-- Which bytes of a stream are data sent to one chip's write address, by the events alone; streams that differ in those at most; buses that
-- differ in that chip at most.
use Rattle.std.specs.Prelude.{Bool, true, false, cond, List, [], ◌∷◌, map, ◌≡◌, ℕ, ◌<◌, eqb, length}
use Rattle.registers.specs.declared.Phase.{Phase}
use Rattle.registers.specs.declared.Phase.TheVariants.{Idle, AddressAwaited, Ignoring, ControlAwaited, OneByte, EndlessBytes, Reading, ReadEnded}
use Rattle.engine.specs.declared.event.Event.{Event}
use Rattle.engine.specs.declared.event.Event.TheVariants.{Byte, Start, Stop, ReadAcknowledged, ReadNotAcknowledged, Reset, Sensor, Unlisted}
use Rattle.engine.specs.Event.{event_of}
use Rattle.chip.specs.Plays.{write_address}
use Rattle.bus.specs.Bus.{Device, Bus}
use Rattle.bus.specs.Streams.{Sent, sent, device_with, device_at}

-- ---- what the next byte is

-- an address, data sent to the write address of the chip with pins p, or anything else
pub data Turn : Type 0 where
  address : Turn
  data_byte : Turn
  other : Turn

-- the first byte after START decides; after the write address every further byte is data, control bytes too
abbrev pub after_byte : ℕ → ℕ → Turn → Turn
after_byte p b address = cond (eqb b (write_address p)) data_byte other
after_byte p b data_byte = data_byte
after_byte p b other = other

abbrev pub turn_after : ℕ → Event → Turn → Turn
turn_after p (Byte b) t = after_byte p b t
turn_after p Start t = address
turn_after p Stop t = other
turn_after p ReadAcknowledged t = t
turn_after p ReadNotAcknowledged t = t
turn_after p Reset t = other
turn_after p (Sensor v) t = t
turn_after p Unlisted t = t

-- where a stream begins, that chip's phase tells it
abbrev pub turn_of : Phase → Turn
turn_of Idle = other
turn_of AddressAwaited = address
turn_of Ignoring = other
turn_of ControlAwaited = data_byte
turn_of (OneByte rs) = data_byte
turn_of (EndlessBytes rs) = data_byte
turn_of Reading = other
turn_of ReadEnded = other

abbrev pub turn_at : ℕ → List Device → Turn
turn_at p ds = turn_of (device_with p ds).chip.phase

-- ---- streams that are alike

-- the same event, or two bytes where a byte is data sent to the write address of p
pub data Alike (t : Turn) (x y : Sent) : Type 0 where
  same : x ≡ y → Alike t x y
  data_bytes : t ≡ data_byte → x.event < 256 → y.event < 256 → Alike t x y

-- each byte keeps its place in the stream
abbrev pub AllAlike : ℕ → Turn → List Sent → List Sent → Type 0
AllAlike p t [] [] = Unit
AllAlike p t [] (y ∷ ys) = ⊥
AllAlike p t (x ∷ xs) [] = ⊥
AllAlike p t (x ∷ xs) (y ∷ ys) = Alike t x y × AllAlike p (turn_after p (event_of x.event) t) xs ys

-- as many bytes on either side
abbrev pub SameBytes : List ℕ → List ℕ → Type 0
SameBytes [] [] = Unit
SameBytes [] (y ∷ ys) = ⊥
SameBytes (x ∷ xs) [] = ⊥
SameBytes (x ∷ xs) (y ∷ ys) = (x < 256) × (y < 256) × SameBytes xs ys

abbrev pub bytes_sent : List ℕ → List Sent
bytes_sent bs = map (λ (b : ℕ). sent b 0) bs

-- past its write address
abbrev pub written_to : Phase → Bool
written_to Idle = false
written_to AddressAwaited = false
written_to Ignoring = false
written_to ControlAwaited = true
written_to (OneByte rs) = true
written_to (EndlessBytes rs) = true
written_to Reading = false
written_to ReadEnded = false

-- ---- buses that are the same but for the chip with pins p

-- whole devices: registers, memory, writers, phase, status and last RS
pub record SameBut (p : ℕ) (a b : Bus) : Type 0 where
  pub count : a.count ≡ b.count
  pub by_pins : (q : ℕ) → (q ≡ p → ⊥) → device_with q a.devices ≡ device_with q b.devices
  pub as_many : length a.devices ≡ length b.devices
  pub by_place : (i : ℕ) → i < length a.devices → ((device_at i a.devices).chip.pins ≡ p → ⊥) → device_at i a.devices ≡ device_at i b.devices
