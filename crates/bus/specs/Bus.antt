-- Chips on one bus (document 02, W6): each has its record and its two lent memories, and the event count is the bus's.
use Rattle.std.specs.Prelude.{Bool, true, false, cond, not, ◌&&◌, ◌||◌, List, [], ◌∷◌, map, ◌≡◌, ℕ, zero, suc, ◌+◌, eqb, leb}
use Rattle.registers.specs.declared.Chip.{Chip}
use Rattle.registers.specs.declared.Phase.{Phase}
use Rattle.registers.specs.declared.Phase.TheVariants.{Idle, AddressAwaited, Ignoring, ControlAwaited, OneByte, EndlessBytes, Reading, ReadEnded}
use Rattle.registers.specs.Record.{reset_chip, with_pixels}
use Rattle.registers.specs.State.{State, state}
use Rattle.pixel_counts.specs.Counts.{counts_of}

-- a chip's record with its display bytes and writer numbers
pub record Device : Type 0 where
  pub chip : Chip
  pub memory : List ℕ
  pub writers : List ℕ

abbrev pub device : Chip → List ℕ → List ℕ → Device
device c m w = record { chip = c; memory = m; writers = w }

-- as many as there are: the host has four
pub record Bus : Type 0 where
  pub devices : List Device
  pub count : ℕ

abbrev pub bus : List Device → ℕ → Bus
bus ds n = record { devices = ds; count = n }

-- a device as a chip of its own with this count beside it, and back
abbrev pub alone : ℕ → Device → State
alone n d = state d.chip d.memory d.writers n

abbrev pub device_of : State → Device
device_of s = device s.chip s.memory s.writers

-- the device's counts of pixels are those of its memory
abbrev pub CountsTrue : Device → Type 0
CountsTrue d = d.chip.pixels ≡ counts_of d.memory

abbrev pub AllTrue : List Device → Type 0
AllTrue [] = Unit
AllTrue (d ∷ ds) = CountsTrue d × AllTrue ds

-- a chip as a reset and a counting start leave it, with these pins and memories
abbrev pub fresh : ℕ → List ℕ → List ℕ → Device
fresh pins m w = device (with_pixels (reset_chip pins) (counts_of m)) m w

-- four of them, with the pins 0 to 3
abbrev pub fresh_devices : (ℕ → List ℕ) → (ℕ → List ℕ) → List Device
fresh_devices memories writers = map (λ (pins : ℕ). fresh pins (memories pins) (writers pins)) (0 ∷ 1 ∷ 2 ∷ 3 ∷ [])

-- ---- a device by its place, all devices, and how many of them

-- device d stands at place i, counted from 0
abbrev pub At : ℕ → Device → List Device → Type 0
At i d [] = ⊥
At zero d (x ∷ ds) = x ≡ d
At (suc i) d (x ∷ ds) = At i d ds

-- a device, at some place, of which this holds
pub record Somewhere (holds : Device → Type 0) (ds : List Device) : Type 0 where
  pub place : ℕ
  pub which : Device
  pub stands : At place which ds
  pub so : holds which

abbrev pub every : (Device → Bool) → List Device → Bool
every f [] = true
every f (d ∷ ds) = f d && every f ds

abbrev pub how_many : (Device → Bool) → List Device → ℕ
how_many f [] = 0
how_many f (d ∷ ds) = cond (f d) 1 0 + how_many f ds

-- ---- where a device stands in a message

abbrev pub is_idle_phase : Phase → Bool
is_idle_phase Idle = true
is_idle_phase AddressAwaited = false
is_idle_phase Ignoring = false
is_idle_phase ControlAwaited = false
is_idle_phase (OneByte rs) = false
is_idle_phase (EndlessBytes rs) = false
is_idle_phase Reading = false
is_idle_phase ReadEnded = false

abbrev pub is_awaiting_phase : Phase → Bool
is_awaiting_phase Idle = false
is_awaiting_phase AddressAwaited = true
is_awaiting_phase Ignoring = false
is_awaiting_phase ControlAwaited = false
is_awaiting_phase (OneByte rs) = false
is_awaiting_phase (EndlessBytes rs) = false
is_awaiting_phase Reading = false
is_awaiting_phase ReadEnded = false

abbrev pub is_ignoring_phase : Phase → Bool
is_ignoring_phase Idle = false
is_ignoring_phase AddressAwaited = false
is_ignoring_phase Ignoring = true
is_ignoring_phase ControlAwaited = false
is_ignoring_phase (OneByte rs) = false
is_ignoring_phase (EndlessBytes rs) = false
is_ignoring_phase Reading = false
is_ignoring_phase ReadEnded = false

-- past its address: written to, or read from
abbrev pub is_past_phase : Phase → Bool
is_past_phase Idle = false
is_past_phase AddressAwaited = false
is_past_phase Ignoring = false
is_past_phase ControlAwaited = true
is_past_phase (OneByte rs) = true
is_past_phase (EndlessBytes rs) = true
is_past_phase Reading = true
is_past_phase ReadEnded = true

abbrev pub is_idle : Device → Bool
is_idle d = is_idle_phase d.chip.phase

abbrev pub awaits_address : Device → Bool
awaits_address d = is_awaiting_phase d.chip.phase

abbrev pub is_ignoring : Device → Bool
is_ignoring d = is_ignoring_phase d.chip.phase

abbrev pub is_past : Device → Bool
is_past d = is_past_phase d.chip.phase

-- ---- which devices can share a bus: other pins each, and phases that one history can have led to

abbrev pub has_pins : ℕ → Device → Bool
has_pins p d = eqb d.chip.pins p

abbrev pub has_other_pins : ℕ → Device → Bool
has_other_pins p d = not (has_pins p d)

abbrev pub pins_differ : List Device → Bool
pins_differ [] = true
pins_differ (d ∷ ds) = every (has_other_pins d.chip.pins) ds && pins_differ ds

-- a message is on: each chip ignores it or is past its address in it, and no more than one is past
abbrev pub one_past : List Device → Bool
one_past ds = every (λ (d : Device). is_ignoring d || is_past d) ds && leb (how_many is_past ds) 1

-- no message is on, an address is awaited by all, or a message is on
abbrev pub phases_agree : List Device → Bool
phases_agree ds = every is_idle ds || (every awaits_address ds || one_past ds)
