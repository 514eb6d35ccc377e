-- What an event makes of one device: the shapes that the laws of its reach are stated in.
use Rattle.std.specs.Prelude.{cond, ◌≡◌, ℕ}
use Rattle.registers.specs.declared.Chip.{Chip}
use Rattle.registers.specs.declared.Phase.{Phase}
use Rattle.registers.specs.Record.{in_phase}
use Rattle.phases.specs.Changes.{pulsed, sensed}
use Rattle.bus.specs.Bus.{Device, device, has_pins}

-- another record with the same memories
abbrev pub with_chip : Chip → Device → Device
with_chip c d = device c d.memory d.writers

abbrev pub now_in : Phase → Device → Device
now_in p d = with_chip (in_phase d.chip p) d

abbrev pub pulsed_device : Device → Device
pulsed_device d = with_chip (pulsed d.chip) d

-- a sensor reading of this value for the chip with pins k
abbrev pub sensed_at : ℕ → ℕ → Device → Device
sensed_at k value d = cond (has_pins k d) (with_chip (sensed value d.chip) d) d

-- the same but for the phase
abbrev pub KeptButPhase : Device → Device → Type 0
KeptButPhase d after = after ≡ now_in after.chip.phase d

abbrev pub HasPins : ℕ → Device → Type 0
HasPins p d = d.chip.pins ≡ p
