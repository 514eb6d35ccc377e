-- The host's bus: four chips' records, and eight lent memories.
use Rattle.std.specs.Prelude.{Bool, false, ◌||◌, List, [], ◌∷◌, map, ℕ, get_or}
use Rattle.registers.specs.declared.Chip.{Chip}
use Rattle.registers.specs.declared.Phase.{Phase}
use Rattle.registers.specs.declared.Phase.TheVariants.{Idle}
use Rattle.registers.specs.Record.{of_values, by_value}
use Rattle.bus.specs.Bus.{Device, device, is_ignoring_phase, is_past_phase}

-- what stands for a record where there is none
abbrev pub no_chip : Chip
no_chip = record { registers = of_values []; pins = 0; status = 0; last_rs = false; phase = Idle; pixels = by_value (λ v. 0) }

-- the record at this place, from 0
abbrev pub chip_at : List Chip → ℕ → Chip
chip_at cs i = get_or cs i no_chip

abbrev pub four : List Chip → List ℕ → List ℕ → List ℕ → List ℕ → List ℕ → List ℕ → List ℕ → List ℕ → List Device
four cs m0 w0 m1 w1 m2 w2 m3 w3 = device (chip_at cs 0) m0 w0 ∷ device (chip_at cs 1) m1 w1 ∷ device (chip_at cs 2) m2 w2 ∷ device (chip_at cs 3) m3 w3 ∷ []

-- the tests of records alone do not look at the memories
abbrev pub records_of : List Chip → List Device
records_of cs = map (λ (c : Chip). device c [] []) cs

-- ignoring the rest of a message, or past its address in one
abbrev pub is_in_message : Phase → Bool
is_in_message p = is_ignoring_phase p || is_past_phase p
