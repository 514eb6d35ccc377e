-- The pulses of a whole row of the glass in a buffer of 404 bytes, for every input: refusals 1, 2, 5 and 11 in their order.
use Rattle.std.specs.Prelude.{not, List, [], ◌∷◌, Result, Ok, Err, ℕ, zero, suc, ◌*◌, eqb, length}
use Rattle.registers.specs.declared.Chip.{Chip}
use Rattle.registers.specs.Refusals.{refuse, ◌then◌}
use Rattle.glass.specs.Glass.{glass_refusal}
use Rattle.print.specs.Printed.{parts_from}
use Rattle.pulses.specs.declared.answer.Pulses.{Pulses}
use Rattle.pulses.specs.declared.answer.Pulses.TheVariants.{Dark, Undriven, Lit}
use Rattle.pulses.specs.Pulse.{pulses_of}

-- ---- the bytes

-- a pixel's four bytes: its pulses from frame 0 on; 254 four times if it is dark, 255 if it is undriven. In a row that is not refused no pixel is, so that
-- the number of a refusal is never seen
abbrev pub bytes_for : Result Pulses ℕ → List ℕ
bytes_for (Ok (Lit a b c d)) = a ∷ b ∷ c ∷ d ∷ []
bytes_for (Ok Dark) = 254 ∷ 254 ∷ 254 ∷ 254 ∷ []
bytes_for (Ok Undriven) = 255 ∷ 255 ∷ 255 ∷ 255 ∷ []
bytes_for (Err n) = n ∷ n ∷ n ∷ n ∷ []

abbrev pub pixel_bytes : Chip → List ℕ → ℕ → ℕ → List ℕ
pixel_bytes c memory row column = bytes_for (pulses_of c memory row column)

abbrev pub columns : ℕ
columns = 101

-- the pixels from column 0 on, each as it is by itself
unfoldable pub row_bytes : Chip → List ℕ → ℕ → List ℕ
row_bytes c memory row = parts_from (pixel_bytes c memory row) 0 columns

-- ---- the call

abbrev pub row_length : ℕ
row_length = 4 * columns

-- 11: the row buffer isn't 404 long
abbrev pub buffer_refusal : ℕ → ℕ
buffer_refusal outLength = refuse (not (eqb outLength row_length)) 11

-- the glass's refusals, asked for column 0, which every row has; then 11
unfoldable pub row_refusal : Chip → ℕ → ℕ → ℕ → ℕ
row_refusal c memoryLength row outLength = glass_refusal c memoryLength row 0 then buffer_refusal outLength

-- the number given back, and the buffer
pub record PulseRow : Type 0 where
  pub number : ℕ
  pub out : List ℕ

abbrev pub pulse_row : ℕ → List ℕ → PulseRow
pulse_row n l = record { number = n; out = l }

-- a refused call changes nothing; else the buffer is the row's bytes
abbrev pub row_unless : ℕ → List ℕ → List ℕ → PulseRow
row_unless zero bytes out = pulse_row 0 bytes
row_unless (suc k) bytes out = pulse_row (suc k) out

unfoldable pub row_of : Chip → List ℕ → ℕ → List ℕ → PulseRow
row_of c memory row out = row_unless (row_refusal c (length memory) row (length out)) (row_bytes c memory row) out
