-- Wrong pulses: what a chosen pixel and row get, and what a wrong program would give them.
use Rattle.std.specs.Prelude.{Result, List, [], ◌∷◌, ◌++◌, ℕ, ◌+◌, ◌*◌, ◌^◌}
use Rattle.cases_proved.specs.Cited.{Chip, GS3, X, MY, PD, DOF, Pulses, pulses_number, pulses_of, PulseRow, row_of, replicate, get_or}
use Rattle.cases_proved.specs.Observed.{Observation, ◌gives◌not◌}
use Rattle.cases_proved.specs.Start.{Setting, ◌is◌, one_cell, viewed}
use Rattle.cases_proved.specs.Glasses.{mode01, mode10, part, dark, undriven}

-- ---- the two, and what can be seen of them

pub record Pulsing : Type 0 where
  pub pixel : Chip → List ℕ → ℕ → ℕ → Result Pulses ℕ
  pub row : Chip → List ℕ → ℕ → List ℕ → PulseRow

unfoldable pub pulsing : Pulsing
pulsing = record { pixel = pulses_of; row = row_of }

-- the pulses of a row and column of the glass over a memory that holds A7h in column 5 of bank 2, as a number
abbrev pub given : List Setting → ℕ → ℕ → Pulsing → ℕ
given before row column p = pulses_number (p.pixel (viewed before) one_cell row column)

-- the same over a memory of so many bytes, all 0
abbrev pub given_over : ℕ → List Setting → ℕ → ℕ → Pulsing → ℕ
given_over n before row column p = pulses_number (p.pixel (viewed before) (replicate n 0) row column)

-- in mode 01 every pixel is lit by grey register 3, which holds this
abbrev pub lit : ℕ → Pulsing → ℕ
lit held = given (GS3 is held ∷ mode01) 20 30

-- the number of four pulses: frame 0's is the lowest byte
abbrev pub told : ℕ → ℕ → ℕ → ℕ → ℕ
told p₀ p₁ p₂ p₃ = 2 ^ 32 + p₀ + 2 ^ 8 * p₁ + 2 ^ 16 * p₂ + 2 ^ 24 * p₃

-- a row into a buffer of so many bytes, all 99: the number given back, and byte k of the buffer
abbrev pub row_number : List Setting → ℕ → ℕ → Pulsing → ℕ
row_number before row n p = (p.row (viewed before) one_cell row (replicate n 99)).number

abbrev pub row_number_over : ℕ → List Setting → ℕ → ℕ → Pulsing → ℕ
row_number_over m before row n p = (p.row (viewed before) (replicate m 0) row (replicate n 99)).number

abbrev pub row_byte : List Setting → ℕ → ℕ → ℕ → Pulsing → ℕ
row_byte before row n k p = get_or (p.row (viewed before) one_cell row (replicate n 99)).out k 0

abbrev pub row_byte_over : ℕ → List Setting → ℕ → ℕ → ℕ → Pulsing → ℕ
row_byte_over m before row n k p = get_or (p.row (viewed before) (replicate m 0) row (replicate n 99)).out k 0

-- ---- the table

unfoldable pub pulse_rows : List (Observation Pulsing)
pulse_rows =
    -- all pulses a quarter of the level
    lit 17 gives told 4 4 4 5 not told 4 4 4 4
    ∷ lit 30 gives told 7 8 7 8 not told 7 7 7 7
    -- the remainder in the first frame, and in the last one; one step of it in each of the first frames, and of the last ones
    ∷ lit 17 gives told 4 4 4 5 not told 5 4 4 4
    ∷ lit 30 gives told 7 8 7 8 not told 9 7 7 7
    ∷ lit 30 gives told 7 8 7 8 not told 7 7 7 9
    ∷ lit 30 gives told 7 8 7 8 not told 8 8 7 7
    ∷ lit 30 gives told 7 8 7 8 not told 7 7 8 8
    -- rounded to the nearest
    ∷ lit 17 gives told 4 4 4 5 not told 4 5 4 4
    -- rounded up, which is the frames from the last one on
    ∷ lit 30 gives told 7 8 7 8 not told 8 7 8 7
    ∷ lit 1 gives told 0 0 0 1 not told 1 0 0 0
    -- as a number: frame 0 the highest byte, no 1 above the four, and it in another place
    ∷ lit 43 gives told 10 11 11 11 not told 11 11 11 10
    ∷ lit 0 gives told 0 0 0 0 not 0
    ∷ lit 17 gives told 4 4 4 5 not (4 + 2 ^ 8 * 4 + 2 ^ 16 * 4 + 2 ^ 24 * 5)
    ∷ lit 0 gives told 0 0 0 0 not (2 ^ 33)
    -- the number in the register for the level: 63 for 64; and 62 taken for 63 or for 64
    ∷ lit 63 gives told 16 16 16 16 not told 15 16 16 16
    ∷ lit 62 gives told 15 16 15 16 not told 15 16 16 16
    ∷ lit 62 gives told 15 16 15 16 not told 16 16 16 16
    -- four bits for 16
    ∷ lit 63 gives told 16 16 16 16 not told 0 0 0 0
    -- dark and undriven told as four zeros, or as each other; level 0 told as dark
    ∷ given (mode01 ++ DOF is 1 ∷ []) 20 30 gives dark not told 0 0 0 0
    ∷ given (mode01 ++ PD is 1 ∷ []) 20 30 gives dark not told 0 0 0 0
    ∷ given (mode01 ++ part 0b000) 20 30 gives undriven not told 0 0 0 0
    ∷ given (mode01 ++ DOF is 1 ∷ []) 20 30 gives dark not undriven
    ∷ given (mode01 ++ part 0b000) 20 30 gives undriven not dark
    ∷ lit 0 gives told 0 0 0 0 not dark
    -- the pulses of a dark pixel's level
    ∷ given (GS3 is 17 ∷ mode01 ++ DOF is 1 ∷ []) 20 30 gives dark not told 4 4 4 5
    -- the pulses of another pixel: MY ignored, row and column exchanged
    ∷ given (MY is 1 ∷ mode10) 58 5 gives told 10 11 11 11 not told 10 10 10 10
    ∷ given mode10 8 5 gives told 10 11 11 11 not told 10 10 10 10
    -- refusals of a pixel let pass, and another order
    ∷ given_over 1716 mode01 20 30 gives 1 not told 10 11 11 11
    ∷ given (X is 101 ∷ mode01) 20 30 gives 2 not told 10 11 11 11
    ∷ given mode01 67 30 gives 5 not told 10 11 11 11
    ∷ given mode01 20 101 gives 5 not told 10 11 11 11
    ∷ given (X is 101 ∷ mode01) 67 30 gives 2 not 5
    ∷ given_over 1716 (X is 101 ∷ mode01) 67 30 gives 1 not 2
    ∷ given_over 1716 mode01 67 30 gives 1 not 5
    -- a row: 11 before 5, before 2 and before 1; 5 before 2 and before 1; 2 before 1
    ∷ row_number mode10 67 403 gives 5 not 11
    ∷ row_number (X is 101 ∷ mode10) 8 403 gives 2 not 11
    ∷ row_number_over 1716 mode10 8 403 gives 1 not 11
    ∷ row_number (X is 101 ∷ mode10) 67 404 gives 2 not 5
    ∷ row_number_over 1716 mode10 67 404 gives 1 not 5
    ∷ row_number_over 1716 (X is 101 ∷ mode10) 8 404 gives 1 not 2
    -- a row buffer of another length let pass, and one of 404 refused; row 67 let pass, and row 66 refused
    ∷ row_number mode10 8 403 gives 11 not 0
    ∷ row_number mode10 8 405 gives 11 not 0
    ∷ row_number mode10 8 808 gives 11 not 0
    ∷ row_number mode10 8 404 gives 0 not 11
    ∷ row_number mode10 67 404 gives 5 not 0
    ∷ row_number mode10 66 404 gives 0 not 5
    -- the row written before 11 is known, or before 5, 2 and 1 are
    ∷ row_byte mode10 8 403 0 gives 99 not 10
    ∷ row_byte mode10 8 405 0 gives 99 not 10
    ∷ row_byte mode10 67 404 0 gives 99 not 10
    ∷ row_byte (X is 101 ∷ mode10) 8 404 0 gives 99 not 10
    ∷ row_byte_over 1716 mode10 8 404 0 gives 99 not 10
    -- pixel c at 4c to 4c + 3, frame 0 first: not all of frame 0 first, not the columns from the right, not the frames from the last one on
    ∷ row_byte mode10 8 404 20 gives 10 not 11
    ∷ row_byte mode10 8 404 21 gives 11 not 10
    ∷ row_byte mode10 8 404 22 gives 11 not 10
    ∷ row_byte mode10 8 404 23 gives 11 not 10
    ∷ row_byte mode10 8 404 106 gives 10 not 11
    ∷ row_byte mode10 8 404 381 gives 10 not 11
    -- another row of the glass
    ∷ row_byte mode10 9 404 21 gives 10 not 11
    -- the last column left out
    ∷ row_byte mode10 8 404 403 gives 10 not 99
    -- dark written as zeros, in the first byte alone, or as undriven; undriven written as dark, as zeros, or in the first byte alone
    ∷ row_byte (mode10 ++ DOF is 1 ∷ []) 8 404 0 gives 254 not 0
    ∷ row_byte (mode10 ++ DOF is 1 ∷ []) 8 404 403 gives 254 not 99
    ∷ row_byte (mode10 ++ DOF is 1 ∷ []) 8 404 0 gives 254 not 255
    ∷ row_byte (mode10 ++ part 0b000) 8 404 0 gives 255 not 254
    ∷ row_byte (mode10 ++ part 0b000) 8 404 0 gives 255 not 0
    ∷ row_byte (mode10 ++ part 0b000) 8 404 403 gives 255 not 99
    ∷ []
