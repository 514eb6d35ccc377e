-- What a row and column of the glass show, and which place of the memories that is, for every input: refusals 1, 2 and 5 in their order.
use Rattle.std.specs.Prelude.{Bool, ◌||◌, List, Result, Ok, Err, ℕ, zero, suc, ltb, length, get_or}
use Rattle.registers.specs.declared.Registers.{Registers}
use Rattle.registers.specs.declared.Chip.{Chip}
use Rattle.registers.specs.Refusals.{refuse, ◌then◌, length_refusal, record_refusal}
use Rattle.glass.specs.declared.answer.Shown.{Shown}
use Rattle.glass.specs.declared.answer.Shown.TheVariants as shown
use Rattle.glass.specs.Pixel.{Pixel, dark, undriven, uses, ram_row, place_at, pixel_of, level_of}

-- ---- refusals, in their order; 0 is none

abbrev pub off_glass : ℕ → ℕ → Bool
off_glass row column = ltb 66 row || ltb 100 column

unfoldable pub place_refusal : Chip → ℕ → ℕ → ℕ
place_refusal c row column = record_refusal c then refuse (off_glass row column) 5

-- the same after the length of the memory
unfoldable pub glass_refusal : Chip → ℕ → ℕ → ℕ → ℕ
glass_refusal c memoryLength row column = length_refusal memoryLength then place_refusal c row column

-- an answer, unless it is refused by this number
abbrev pub told_unless : {A : Type 0} → ℕ → A → Result A ℕ
told_unless zero a = Ok a
told_unless (suc n) a = Err (suc n)

-- ---- the place

-- the RAM row that this chip shows in a row of the glass
abbrev pub ram_row_of : Chip → ℕ → ℕ
ram_row_of c row = ram_row c.registers.my row

unfoldable pub cell_of : Chip → ℕ → ℕ → Result ℕ ℕ
cell_of c row column = told_unless (place_refusal c row column) (place_at (ram_row_of c row) column)

-- ---- the pixel: first the grey register that it uses, then that register's level

-- a pixel is shown by the levels of the grey registers
abbrev pub shown_by : (ℕ → ℕ) → Pixel → Shown
shown_by level dark = shown.Dark
shown_by level undriven = shown.Undriven
shown_by level (uses g) = shown.Level (level g)

-- what a RAM row shows of the byte at its place
abbrev pub shown_of : Registers → ℕ → ℕ → Shown
shown_of r ram byte = shown_by (level_of r) (pixel_of r ram byte)

abbrev pub shown_at : Registers → List ℕ → ℕ → ℕ → Shown
shown_at r memory ram column = shown_of r ram (get_or memory (place_at ram column) 0)

unfoldable pub glass_of : Chip → List ℕ → ℕ → ℕ → Result Shown ℕ
glass_of c memory row column = told_unless (glass_refusal c (length memory) row column) (shown_at c.registers memory (ram_row_of c row) column)
