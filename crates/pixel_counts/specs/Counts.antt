-- How many pixels of the glass have each value (document 02, W8), counted one by one over its 67 rows and 101 columns.
use Rattle.std.specs.Prelude.{cond, List, Result, ◌≡◌, ℕ, zero, suc, ◌+◌, ◌%◌, eqb, get_or, length}
use Rattle.registers.specs.declared.PixelCounts.{PixelCounts}
use Rattle.registers.specs.Record.{by_value}
use Rattle.registers.specs.Refusals.{length_refusal}
use Rattle.registers.specs.State.{State}
use Rattle.glass.specs.Pixel.{ram_row, place_at, value_in}
use Rattle.glass.specs.Glass.{told_unless}

-- the value of the pixel in this row and column of the memory
abbrev pub value_at : List ℕ → ℕ → ℕ → ℕ
value_at m row column = value_in (get_or m (place_at row column) 0) (row % 4)

-- 1 where a pixel has value v, else 0
abbrev pub of_value : ℕ → ℕ → ℕ
of_value v value = cond (eqb value v) 1 0

-- how many have value v: in the first n columns of a row, and in the first n rows
unfoldable pub in_row : ℕ → List ℕ → ℕ → ℕ → ℕ
in_row v m row zero = 0
in_row v m row (suc n) = of_value v (value_at m row n) + in_row v m row n

unfoldable pub in_rows : ℕ → List ℕ → ℕ → ℕ
in_rows v m zero = 0
in_rows v m (suc n) = in_row v m n 101 + in_rows v m n

unfoldable pub count_of : ℕ → List ℕ → ℕ
count_of v m = in_rows v m 67

-- the same over the rows of the glass, which MY = 1 turns over: `glass-rows` says that this is no other count
unfoldable pub in_glass_rows : ℕ → ℕ → List ℕ → ℕ → ℕ
in_glass_rows my v m zero = 0
in_glass_rows my v m (suc n) = in_row v m (ram_row my n) 101 + in_glass_rows my v m n

-- of all four values: the true counts of a display memory
unfoldable pub counts_of : List ℕ → PixelCounts
counts_of m = by_value (λ v. count_of v m)

-- the chip's counts are those of its memory
abbrev pub TrueCounts : State → Type 0
TrueCounts s = s.chip.pixels ≡ counts_of s.memory

-- ---- a counting start, from display memory alone

-- refused by 1, or the counts
unfoldable pub counting_start : List ℕ → Result PixelCounts ℕ
counting_start m = told_unless (length_refusal (length m)) (counts_of m)
