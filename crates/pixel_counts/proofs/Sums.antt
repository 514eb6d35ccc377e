-- Every pixel has one of the four values: over a byte, a row and the whole glass.
use mathlib.Core.List.{List}
use mathlib.Core.Path.{◌≡◌, refl}
use Prim.Native.Nat.{ℕ, zero, suc, ◌+◌, ◌*◌, ◌%◌, ◌≤◌, ◌<◌}
use native.Mathlib.Omega.{arith}
use Rattle.glass.specs.Pixel.{value_in}
use Rattle.pixel_counts.specs.Counts.{of_value, value_at, in_row, in_rows, count_of}

one_value : (n : ℕ) → n < 4 → of_value 0 n + of_value 1 n + of_value 2 n + of_value 3 n ≡ 1
one_value zero h = refl
one_value (suc zero) h = refl
one_value (suc (suc zero)) h = refl
one_value (suc (suc (suc zero))) h = refl
one_value (suc (suc (suc (suc n)))) h = absurd (omega arith)

value-bound : (b k : ℕ) → value_in b k < 4
value-bound b k = omega arith

row-sum : (m : List ℕ) (row n : ℕ) → in_row 0 m row n + in_row 1 m row n + in_row 2 m row n + in_row 3 m row n ≡ n
unfolding in_row
row-sum m row zero = refl
row-sum m row (suc n) = omega (arith, row-sum m row n, one_value (value_at m row n) (value-bound _ (row % 4)))

rows-sum : (m : List ℕ) (n : ℕ) → in_rows 0 m n + in_rows 1 m n + in_rows 2 m n + in_rows 3 m n ≡ 101 * n
unfolding in_rows
rows-sum m zero = refl
rows-sum m (suc n) = omega (arith, rows-sum m n, row-sum m n 101)

-- true counts add up to all pixels
pub counts-add : (m : List ℕ) → count_of 0 m + count_of 1 m + count_of 2 m + count_of 3 m ≡ 6767
unfolding count_of
counts-add m = rows-sum m 67

-- so that none of them is above that
pub count_low : (m : List ℕ) (v : ℕ) → v < 4 → count_of v m ≤ 6767
count_low m zero h = omega (arith, counts-add m)
count_low m (suc zero) h = omega (arith, counts-add m)
count_low m (suc (suc zero)) h = omega (arith, counts-add m)
count_low m (suc (suc (suc zero))) h = omega (arith, counts-add m)
count_low m (suc (suc (suc (suc v)))) h = absurd (omega arith)
