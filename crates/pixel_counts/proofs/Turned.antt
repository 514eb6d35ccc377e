-- The rows of the glass are those of the memory, turned over where MY = 1: as many pixels have each value either way.
use mathlib.Core.Bool.{Bool, true, false, cond}
use mathlib.Core.List.{List}
use mathlib.Core.Path.{◌≡◌, refl, ap, ◌∙◌}
use Prim.Native.Nat.{ℕ, zero, suc, ◌+◌, ◌-◌, ◌≤◌}
use native.Mathlib.Omega.{arith}
use lib.Dec.{eqb}
use Rattle.pixel_counts.specs.Counts.{in_row, in_rows, in_glass_rows, count_of}

module _ (v : ℕ) (m : List ℕ) where
  -- from the last row up
  turned : ℕ → ℕ
  turned zero = 0
  turned (suc n) = in_row v m (66 - n) 101 + turned n

  next_row : (n : ℕ) → in_rows v m (suc n) ≡ in_row v m n 101 + in_rows v m n
  unfolding in_rows
  next_row n = refl

  -- k rows from the end, and those before them, are all rows
  both_ends : (k : ℕ) → k ≤ 67 → turned k + in_rows v m (67 - k) ≡ in_rows v m 67
  unfolding turned
  both_ends zero h = omega arith
  both_ends (suc k) h =
      let at : 67 - k ≡ suc (66 - k) = omega arith in
      let fewer : 67 - suc k ≡ 66 - k = omega arith in
      let last : in_rows v m (67 - k) ≡ in_row v m (66 - k) 101 + in_rows v m (66 - k) = ap (in_rows v m) at ∙ next_row (66 - k) in
      rw fewer (omega (arith, both_ends k (omega arith), last))

  no_rows : in_rows v m 0 ≡ 0
  unfolding in_rows
  no_rows = refl

  -- said of plain numbers, so that no sum over 67 rows is unrolled
  all-of-one-end : (t : ℕ) (r s : ℕ) → t + r ≡ s → r ≡ 0 → t ≡ s
  all-of-one-end t r s both none = omega (arith, both, none)

  all-turned : turned 67 ≡ in_rows v m 67
  all-turned = all-of-one-end (turned 67) (in_rows v m 0) (in_rows v m 67) (both_ends 67 (omega arith)) no_rows

  as_rows : (t : Bool) (my n : ℕ) → eqb my 1 ≡ t → in_glass_rows my v m n ≡ cond t (turned n) (in_rows v m n)
  unfolding in_glass_rows in_rows turned
  as_rows true my zero e = refl
  as_rows false my zero e = refl
  as_rows true my (suc n) e = rw (e, as_rows true my n e)
  as_rows false my (suc n) e = rw (e, as_rows false my n e)

  pub glass-rows : (my : ℕ) → in_glass_rows my v m 67 ≡ count_of v m
  unfolding count_of
  glass-rows my = go (eqb my 1) refl
    where
      go : (t : Bool) → eqb my 1 ≡ t → in_glass_rows my v m 67 ≡ in_rows v m 67
      go true e = as_rows true my 67 e ∙ all-turned
      go false e = as_rows false my 67 e
