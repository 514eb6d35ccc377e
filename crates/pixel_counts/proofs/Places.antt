-- Pixels row by row are the pixels of the bytes place by place: so a byte that is stored moves a count by what it takes off and puts on.
use mathlib.Core.List.{List}
use mathlib.Core.Path.{◌≡◌, refl, sym, ◌∙◌}
use Prim.Native.Nat.{ℕ, zero, suc, ◌+◌, ◌*◌, ◌/◌, ◌%◌, ◌≤◌, ◌<◌}
use native.Mathlib.Decide.{ℕ_discrete}
use native.Mathlib.Omega.{arith}
use borrow.Author.Tests.{lt-ltb, le-ltb}
use lib.ListN.{get_or, length, set}
use lib.Seq.{get_or-set_same, get_or-set_other}
use Rattle.glass.specs.Pixel.{value_in}
use Rattle.pixel_counts.specs.Counts.{of_value, in_row, in_rows, count_of}
use Rattle.pixel_counts.specs.Mending.{tally, pixels_at, shown}

-- ---- place by place

-- of the bytes at the first n places
pub in_places : ℕ → List ℕ → ℕ → ℕ
in_places v m zero = 0
in_places v m (suc n) = shown v n (get_or m n 0) + in_places v m n

pub next_place : (v : ℕ) (m : List ℕ) (n : ℕ) → in_places v m (suc n) ≡ shown v n (get_or m n 0) + in_places v m n
unfolding in_places
next_place v m n = refl

pub no_place : (v : ℕ) (m : List ℕ) → in_places v m 0 ≡ 0
unfolding in_places
no_place v m = refl

module _ (v : ℕ) (m : List ℕ) where
  -- of the bytes at n places from `base` on: the pixels of row k of their bank, and those of its first k rows
  of_row : ℕ → ℕ → ℕ → ℕ
  of_row base k zero = 0
  of_row base k (suc n) = of_value v (value_in (get_or m (base + n) 0) k) + of_row base k n

  of_rows_below : ℕ → ℕ → ℕ → ℕ
  of_rows_below base k zero = 0
  of_rows_below base k (suc n) = tally k v (get_or m (base + n) 0) + of_rows_below base k n

  none_below : (base n : ℕ) → of_rows_below base 0 n ≡ 0
  unfolding of_rows_below tally
  none_below base zero = refl
  none_below base (suc n) = omega (arith, none_below base n)

  one-more-row : (base k n : ℕ) → of_rows_below base (suc k) n ≡ of_row base k n + of_rows_below base k n
  unfolding of_row of_rows_below tally
  one-more-row base k zero = refl
  one-more-row base k (suc n) = omega (arith, one-more-row base k n)

  -- row `row` of the memory is row k of a bank
  in_bank : (row bank k n : ℕ) → row / 4 ≡ bank → row % 4 ≡ k → in_row v m row n ≡ of_row (101 * bank) k n
  unfolding in_row of_row
  in_bank row bank k zero eb ek = refl
  in_bank row bank k (suc n) eb ek = rw (in_bank row bank k n eb ek, eb, ek)

  -- the first rows of a bank, after those of the banks before it
  bank-rows :
      (bank k : ℕ) → k ≤ 4 → in_rows v m (4 * bank) ≡ in_places v m (101 * bank)
      → in_rows v m (4 * bank + k) ≡ of_rows_below (101 * bank) k 101 + in_places v m (101 * bank)
  unfolding in_rows
  bank-rows bank zero h e =
      let at : 4 * bank + 0 ≡ 4 * bank = omega arith in
      rw (at, none_below (101 * bank) 101, e) (omega arith)
  bank-rows bank (suc k) h e =
      let at : 4 * bank + suc k ≡ suc (4 * bank + k) = omega arith in
      let row = in_bank (4 * bank + k) bank k 101 (omega arith) (omega arith) in
      rw at (omega (arith, row, one-more-row (101 * bank) k 101, bank-rows bank k (omega arith) e))

  -- the bytes of a bank of k rows
  bank-places :
      (base k n : ℕ) → ((c : ℕ) → c < n → pixels_at (base + c) ≡ k) → in_places v m (base + n) ≡ of_rows_below base k n + in_places v m base
  unfolding in_places of_rows_below shown
  bank-places base k zero h = let at : base + 0 ≡ base = omega arith in rw at (omega arith)
  bank-places base k (suc n) h =
      let at : base + suc n ≡ suc (base + n) = omega arith in
      let here : pixels_at (base + n) ≡ k = h n (omega arith) in
      let rest = bank-places base k n (λ c l. h c (omega arith)) in
      rw (at, here) (omega (arith, rest))

  four-rows : (bank c : ℕ) → bank < 16 → c < 101 → pixels_at (101 * bank + c) ≡ 4
  four-rows bank c h l = rw (lt-ltb (101 * bank + c) 1616 (omega arith))

  three-rows : (c : ℕ) → pixels_at (1616 + c) ≡ 3
  three-rows c = rw (le-ltb (1616 + c) 1616 (omega arith))

  whole-banks : (bank : ℕ) → bank ≤ 16 → in_rows v m (4 * bank) ≡ in_places v m (101 * bank)
  unfolding in_rows in_places
  whole-banks zero h = refl
  whole-banks (suc bank) h =
      let rows : 4 * suc bank ≡ 4 * bank + 4 = omega arith in
      let places : 101 * suc bank ≡ 101 * bank + 101 = omega arith in
      rw (rows, places)
      (bank-rows bank 4 (omega arith) (whole-banks bank (omega arith))
      ∙ sym (bank-places (101 * bank) 4 101 (λ c l. four-rows bank c (omega arith) l)))

  -- all rows, all places
  pub by-places : count_of v m ≡ in_places v m 1717
  unfolding count_of
  by-places = bank-rows 16 3 (omega arith) (whole-banks 16 (omega arith)) ∙ sym (bank-places 1616 3 101 (λ c l. three-rows c))

-- ---- a byte stored

module _ (v : ℕ) (m : List ℕ) (i x : ℕ) (there : i < length m) where
  -- nothing moves at the places before it
  unmoved : (n : ℕ) → n ≤ i → in_places v (set m i x) n ≡ in_places v m n
  unfolding in_places
  unmoved zero h = refl
  unmoved (suc n) h = rw (get_or-set_other m i n x 0 (λ q. omega arith), unmoved n (omega arith))

  moved-past : (n : ℕ) → i < n → in_places v (set m i x) n + shown v i (get_or m i 0) ≡ in_places v m n + shown v i x
  unfolding in_places
  moved-past zero h = absurd (omega arith)
  moved-past (suc n) h = go (ℕ_discrete i n) (moved-past n)
    where
      go :
          Dec (i ≡ n) → (i < n → in_places v (set m i x) n + shown v i (get_or m i 0) ≡ in_places v m n + shown v i x)
          → in_places v (set m i x) (suc n) + shown v i (get_or m i 0) ≡ in_places v m (suc n) + shown v i x
      go (yes e) before = rw (← e, get_or-set_same m i x 0 there, unmoved i (omega arith)) (omega arith)
      go (no d) before = rw (get_or-set_other m i n x 0 (λ q. d (sym q))) (omega (arith, before (omega arith)))

  -- the byte that was there leaves, and x joins
  pub set-moves : i < 1717 → count_of v (set m i x) + shown v i (get_or m i 0) ≡ count_of v m + shown v i x
  set-moves h = rw (by-places v (set m i x), by-places v m) (moved-past 1717 h)
