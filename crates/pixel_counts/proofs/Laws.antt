-- What is promised of the counts, in one place: read this file first. The work stands in the files beside it.
use mathlib.Core.Bool.{Bool, true, false, cond, ◌&&◌}
use mathlib.Core.List.{List}
use mathlib.Core.Logic.{◌↔◌, ◌⊎◌, inl, inr}
use mathlib.Core.Path.{◌≡◌, refl, sym, ap, ◌∙◌, subst}
use Prim.Native.Nat.{ℕ, zero, suc, ◌+◌, ◌*◌, ◌/◌, ◌%◌, ◌-◌, ◌≤◌, ◌<◌}
use native.Mathlib.Nat.{zero-div}
use native.Mathlib.Omega.{arith}
use borrow.Author.Tests.{leb-true, leb-false, le-leb, eq-eqb, ne_eqb}
use lib.Dec.{leb}
use lib.ListN.{get_or, length, set, replicate}
use Rattle.std.specs.Prelude.{Ok, Err}
use Rattle.registers.specs.declared.PixelCounts.{PixelCounts}
use Rattle.registers.specs.Record.{pixels, count_for, by_value, cleared, allowed_counts}
use Rattle.registers.specs.State.{places}
use Rattle.registers.proofs.Below.{true-false}
use Rattle.registers.proofs.Within.{both_left, both_right, count-bound}
use Rattle.glass.specs.Pixel.{value_in}
use Rattle.pixel_counts.specs.Counts.{of_value, in_row, in_rows, in_glass_rows, count_of, counts_of, counting_start}
use Rattle.pixel_counts.specs.Mending.{shown, fits, moved, mendable, mended, StaysIn, GoesOut}
use Rattle.pixel_counts.proofs.Pixels.{three-shown}
use Rattle.pixel_counts.proofs.Places.{set-moves}
use Rattle.pixel_counts.proofs.Sums as Sums
use Rattle.pixel_counts.proofs.Turned as Turned

-- ---- true counts

-- they add up to all pixels
pub counts-add : (m : List ℕ) → count_of 0 m + count_of 1 m + count_of 2 m + count_of 3 m ≡ pixels
counts-add = Sums.counts-add

-- and are the same over the rows of the glass, whatever MY is
pub glass-rows : (my v : ℕ) (m : List ℕ) → in_glass_rows my v m 67 ≡ count_of v m
glass-rows my v m = Turned.glass-rows v m my

four-allowed : (n : PixelCounts) → ((v : ℕ) → v < 4 → count_for n v ≤ pixels) → allowed_counts n ≡ true
four-allowed n h =
    simp (
      le-leb n.zeros pixels (h 0 (omega arith)),
      le-leb n.ones pixels (h 1 (omega arith)),
      le-leb n.twos pixels (h 2 (omega arith)),
      le-leb n.threes pixels (h 3 (omega arith)),
    )

-- so they are allowed
pub counts-allowed : (m : List ℕ) → allowed_counts (counts_of m) ≡ true
unfolding counts_of
counts-allowed m = four-allowed (by_value (λ v. count_of v m)) low
  where
    low : (v : ℕ) → v < 4 → count_for (by_value (λ u. count_of u m)) v ≤ pixels
    low zero h = Sums.count_low m 0 (omega arith)
    low (suc zero) h = Sums.count_low m 1 (omega arith)
    low (suc (suc zero)) h = Sums.count_low m 2 (omega arith)
    low (suc (suc (suc zero))) h = Sums.count_low m 3 (omega arith)
    low (suc (suc (suc (suc v)))) h = absurd (omega arith)

-- ---- one count

fits-so : (n left joined : ℕ) → left ≤ n + joined → n + joined ≤ pixels + left → fits n left joined ≡ true
fits-so n left joined low high = simp (le-leb left (n + joined) low, le-leb (n + joined) (pixels + left) high)

pub so-fits : (n left joined : ℕ) → fits n left joined ≡ true → (left ≤ n + joined) × (n + joined ≤ pixels + left)
so-fits n left joined t = (
  leb-true left (n + joined) (both_left _ (leb (n + joined) (pixels + left)) t),
  leb-true (n + joined) (pixels + left) (both_right (leb left (n + joined)) _ t),
)

fits_not : (n left joined : ℕ) → fits n left joined ≡ false → (n + joined < left) ⊎ (pixels + left < n + joined)
fits_not n left joined f = go (leb left (n + joined)) (leb (n + joined) (pixels + left)) refl refl f
  where
    go :
        (a b : Bool) → leb left (n + joined) ≡ a → leb (n + joined) (pixels + left) ≡ b → a && b ≡ false
        → (n + joined < left) ⊎ (pixels + left < n + joined)
    go false b ea eb q = inl (leb-false left (n + joined) ea)
    go true false ea eb q = inr (leb-false (n + joined) (pixels + left) eb)
    go true true ea eb q = absurd (true-false q)

not-both :
    (n left joined : ℕ) → left ≤ n + joined → n + joined ≤ pixels + left → (n + joined < left) ⊎ (pixels + left < n + joined) → ⊥
not-both n left joined low high (inl h) = omega arith
not-both n left joined low high (inr h) = omega arith

moves-by : (n left joined : ℕ) → fits n left joined ≡ true → moved n left joined + left ≡ n + joined
moves-by n left joined t = let so = so-fits n left joined t in rw t (omega (arith, so.0))

moved-low : (n left joined : ℕ) → n ≤ pixels → moved n left joined ≤ pixels
moved-low n left joined h = go (fits n left joined) refl
  where
    go : (t : Bool) → fits n left joined ≡ t → cond t (n + joined - left) n ≤ pixels
    go true e = let so = so-fits n left joined e in omega (arith, so.1)
    go false e = h

-- ---- counts of any kind, true or not, where byte `new` takes the place of byte `old`

module _ (n : PixelCounts) (place old new : ℕ) where
  abbrev fit : ℕ → Bool
  fit v = fits (count_for n v) (shown v place old) (shown v place new)

  opened : mendable n place old new ≡ fit 0 && fit 1 && fit 2 && fit 3
  unfolding mendable
  opened = refl

  each_fits : mendable n place old new ≡ true → (v : ℕ) → v < 4 → fit v ≡ true
  unfolding mendable
  each_fits t zero h = both_left (fit 0) (fit 1) (both_left (fit 0 && fit 1) (fit 2) (both_left (fit 0 && fit 1 && fit 2) (fit 3) t))
  each_fits t (suc zero) h = both_right (fit 0) (fit 1) (both_left (fit 0 && fit 1) (fit 2) (both_left (fit 0 && fit 1 && fit 2) (fit 3) t))
  each_fits t (suc (suc zero)) h = both_right (fit 0 && fit 1) (fit 2) (both_left (fit 0 && fit 1 && fit 2) (fit 3) t)
  each_fits t (suc (suc (suc zero))) h = both_right (fit 0 && fit 1 && fit 2) (fit 3) t
  each_fits t (suc (suc (suc (suc v)))) h = absurd (omega arith)

  all_fit : ((v : ℕ) → v < 4 → fit v ≡ true) → mendable n place old new ≡ true
  unfolding mendable
  all_fit h = simp (h 0 (omega arith), h 1 (omega arith), h 2 (omega arith), h 3 (omega arith))

  -- they can be mended exactly if that is so of every value
  pub mendable-exactly : (mendable n place old new ≡ true) ↔ ((v : ℕ) → v < 4 → StaysIn n place old new v)
  mendable-exactly = (there, back)
    where
      there : mendable n place old new ≡ true → (v : ℕ) → v < 4 → StaysIn n place old new v
      there t v h =
          let so = so-fits (count_for n v) (shown v place old) (shown v place new) (each_fits t v h) in
          record { not-below = so.0; not-above = so.1 }

      back : ((v : ℕ) → v < 4 → StaysIn n place old new v) → mendable n place old new ≡ true
      back f = all_fit (λ v h. let so = f v h in fits-so _ _ _ so.not-below so.not-above)

  -- and can't be exactly if it is not so of some value
  pub unmendable-exactly : (mendable n place old new ≡ false) ↔ GoesOut n place old new
  unmendable-exactly = (there, back)
    where
      -- the first value that does not fit
      which : (v : ℕ) → v < 4 → fit v ≡ false → GoesOut n place old new
      which v h f = record { value = v; is_value = h; out = fits_not (count_for n v) (shown v place old) (shown v place new) f }

      among :
          (a b c d : Bool) → fit 0 ≡ a → fit 1 ≡ b → fit 2 ≡ c → fit 3 ≡ d → a && b && c && d ≡ false → GoesOut n place old new
      among false b c d ea eb ec ed f = which 0 (omega arith) ea
      among true false c d ea eb ec ed f = which 1 (omega arith) eb
      among true true false d ea eb ec ed f = which 2 (omega arith) ec
      among true true true false ea eb ec ed f = which 3 (omega arith) ed
      among true true true true ea eb ec ed f = absurd (true-false f)

      there : mendable n place old new ≡ false → GoesOut n place old new
      there f = among (fit 0) (fit 1) (fit 2) (fit 3) refl refl refl refl (sym opened ∙ f)

      back : GoesOut n place old new → mendable n place old new ≡ false
      back out = go (mendable n place old new) refl
        where
          go : (t : Bool) → mendable n place old new ≡ t → t ≡ false
          go true e =
              let so = mendable-exactly.0 e out.value out.is_value in
              absurd (not-both _ _ _ so.not-below so.not-above out.out)
          go false e = refl

  -- of each value the count after, by its own rule
  of-each : (v : ℕ) → v < 4 → count_for (mended n place old new) v ≡ moved (count_for n v) (shown v place old) (shown v place new)
  unfolding mended
  of-each zero h = refl
  of-each (suc zero) h = refl
  of-each (suc (suc zero)) h = refl
  of-each (suc (suc (suc zero))) h = refl
  of-each (suc (suc (suc (suc v)))) h = absurd (omega arith)

  -- each count moves by exactly what left and what joined
  pub moves-exactly :
      mendable n place old new ≡ true → (v : ℕ) → v < 4
      → count_for (mended n place old new) v + shown v place old ≡ count_for n v + shown v place new
  moves-exactly t v h =
      ap (λ (k : ℕ). k + shown v place old) (of-each v h) ∙ moves-by (count_for n v) (shown v place old) (shown v place new) (each_fits t v h)

  -- and stays allowed
  pub mended-allowed : allowed_counts n ≡ true → allowed_counts (mended n place old new) ≡ true
  mended-allowed h =
      four-allowed (mended n place old new) (λ v l.
      subst (λ (k : ℕ). k ≤ pixels) (sym (of-each v l)) (moved-low (count_for n v) (shown v place old) (shown v place new) (low v l)))
    where
      low : (v : ℕ) → v < 4 → count_for n v ≤ pixels
      low zero l = count-bound n h 0
      low (suc zero) l = count-bound n h 1
      low (suc (suc zero)) l = count-bound n h 2
      low (suc (suc (suc zero))) l = count-bound n h 3
      low (suc (suc (suc (suc v)))) l = absurd (omega arith)

-- ---- true counts, where byte x is stored at place i of the memory

module _ (m : List ℕ) (i x : ℕ) (there : i < length m) (is_place : i < places) where
  true-fits : (v : ℕ) → v < 4 → fits (count_of v m) (shown v i (get_or m i 0)) (shown v i x) ≡ true
  true-fits v h =
      let step = set-moves v m i x there is_place in
      let low = Sums.count_low (set m i x) v h in
      fits-so (count_of v m) (shown v i (get_or m i 0)) (shown v i x) (omega (arith, step)) (omega (arith, step, low))

  -- they can always be mended
  pub true-mendable : mendable (counts_of m) i (get_or m i 0) x ≡ true
  unfolding counts_of mendable
  true-mendable = simp (true-fits 0 (omega arith), true-fits 1 (omega arith), true-fits 2 (omega arith), true-fits 3 (omega arith))

  stays : (v : ℕ) → v < 4 → moved (count_of v m) (shown v i (get_or m i 0)) (shown v i x) ≡ count_of v (set m i x)
  stays v h =
      let step = set-moves v m i x there is_place in
      let by = moves-by (count_of v m) (shown v i (get_or m i 0)) (shown v i x) (true-fits v h) in
      omega (arith, step, by)

  -- and are true then
  pub stays-true : mended (counts_of m) i (get_or m i 0) x ≡ counts_of (set m i x)
  unfolding counts_of mended
  stays-true = simp (stays 0 (omega arith), stays 1 (omega arith), stays 2 (omega arith), stays 3 (omega arith))

-- ---- a cleared memory

module _ (m : List ℕ) (clear : (k : ℕ) → get_or m k 0 ≡ 0) where
  none-there : (k : ℕ) → value_in 0 k ≡ 0
  none-there k = simp zero-div

  clear-row : (v row n : ℕ) → in_row v m row n ≡ of_value v 0 * n
  unfolding in_row
  clear-row v row zero = omega arith
  clear-row v row (suc n) = simp (clear, none-there) (omega (arith, clear-row v row n))

  clear-rows : (v n : ℕ) → in_rows v m n ≡ of_value v 0 * (101 * n)
  unfolding in_rows
  clear-rows v zero = omega arith
  clear-rows v (suc n) = omega (arith, clear-rows v n, clear-row v n 101)

  pub cleared-counts : counts_of m ≡ cleared
  unfolding counts_of count_of
  cleared-counts = simp (clear-rows 0 67, clear-rows 1 67, clear-rows 2 67, clear-rows 3 67)

-- a memory of zeros
pub zeros-cleared : (n : ℕ) → counts_of (replicate n 0) ≡ cleared
zeros-cleared n = cleared-counts (replicate n 0) (all-zero n)
  where
    all-zero : (n k : ℕ) → ◌≡◌ {A = ℕ} (get_or (replicate n 0) k 0) 0
    all-zero zero k = refl
    all-zero (suc n) zero = refl
    all-zero (suc n) (suc k) = all-zero n k

-- ---- bank 16

-- bits 6 and 7 of its bytes count for nothing
pub six_bits : (v place b : ℕ) → 1616 ≤ place → shown v place b ≡ shown v place (b % 64)
six_bits v place b h =
    three-shown v place b h
    ∙ same-three v (b % 4) (b / 4 % 4) (b / 16 % 4) (b % 64 % 4) (b % 64 / 4 % 4) (b % 64 / 16 % 4) (omega arith) (omega arith) (omega arith)
    ∙ sym (three-shown v place (b % 64) h)
  where
    same-three :
        (v x y z x' y' z' : ℕ) → x ≡ x' → y ≡ y' → z ≡ z'
        → of_value v x + of_value v y + of_value v z ≡ of_value v x' + of_value v y' + of_value v z'
    same-three v x y z x' y' z' ex ey ez = rw (ex, ey, ez)

-- ---- a counting start

-- of a memory of its length its counts are true; of any other it is refused by 1, and gives none
pub start-counts : (m : List ℕ) → length m ≡ places → counting_start m ≡ Ok (counts_of m)
unfolding counting_start
start-counts m h = simp (eq-eqb _ _ h)

pub start-refused : (m : List ℕ) → (length m ≡ places → ⊥) → counting_start m ≡ Err 1
unfolding counting_start
start-refused m n = simp (ne_eqb _ _ n)
