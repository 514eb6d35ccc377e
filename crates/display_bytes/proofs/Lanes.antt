-- The four counts in one number: what a byte adds to it, when a byte may take another's place, what the number is then, and the counts read back.
use mathlib.Core.Bool.{Bool, true, false, cond, ◌&&◌}
use mathlib.Core.Path.{◌≡◌, refl, sym, ap, ◌∙◌}
use Prim.Native.Nat.{ℕ, ◌+◌, ◌*◌, ◌/◌, ◌%◌, ◌-◌, ◌^◌, ◌≤◌, ◌<◌}
use native.Mathlib.Omega.{arith}
use borrow.Author.Tests.{leb-true, le-leb, eqb-true, eq-eqb}
use lib.Dec.{T, eqb, leb, ltb, eqb→eq, leb→le}
use lib.ListN.{get_or}
use Rattle.registers.specs.declared.PixelCounts.{PixelCounts}
use Rattle.registers.specs.Record.{pixels, count_for, by_value}
use Rattle.registers.proofs.Below.{all_below, and_left, and_right, below_at}
use Rattle.registers.proofs.Within.{both_left, both_right}
use Rattle.pixel_counts.specs.Counts.{of_value}
use Rattle.pixel_counts.specs.Mending.{tally, fits, moved, all_fit, all_moved, shown, mendable, mended}
use Rattle.pixel_counts.proofs.Pixels.{three-shown, four-shown}
use Rattle.pixel_counts.proofs.Laws.{six_bits, moves-exactly}
use Rattle.display_bytes.specs.Lanes.{
  lanes,
  packed_of,
  unpacked_of,
  total,
  four_pixels,
  two_pixels,
  packed_byte,
  masked,
  guards,
  exchanged,
  none_below,
}

-- ---- tests

-- two that are true at the same time
same_truth : (s t : Bool) → (s ≡ true → t ≡ true) → (t ≡ true → s ≡ true) → s ≡ t
same_truth true t there back = sym (there refl)
same_truth false true there back = back refl
same_truth false false there back = refl

and-false : (t : Bool) → t && false ≡ false
and-false true = refl
and-false false = refl

-- four, with four more that follow where all of them are true
others-follow :
    (p q r s p' q' r' s' : Bool) → (p && q && r && s ≡ true → p' && q' && r' && s' ≡ true)
    → p && q && r && s ≡ (p && p') && (q && q') && (r && r') && (s && s')
others-follow true true true true p' q' r' s' h = sym (h refl)
others-follow true true true false p' q' r' s' h = simp and-false
others-follow true true false s p' q' r' s' h = simp and-false
others-follow true false r s p' q' r' s' h = simp and-false
others-follow false q r s p' q' r' s' h = refl

-- ---- what a byte adds: one test over all bytes

-- its two halves add up to its pixels, and these are four
counted : ℕ → Bool
counted b = eqb (packed_byte b) (packed_of (four_pixels b)) && eqb (total (four_pixels b)) 4

all-counted : T (all_below 256 counted)
unfolding counted tally
all-counted = tt

module _ (b : ℕ) (h : b < 256) where
  told : T (eqb (packed_byte b) (packed_of (four_pixels b)) && eqb (total (four_pixels b)) 4)
  unfolding counted
  told = below_at 256 counted all-counted b h

  pub byte-packed : get_or two_pixels (b % 16) 0 + get_or two_pixels (b / 16) 0 ≡ packed_of (four_pixels b)
  byte-packed =
      eqb→eq (packed_byte b) (packed_of (four_pixels b)) (and_left (eqb (packed_byte b) (packed_of (four_pixels b))) (eqb (total (four_pixels b)) 4) told)

  pub four : total (four_pixels b) ≡ 4
  four = eqb→eq (total (four_pixels b)) 4 (and_right (eqb (packed_byte b) (packed_of (four_pixels b))) (eqb (total (four_pixels b)) 4) told)

  pub byte_low : packed_of (four_pixels b) ≤ 4 * 281474976710656
  byte_low = omega (arith, four)

-- of half a byte
pub entry-low : (k : ℕ) → k < 16 → get_or two_pixels k 0 ≤ 2 * 281474976710656
entry-low k h = leb→le (get_or two_pixels k 0) (2 * 281474976710656) (below_at 16 (λ i. leb (get_or two_pixels i 0) (2 * 281474976710656)) tt k h)

-- ---- the counts read back

module _ (n : PixelCounts) (low : total n ≤ pixels) where
  pub packed-low : packed_of n < 2 ^ 64
  packed-low = omega arith

  pub zeros-back : packed_of n % 65536 ≡ n.zeros
  zeros-back = omega arith

  pub ones-back : packed_of n / 65536 % 65536 ≡ n.ones
  ones-back = omega arith

  pub twos_back : packed_of n / 4294967296 % 65536 ≡ n.twos
  twos_back = omega arith

  pub threes-back : packed_of n / 281474976710656 ≡ n.threes
  threes-back = omega arith

  pub taken-apart : unpacked_of (packed_of n) ≡ n
  taken-apart = simp (zeros-back, ones-back, twos_back, threes-back)

-- ---- the guards

-- each is its own lane's highest bit
module _ (a b c d : ℕ) (la : a < 65536) (lb : b < 65536) (lc : c < 65536) where
  own-guards :
      none_below (lanes a b c d) ≡ eqb (a / 32768) 1 && eqb (b / 32768) 1 && eqb (c / 32768) 1 && eqb (d / 32768) 1
  own-guards = rw (lowest, second, third, highest)
    where
      lowest : lanes a b c d / 32768 % 2 ≡ a / 32768
      lowest = omega arith

      second : lanes a b c d / 2147483648 % 2 ≡ b / 32768
      second = omega arith

      third : lanes a b c d / 140737488355328 % 2 ≡ c / 32768
      third = omega arith

      highest : lanes a b c d / 9223372036854775808 ≡ d / 32768
      highest = omega arith

-- a lane with its guard, which `left` pixels leave and `joined` pixels join
abbrev guarded : ℕ → ℕ → ℕ → ℕ
guarded n left joined = n + 32768 + joined - left

guard_told :
    (n left joined : ℕ) → n ≤ pixels → left ≤ 4 → joined ≤ 4 → eqb (guarded n left joined / 32768) 1 ≡ leb left (n + joined)
guard_told n left joined ln ll lj = same_truth (eqb (guarded n left joined / 32768) 1) (leb left (n + joined)) there back
  where
    there : eqb (guarded n left joined / 32768) 1 ≡ true → leb left (n + joined) ≡ true
    there e = let one = eqb-true (guarded n left joined / 32768) 1 e in le-leb left (n + joined) (omega arith)

    back : leb left (n + joined) ≡ true → eqb (guarded n left joined / 32768) 1 ≡ true
    back e = let so = leb-true left (n + joined) e in eq-eqb (guarded n left joined / 32768) 1 (omega arith)

-- ---- four pixels for four

module _ (n left joined : PixelCounts) (low : total n ≤ pixels) (leave : total left ≡ 4) (join : total joined ≡ 4) where
  -- no lane borrows from the next
  by-lanes :
      (a b c d : ℕ) → a + left.zeros ≡ n.zeros + 32768 + joined.zeros → b + left.ones ≡ n.ones + 32768 + joined.ones
      → c + left.twos ≡ n.twos + 32768 + joined.twos → d + left.threes ≡ n.threes + 32768 + joined.threes
      → packed_of n + guards + packed_of joined - packed_of left ≡ lanes a b c d
  by-lanes a b c d ea eb ec ed = omega arith

  -- of one value: its lane, and the two tests of its count
  abbrev lane : ℕ → ℕ
  lane v = guarded (count_for n v) (count_for left v) (count_for joined v)

  abbrev not_below : ℕ → Bool
  not_below v = leb (count_for left v) (count_for n v + count_for joined v)

  abbrev not_above : ℕ → Bool
  not_above v = leb (count_for n v + count_for joined v) (pixels + count_for left v)

  none_told : none_below (packed_of n + guards + packed_of joined - packed_of left) ≡ not_below 0 && not_below 1 && not_below 2 && not_below 3
  none_told =
      ap none_below (by-lanes (lane 0) (lane 1) (lane 2) (lane 3) (omega arith) (omega arith) (omega arith) (omega arith))
      ∙ own-guards (lane 0) (lane 1) (lane 2) (lane 3) (omega arith) (omega arith) (omega arith)
      ∙ rw (
        guard_told n.zeros left.zeros joined.zeros (omega arith) (omega arith) (omega arith),
        guard_told n.ones left.ones joined.ones (omega arith) (omega arith) (omega arith),
        guard_told n.twos left.twos joined.twos (omega arith) (omega arith) (omega arith),
        guard_told n.threes left.threes joined.threes (omega arith) (omega arith) (omega arith),
      )

  -- where no count goes below 0 none goes above all pixels, since as many leave as join
  none_above : not_below 0 && not_below 1 && not_below 2 && not_below 3 ≡ true → not_above 0 && not_above 1 && not_above 2 && not_above 3 ≡ true
  none_above e =
      let three = both_left (not_below 0 && not_below 1 && not_below 2) (not_below 3) e in
      let two = both_left (not_below 0 && not_below 1) (not_below 2) three in
      let zeros = leb-true left.zeros (n.zeros + joined.zeros) (both_left (not_below 0) (not_below 1) two) in
      let ones = leb-true left.ones (n.ones + joined.ones) (both_right (not_below 0) (not_below 1) two) in
      let twos = leb-true left.twos (n.twos + joined.twos) (both_right (not_below 0 && not_below 1) (not_below 2) three) in
      let threes = leb-true left.threes (n.threes + joined.threes) (both_right (not_below 0 && not_below 1 && not_below 2) (not_below 3) e) in
      simp (
        le-leb (n.zeros + joined.zeros) (pixels + left.zeros) (omega arith),
        le-leb (n.ones + joined.ones) (pixels + left.ones) (omega arith),
        le-leb (n.twos + joined.twos) (pixels + left.twos) (omega arith),
        le-leb (n.threes + joined.threes) (pixels + left.threes) (omega arith),
      )

  all_told : none_below (packed_of n + guards + packed_of joined - packed_of left) ≡ all_fit n left joined
  all_told =
      none_told
      ∙ others-follow (not_below 0) (not_below 1) (not_below 2) (not_below 3) (not_above 0) (not_above 1) (not_above 2) (not_above 3) none_above

  -- where each count moves by what left and what joined, the guards are there as they were put
  all_moved_lem :
      (after : PixelCounts)
      → after.zeros + left.zeros ≡ n.zeros + joined.zeros → after.ones + left.ones ≡ n.ones + joined.ones
      → after.twos + left.twos ≡ n.twos + joined.twos → after.threes + left.threes ≡ n.threes + joined.threes
      → (packed_of n + guards + packed_of joined - packed_of left ≡ packed_of after + guards) × (total after ≡ total n)
  all_moved_lem after zeros ones twos threes = (omega arith, omega arith)

-- ---- three pixels as four: bank 16

-- pixels that both leave and join change nothing
fits_both : (k n left joined : ℕ) → fits n (k + left) (k + joined) ≡ fits n left joined
fits_both k n left joined =
    rw (
      same-order (k + left) (n + (k + joined)) left (n + joined) (λ h. omega arith) (λ h. omega arith),
      same-order (n + (k + joined)) (pixels + (k + left)) (n + joined) (pixels + left) (λ h. omega arith) (λ h. omega arith),
    )
  where
    same-order : (a b c d : ℕ) → (a ≤ b → c ≤ d) → (c ≤ d → a ≤ b) → leb a b ≡ leb c d
    same-order a b c d there back =
        same_truth (leb a b) (leb c d) (λ e. le-leb c d (there (leb-true a b e))) (λ e. le-leb a b (back (leb-true c d e)))

moved-both : (k n left joined : ℕ) → moved n (k + left) (k + joined) ≡ moved n left joined
moved-both k n left joined = rw (fits_both k n left joined, same)
  where
    same : n + (k + joined) - (k + left) ≡ n + joined - left
    same = omega arith

-- of a byte whose two highest bits are dropped three pixels are as they were, and the fourth has value 0
fourth-zero : (v b : ℕ) → tally 4 v (b % 64) ≡ of_value v 0 + tally 3 v b
unfolding shown
fourth-zero v b =
    four-shown v 0 (b % 64) (omega arith) (omega arith)
    ∙ rw (← three-shown v 1616 (b % 64) (omega arith), ← six_bits v 1616 b (omega arith), none) (omega arith)
  where
    none : b % 64 / 64 ≡ 0
    none = omega arith

module _ (n : PixelCounts) (place old new : ℕ) where
  pub mendable-four : mendable n place old new ≡ all_fit n (four_pixels (masked place old)) (four_pixels (masked place new))
  unfolding mendable shown
  mendable-four = go (ltb place 1616)
    where
      go :
          (t : Bool)
          → all_fit n (by_value (λ v. tally (cond t 4 3) v old)) (by_value (λ v. tally (cond t 4 3) v new))
          ≡ all_fit n (four_pixels (cond t old (old % 64))) (four_pixels (cond t new (new % 64)))
      go true = refl
      go false = simp (fourth-zero, fits_both)

  pub mended-four : mended n place old new ≡ all_moved n (four_pixels (masked place old)) (four_pixels (masked place new))
  unfolding mended shown
  mended-four = go (ltb place 1616)
    where
      go :
          (t : Bool)
          → all_moved n (by_value (λ v. tally (cond t 4 3) v old)) (by_value (λ v. tally (cond t 4 3) v new))
          ≡ all_moved n (four_pixels (cond t old (old % 64))) (four_pixels (cond t new (new % 64)))
      go true = refl
      go false = simp (fourth-zero, moved-both)

pub masked-byte : (place b : ℕ) → b < 256 → masked place b < 256
masked-byte place b h = go (ltb place 1616)
  where
    go : (t : Bool) → cond t b (b % 64) < 256
    go true = h
    go false = omega arith

-- ---- byte `new` for byte `old`, with four pixels each

module _ (n : PixelCounts) (old new : ℕ) (low : total n ≤ pixels) (old-byte : old < 256) (new-byte : new < 256) where
  -- the sum does not overflow, and the difference is a number
  pub sum_fits : packed_of n + guards + packed_of (four_pixels new) < 2 ^ 64
  sum_fits = omega (arith, four new new-byte)

  pub enough : packed_of (four_pixels old) ≤ packed_of n + guards + packed_of (four_pixels new)
  enough = omega (arith, four old old-byte)

  pub fit-told : none_below (exchanged n old new) ≡ all_fit n (four_pixels old) (four_pixels new)
  fit-told = all_told n (four_pixels old) (four_pixels new) low (four old old-byte) (four new new-byte)

  module _ (fit : all_fit n (four_pixels old) (four_pixels new) ≡ true) where
    can-mend : mendable n 0 old new ≡ true
    can-mend = mendable-four n 0 old new ∙ fit

    after :
        (exchanged n old new ≡ packed_of (all_moved n (four_pixels old) (four_pixels new)) + guards)
        × (total (all_moved n (four_pixels old) (four_pixels new)) ≡ total n)
    unfolding mended shown
    after =
        all_moved_lem n (four_pixels old) (four_pixels new) low (four old old-byte) (four new new-byte) (mended n 0 old new)
        (moves-exactly n 0 old new can-mend 0 (omega arith))
        (moves-exactly n 0 old new can-mend 1 (omega arith))
        (moves-exactly n 0 old new can-mend 2 (omega arith))
        (moves-exactly n 0 old new can-mend 3 (omega arith))

    pub guards-there : guards ≤ exchanged n old new
    guards-there = rw after.0 (omega arith)

    pub packed-moved : exchanged n old new - guards ≡ packed_of (all_moved n (four_pixels old) (four_pixels new))
    packed-moved = rw after.0 (omega arith)

    pub total_kept : total (all_moved n (four_pixels old) (four_pixels new)) ≡ total n
    total_kept = after.1

-- ---- the same at a place of the memory

module _ (n : PixelCounts) (place old new : ℕ) (low : total n ≤ pixels) (old-byte : old < 256) (new-byte : new < 256) where
  old-masked : masked place old < 256
  old-masked = masked-byte place old old-byte

  new-masked : masked place new < 256
  new-masked = masked-byte place new new-byte

  pub mendable-told : none_below (exchanged n (masked place old) (masked place new)) ≡ mendable n place old new
  mendable-told = fit-told n (masked place old) (masked place new) low old-masked new-masked ∙ sym (mendable-four n place old new)

  module _ (can : mendable n place old new ≡ true) where
    fit : all_fit n (four_pixels (masked place old)) (four_pixels (masked place new)) ≡ true
    fit = sym (mendable-four n place old new) ∙ can

    pub guards-kept : guards ≤ exchanged n (masked place old) (masked place new)
    guards-kept = guards-there n (masked place old) (masked place new) low old-masked new-masked fit

    pub packed-mended : exchanged n (masked place old) (masked place new) - guards ≡ packed_of (mended n place old new)
    packed-mended = rw mended-four (packed-moved n (masked place old) (masked place new) low old-masked new-masked fit)

    pub mended-total : total (mended n place old new) ≡ total n
    mended-total = rw mended-four (total_kept n (masked place old) (masked place new) low old-masked new-masked fit)
