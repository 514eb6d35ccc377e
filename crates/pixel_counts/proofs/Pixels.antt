-- The pixels of a byte, as the code takes them apart: three of a byte in bank 16, four of any other; and the four counts in one sum.
use mathlib.Core.Bool.{Bool, true, false, cond, ◌&&◌}
use mathlib.Core.Path.{◌≡◌}
use Prim.Native.Nat.{ℕ, zero, suc, ◌+◌, ◌/◌, ◌%◌, ◌^◌, ◌≤◌, ◌<◌, zero-le}
use native.Mathlib.Omega.{arith}
use borrow.Author.Tests.{lt-ltb, le-ltb}
use lib.Dec.{T, eqb, ltb, eqb→eq}
use Rattle.registers.specs.Record.{by_value}
use Rattle.registers.proofs.Below.{all_below, and_left, and_right, below_at}
use Rattle.glass.specs.Pixel.{value_in}
use Rattle.glass.proofs.CodeWays.{value-0, value-1, value-2, value-3}
use Rattle.pixel_counts.specs.Mending.{tally, pixels_at, shown}
use Rattle.pixel_counts.specs.Packed.{packed, packed_at, unpacked}

-- three rows, of which the lowest is that of the lowest bits
pub three-shown :
    (v place b : ℕ) → 1616 ≤ place → shown v place b ≡ cond (eqb (b % 4) v) 1 0 + cond (eqb (b / 4 % 4) v) 1 0 + cond (eqb (b / 16 % 4) v) 1 0
unfolding shown tally
three-shown v place b h = rw (le-ltb place 1616 h, ← value-0 b, ← value-1 b, ← value-2 b) (omega arith)

pub four-shown :
    (v place b : ℕ) → b < 256 → place < 1616
    → shown v place b ≡ cond (eqb (b % 4) v) 1 0 + cond (eqb (b / 4 % 4) v) 1 0 + cond (eqb (b / 16 % 4) v) 1 0 + cond (eqb (b / 64) v) 1 0
unfolding shown tally
four-shown v place b l h = rw (lt-ltb place 1616 h, ← value-0 b, ← value-1 b, ← value-2 b, ← value-3 b l) (omega arith)

-- ---- at most four

tally-low : (k v b : ℕ) → tally k v b ≤ k
unfolding tally
tally-low zero v b = zero-le
tally-low (suc k) v b = omega (arith, tally-low k v b, once (eqb (value_in b k) v))
  where
    once : (t : Bool) → cond t 1 0 ≤ 1
    once true = omega arith
    once false = omega arith

pub shown-low : (v place b : ℕ) → shown v place b ≤ 4
unfolding shown
shown-low v place b = omega (arith, tally-low (pixels_at place) v b, rows (ltb place 1616))
  where
    rows : (t : Bool) → cond t 4 3 ≤ 4
    rows true = omega arith
    rows false = omega arith

-- ---- packed

pub three-packed : (place b : ℕ) → 1616 ≤ place → packed_at place b ≡ 16 ^ (b % 4) + 16 ^ (b / 4 % 4) + 16 ^ (b / 16 % 4)
unfolding packed
three-packed place b h = rw (le-ltb place 1616 h, ← value-0 b, ← value-1 b, ← value-2 b) (omega arith)

pub four-packed : (place b : ℕ) → b < 256 → place < 1616 → packed_at place b ≡ 16 ^ (b % 4) + 16 ^ (b / 4 % 4) + 16 ^ (b / 16 % 4) + 16 ^ (b / 64)
unfolding packed
four-packed place b l h = rw (lt-ltb place 1616 h, ← value-0 b, ← value-1 b, ← value-2 b, ← value-3 b l) (omega arith)

-- the sum taken apart again is the four counts: one test over all bytes, of three rows and of four
apart : ℕ → ℕ → Bool
apart k b =
    eqb (packed k b % 16) (tally k 0 b) && eqb (packed k b / 16 % 16) (tally k 1 b) && eqb (packed k b / 256 % 16) (tally k 2 b)
    && eqb (packed k b / 4096) (tally k 3 b)

all_apart : T (all_below 256 (λ b. apart 3 b && apart 4 b))
unfolding apart packed tally
all_apart = tt

opened :
    (k b : ℕ) → T (apart k b)
    → T (eqb (packed k b % 16) (tally k 0 b) && eqb (packed k b / 16 % 16) (tally k 1 b) && eqb (packed k b / 256 % 16) (tally k 2 b)
    && eqb (packed k b / 4096) (tally k 3 b))
unfolding apart
opened k b t = t

pub by_value_lem : (place b sum : ℕ) → b < 256 → sum ≡ packed_at place b → unpacked sum ≡ by_value (λ v. shown v place b)
unfolding shown
by_value_lem place b sum h e = rw e (go (ltb place 1616))
  where
    each :
        (p : ℕ) (t : ℕ → ℕ) → T (eqb (p % 16) (t 0) && eqb (p / 16 % 16) (t 1) && eqb (p / 256 % 16) (t 2) && eqb (p / 4096) (t 3))
        → unpacked p ≡ by_value t
    each p t so =
        let three = and_left (eqb (p % 16) (t 0) && eqb (p / 16 % 16) (t 1) && eqb (p / 256 % 16) (t 2)) (eqb (p / 4096) (t 3)) so in
        let two = and_left (eqb (p % 16) (t 0) && eqb (p / 16 % 16) (t 1)) (eqb (p / 256 % 16) (t 2)) three in
        rw (
          eqb→eq (p % 16) (t 0) (and_left (eqb (p % 16) (t 0)) (eqb (p / 16 % 16) (t 1)) two),
          eqb→eq (p / 16 % 16) (t 1) (and_right (eqb (p % 16) (t 0)) (eqb (p / 16 % 16) (t 1)) two),
          eqb→eq (p / 256 % 16) (t 2) (and_right (eqb (p % 16) (t 0) && eqb (p / 16 % 16) (t 1)) (eqb (p / 256 % 16) (t 2)) three),
          eqb→eq (p / 4096) (t 3) (and_right (eqb (p % 16) (t 0) && eqb (p / 16 % 16) (t 1) && eqb (p / 256 % 16) (t 2)) (eqb (p / 4096) (t 3)) so),
        )

    both : T (apart 3 b && apart 4 b)
    both = below_at 256 (λ k. apart 3 k && apart 4 k) all_apart b h

    go : (t : Bool) → unpacked (packed (cond t 4 3) b) ≡ by_value (λ v. tally (cond t 4 3) v b)
    go true = each (packed 4 b) (λ v. tally 4 v b) (opened 4 b (and_right (apart 3 b) (apart 4 b) both))
    go false = each (packed 3 b) (λ v. tally 3 v b) (opened 3 b (and_left (apart 3 b) (apart 4 b) both))
