-- Ways through the code, over plain variables: the counts of a memory.
use mathlib.Core.List.{List}
use mathlib.Core.Path.{◌≡◌, sym, ap, ◌∙◌}
use Prim.Native.Nat.{ℕ, ◌+◌, ◌*◌, ◌≤◌}
use native.Mathlib.Numerals.{add-one}
use native.Mathlib.Omega.{arith}
use lib.ListN.{get_or}
use Rattle.pixel_counts.specs.Counts.{count_of, counts_of}
use Rattle.pixel_counts.specs.Mending.{shown}
use Rattle.pixel_counts.proofs.Pixels.{shown-low}
use Rattle.pixel_counts.proofs.Places.{in_places, next_place, no_place, by-places}

-- ---- the counts of a memory

-- k is what a byte shows of value v
pub few : (v place b k : ℕ) → k ≡ shown v place b → k ≤ 4
few v place b k e = rw e (shown-low v place b)

-- n is the count of value v at the first `at` places
pub record SoFar (v : ℕ) (m : List ℕ) (at n : ℕ) : Type 0 where
  pub counted : n ≡ in_places v m at
  pub low : n ≤ 4 * at

module _ (v : ℕ) (m : List ℕ) where
  pub none_yet : SoFar v m 0 0
  none_yet = record { counted = sym (no_place v m); low = omega arith }

  pub one_more :
      (at n byte k : ℕ) → SoFar v m at n → byte ≡ get_or m at 0 → k ≡ shown v at byte → SoFar v m (at + 1) (n + k)
  one_more at n byte k so_far eb ek =
      let next = next_place v m at in
      let here : k ≡ shown v at (get_or m at 0) = ek ∙ ap (shown v at) eb in
      record { counted = rw add-one (omega (arith, next, here, so_far.counted)); low = omega (arith, so_far.low, few v at byte k ek) }

  all-counted : (n : ℕ) → SoFar v m 1717 n → n ≡ count_of v m
  all-counted n so_far = so_far.counted ∙ sym (by-places v m)

pub whole-memory :
    (m : List ℕ) (at a b c d : ℕ) → at ≡ 1717 → SoFar 0 m at a → SoFar 1 m at b → SoFar 2 m at c → SoFar 3 m at d
    → record { zeros = a; ones = b; twos = c; threes = d } ≡ counts_of m
unfolding counts_of
whole-memory m at a b c d e sa sb sc sd =
    simp (all-counted 0 m a (rw e at sa), all-counted 1 m b (rw e at sb), all-counted 2 m c (rw e at sc), all-counted 3 m d (rw e at sd))
