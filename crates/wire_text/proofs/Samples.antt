-- The samples before the first byte that is none: how many they are, and those of bytes that come in two parts.
use mathlib.Core.Bool.{Bool, true, false, cond, ◌&&◌}
use mathlib.Core.List.{List, [], ◌∷◌, ◌++◌}
use mathlib.Core.Path.{◌≡◌, refl, sym, ap, subst}
use Prim.Native.Nat.{ℕ, zero, suc, ◌≤◌, ◌<◌}
use native.Mathlib.Omega.{arith}
use borrow.Author.Tests.{eq-eqb, ne_eqb, leb-true, leb-false}
use lib.Dec.{T, leb, eqb}
use lib.ListN.{length, take, get_or}
use Rattle.wire_samples.specs.Feed.{are_samples}
use Rattle.wire_text.specs.Capture.{samples_in, FirstAbove}

-- ---- of some bytes

pub at_front : (bs : List ℕ) → take (length (samples_in bs)) bs ≡ samples_in bs
unfolding samples_in
at_front [] = refl
at_front (b ∷ bs) = go (leb b 3) (at_front bs)
  where
    go :
        (t : Bool) → take (length (samples_in bs)) bs ≡ samples_in bs
        → take (length (cond t (b ∷ samples_in bs) [])) (b ∷ bs) ≡ cond t (b ∷ samples_in bs) []
    go true rest = ap (λ (l : List ℕ). b ∷ l) rest
    go false rest = refl

pub are-samples-in : (bs : List ℕ) → are_samples (samples_in bs) ≡ true
unfolding samples_in are_samples
are-samples-in [] = refl
are-samples-in (b ∷ bs) = go (leb b 3) refl (are-samples-in bs)
  where
    go : (t : Bool) → leb b 3 ≡ t → are_samples (samples_in bs) ≡ true → are_samples (cond t (b ∷ samples_in bs) []) ≡ true
    go true e rest = rw e rest
    go false e rest = refl

-- all bytes, or fewer
pub good-all : (bs : List ℕ) → are_samples bs ≡ true → samples_in bs ≡ bs
unfolding samples_in are_samples
good-all [] h = refl
good-all (b ∷ bs) h = go (leb b 3) h (good-all bs)
  where
    go : (t : Bool) → t && are_samples bs ≡ true → (are_samples bs ≡ true → samples_in bs ≡ bs) → cond t (b ∷ samples_in bs) [] ≡ b ∷ bs
    go true h rest = ap (λ (l : List ℕ). b ∷ l) (rest h)
    go false h rest = absurd (subst T (sym h) tt)

pub bad-fewer : (bs : List ℕ) → are_samples bs ≡ false → length (samples_in bs) < length bs
unfolding samples_in are_samples
bad-fewer [] h = absurd (subst T h tt)
bad-fewer (b ∷ bs) h = go (leb b 3) h (bad-fewer bs)
  where
    go :
        (t : Bool) → t && are_samples bs ≡ false → (are_samples bs ≡ false → length (samples_in bs) < length bs)
        → length (cond t (b ∷ samples_in bs) []) < suc (length bs)
    go true h rest = omega (arith, rest h)
    go false h rest = omega arith

-- a test of how many they are
pub all_tested : (bs : List ℕ) → eqb (length (samples_in bs)) (length bs) ≡ are_samples bs
all_tested bs = go (are_samples bs) refl
  where
    go : (t : Bool) → are_samples bs ≡ t → eqb (length (samples_in bs)) (length bs) ≡ t
    go true e = eq-eqb _ _ (ap length (good-all bs e))
    go false e = ne_eqb (length (samples_in bs)) (length bs) (λ same. omega (arith, same, bad-fewer bs e))

pub no_more : (bs : List ℕ) → length (samples_in bs) ≤ length bs
no_more bs = go (are_samples bs) refl
  where
    go : (t : Bool) → are_samples bs ≡ t → length (samples_in bs) ≤ length bs
    go true e = omega (arith, ap length (good-all bs e))
    go false e = omega (arith, bad-fewer bs e)

-- the byte behind them
pub first_above : (bs : List ℕ) → are_samples bs ≡ false → FirstAbove bs (length (samples_in bs))
unfolding samples_in are_samples
first_above [] h = absurd (subst T h tt)
first_above (b ∷ bs) h = go (leb b 3) refl h (first_above bs)
  where
    go :
        (t : Bool) → leb b 3 ≡ t → t && are_samples bs ≡ false → (are_samples bs ≡ false → FirstAbove bs (length (samples_in bs)))
        → FirstAbove (b ∷ bs) (length (cond t (b ∷ samples_in bs) []))
    go true e h rest =
        let there = rest h in
        record { inside = omega (arith, there.inside); above = there.above; before = earlier there }
      where
        earlier : FirstAbove bs (length (samples_in bs)) → (i : ℕ) → i < suc (length (samples_in bs)) → get_or (b ∷ bs) i 0 ≤ 3
        earlier there zero l = leb-true b 3 e
        earlier there (suc i) l = there.before i (omega arith)
    go false e h rest = record { inside = omega arith; above = leb-false b 3 e; before = λ i l. absurd (omega arith) }

-- ---- of two parts

-- the first is samples alone: those of the second follow
pub good-then : (xs ys : List ℕ) → are_samples xs ≡ true → (samples_in (xs ++ ys) ≡ xs ++ samples_in ys) × (are_samples (xs ++ ys) ≡ are_samples ys)
unfolding samples_in are_samples
good-then [] ys h = (refl, refl)
good-then (x ∷ xs) ys h = go (leb x 3) h (good-then xs ys)
  where
    go :
        (t : Bool) → t && are_samples xs ≡ true
        → (are_samples xs ≡ true → (samples_in (xs ++ ys) ≡ xs ++ samples_in ys) × (are_samples (xs ++ ys) ≡ are_samples ys))
        → (cond t (x ∷ samples_in (xs ++ ys)) [] ≡ x ∷ (xs ++ samples_in ys)) × (t && are_samples (xs ++ ys) ≡ are_samples ys)
    go true h rest = (ap (λ (l : List ℕ). x ∷ l) (rest h).0, (rest h).1)
    go false h rest = absurd (subst T (sym h) tt)

-- it has a byte that is none: the second does not count
pub bad-then : (xs ys : List ℕ) → are_samples xs ≡ false → (samples_in (xs ++ ys) ≡ samples_in xs) × (are_samples (xs ++ ys) ≡ false)
unfolding samples_in are_samples
bad-then [] ys h = absurd (subst T h tt)
bad-then (x ∷ xs) ys h = go (leb x 3) h (bad-then xs ys)
  where
    go :
        (t : Bool) → t && are_samples xs ≡ false
        → (are_samples xs ≡ false → (samples_in (xs ++ ys) ≡ samples_in xs) × (are_samples (xs ++ ys) ≡ false))
        → (cond t (x ∷ samples_in (xs ++ ys)) [] ≡ cond t (x ∷ samples_in xs) []) × (t && are_samples (xs ++ ys) ≡ false)
    go true h rest = (ap (λ (l : List ℕ). x ∷ l) (rest h).0, (rest h).1)
    go false h rest = (refl, refl)
