-- A test that antt computes at every number below a bound, and the law that gives it at each.
use mathlib.Core.Path.{◌≡◌, refl, sym, subst}
use mathlib.Core.Bool.{Bool, true, false, ◌&&◌, ◌||◌}
use Prim.Native.Nat.{ℕ, zero, suc, ◌+◌, ◌≤◌, ◌<◌}
use native.Mathlib.Decide.{ℕ_discrete}
use native.Mathlib.Omega.{arith}
use lib.Dec.{T}

abbrev pub all_below : ℕ → (ℕ → Bool) → Bool
all_below zero f = true
all_below (suc n) f = f n && all_below n f

pub and_left : (a b : Bool) → T (a && b) → T a
and_left true b t = tt
and_left false b t = t

pub and_right : (a b : Bool) → T (a && b) → T b
and_right true b t = t
and_right false b t = absurd t

pub below_at : (n : ℕ) (f : ℕ → Bool) → T (all_below n f) → (k : ℕ) → k < n → T (f k)
below_at zero f t k h = absurd (omega arith)
below_at (suc n) f t k h = go (ℕ_discrete k n) (below_at n f (and_right (f n) (all_below n f) t) k)
  where
    go : Dec (k ≡ n) → (k < n → T (f k)) → T (f k)
    go (yes e) lower = rw e (and_left (f n) (all_below n f) t)
    go (no d) lower = lower (omega arith)

pub true-false : true ≡ false → ⊥
true-false e = subst (λ (b : Bool). T b) e tt

pub false-true : false ≡ true → ⊥
false-true e = true-false (sym e)

pub and-true : (a : Bool) → a && true ≡ a
and-true true = refl
and-true false = refl

pub or-false : (a : Bool) → a || false ≡ a
or-false true = refl
or-false false = refl

pub or-true : (a : Bool) → a || true ≡ true
or-true true = refl
or-true false = refl

abbrev pub same : Bool → Bool → Bool
same true b = b
same false true = false
same false false = true

pub same-eq : (a b : Bool) → T (same a b) → a ≡ b
same-eq true true t = refl
same-eq true false t = absurd t
same-eq false true t = absurd t
same-eq false false t = refl

-- i is none of the numbers up to k: how the last arm of a match on a number is told
pub past : (k i : ℕ) → k ≤ i → (i ≡ k → ⊥) → k + 1 ≤ i
past k i h n = omega arith
