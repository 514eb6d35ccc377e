-- The code's tables against the definitions: a table in the code is the list that antt computes from the definition, and one law carries
-- the rule to each entry.
use mathlib.Core.Path.{◌≡◌, refl, ap}
use mathlib.Core.List.{List, [], ◌∷◌}
use Prim.Native.Nat.{ℕ, zero, suc, ◌+◌, ◌<◌}
use native.Mathlib.Nat.{add-zero, suc-add, add-suc, zero-add, le_of_suc-le-suc, not-suc-le-zero}
use lib.ListN.{get_or, length}
use Rattle.registers.specs.Reversed.{reversed_of}

-- f at the n numbers from a on
abbrev pub tabulated : (ℕ → ℕ) → ℕ → ℕ → List ℕ
tabulated f a zero = []
tabulated f a (suc n) = f a ∷ tabulated f (suc a) n

tabulated-from : (f : ℕ → ℕ) (a n k : ℕ) → k < n → get_or (tabulated f a n) k 0 ≡ f (a + k)
tabulated-from f a zero k h = absurd (not-suc-le-zero h)
tabulated-from f a (suc n) zero h = rw add-zero
tabulated-from f a (suc n) (suc k) h = rw (add-suc, ← suc-add) (tabulated-from f (suc a) n k (le_of_suc-le-suc h))

pub tabulated-at : (f : ℕ → ℕ) (n k : ℕ) → k < n → get_or (tabulated f 0 n) k 0 ≡ f k
tabulated-at f n k h = rw zero-add at (tabulated-from f 0 n k h)

pub reversed-at : (b : ℕ) → b < 256 → get_or (tabulated reversed_of 0 256) b 0 ≡ reversed_of b
reversed-at b h = tabulated-at reversed_of 256 b h

pub tabulated-length : (f : ℕ → ℕ) (a n : ℕ) → length (tabulated f a n) ≡ n
tabulated-length f a zero = refl
tabulated-length f a (suc n) = ap suc (tabulated-length f (suc a) n)
