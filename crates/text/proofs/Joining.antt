-- Pieces joined by a separator are parted again, and the other way round.
use mathlib.Core.Path.{◌≡◌, refl, ap, ◌∙◌}
use mathlib.Core.Bool.{Bool, true, false, cond}
use mathlib.Core.List.{List, [], ◌∷◌, ◌++◌}
use Prim.Native.Nat.{ℕ, suc, ◌+◌}
use native.Mathlib.Omega.{arith}
use borrow.Author.Tests.{eqb-true, eq-eqb}
use lib.Dec.{eqb}
use lib.ListN.{length}
use Rattle.text.specs.Text.{count_of, split, on_first, join}
use Rattle.text.proofs.Splitting.{split-count}

join-onFirst : (b x : ℕ) (p : List ℕ) (ps : List (List ℕ)) → join b (on_first x (p ∷ ps)) ≡ x ∷ join b (p ∷ ps)
join-onFirst b x p [] = refl
join-onFirst b x p (q ∷ ps) = refl

pub join-split : (b : ℕ) (s : List ℕ) → join b (split b s) ≡ s
join-split b [] = refl
join-split b (x ∷ xs) = go (eqb x b) refl (split b xs) (split-count b xs) (join-split b xs)
  where
    go :
        (t : Bool) → eqb x b ≡ t → (ps : List (List ℕ)) → length ps ≡ count_of b xs + 1 → join b ps ≡ xs
        → join b (cond t ([] ∷ ps) (on_first x ps)) ≡ x ∷ xs
    go t e [] l h = absurd (omega arith)
    go true e (p ∷ ps) l h = rw (h, eqb-true x b e)
    go false e (p ∷ ps) l h = join-onFirst b x p ps ∙ ap (λ (l : List ℕ). x ∷ l) h

-- no b in any of the pieces
abbrev pub Free : ℕ → List (List ℕ) → Type 0
Free b [] = Unit {0}
Free b (p ∷ ps) = (count_of b p ≡ 0) × Free b ps

-- a piece with no b, alone and before a b
split_one : (b : ℕ) (p : List ℕ) → count_of b p ≡ 0 → split b p ≡ p ∷ []
split_one b [] f = refl
split_one b (x ∷ p) f = go (eqb x b) f (split_one b p)
  where
    go :
        (t : Bool) → cond t (suc (count_of b p)) (count_of b p) ≡ 0 → (count_of b p ≡ 0 → split b p ≡ p ∷ [])
        → cond t ([] ∷ split b p) (on_first x (split b p)) ≡ (x ∷ p) ∷ []
    go true z h = absurd (omega arith)
    go false z h = rw (h z)

pub split-append : (b : ℕ) (p s : List ℕ) → count_of b p ≡ 0 → split b (p ++ b ∷ s) ≡ p ∷ split b s
split-append b [] s f = rw (eq-eqb b b refl)
split-append b (x ∷ p) s f = go (eqb x b) f (split-append b p s)
  where
    go :
        (t : Bool) → cond t (suc (count_of b p)) (count_of b p) ≡ 0 → (count_of b p ≡ 0 → split b (p ++ b ∷ s) ≡ p ∷ split b s)
        → cond t ([] ∷ split b (p ++ b ∷ s)) (on_first x (split b (p ++ b ∷ s))) ≡ (x ∷ p) ∷ split b s
    go true z h = absurd (omega arith)
    go false z h = rw (h z)

pub split-join : (b : ℕ) (p : List ℕ) (ps : List (List ℕ)) → Free b (p ∷ ps) → split b (join b (p ∷ ps)) ≡ p ∷ ps
split-join b p [] f = split_one b p f.0
split-join b p (q ∷ ps) f = split-append b p (join b (q ∷ ps)) f.0 ∙ ap (λ (l : List (List ℕ)). p ∷ l) (split-join b q ps f.1)
