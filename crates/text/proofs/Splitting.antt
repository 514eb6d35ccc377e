-- Pieces, one after the other: the first piece ends before the first separator, and the others are the pieces of what stands behind it.
use mathlib.Core.Path.{◌≡◌, refl, sym, ap, ◌∙◌}
use mathlib.Core.Bool.{Bool, true, false, cond}
use mathlib.Core.List.{List, [], ◌∷◌}
use Prim.Native.Nat.{ℕ, suc, ◌+◌, ◌-◌, ◌≤◌, ◌<◌}
use native.Mathlib.Omega.{arith}
use lib.Dec.{eqb}
use lib.ListN.{length, get_or, take, drop, length-drop}
use lib.Seq.{drop-drop, take_all}
use Rattle.text.specs.Text.{before, find_of, count_of, same_bytes, split, on_first, index_of}
use Rattle.text.proofs.Finding.{find-from, find-bounds, same-equal}

pub split-count : (b : ℕ) (s : List ℕ) → length (split b s) ≡ count_of b s + 1
split-count b [] = refl
split-count b (x ∷ xs) = go (eqb x b) (split b xs) (split-count b xs)
  where
    go :
        (t : Bool) (ps : List (List ℕ)) → length ps ≡ count_of b xs + 1
        → length (cond t ([] ∷ ps) (on_first x ps)) ≡ cond t (suc (count_of b xs)) (count_of b xs) + 1
    go true ps h = omega arith
    go false [] h = absurd (omega arith)
    go false (p ∷ ps) h = h

pub split-some : (b : ℕ) (s : List ℕ) → 0 < length (split b s)
split-some b s = omega (arith, split-count b s)

split-last : (b : ℕ) (s : List ℕ) → length s ≤ before b s → split b s ≡ s ∷ []
split-last b [] h = refl
split-last b (x ∷ xs) h = go (eqb x b) (split-last b xs) h
  where
    go :
        (t : Bool) → (length xs ≤ before b xs → split b xs ≡ xs ∷ [])
        → suc (length xs) ≤ cond t 0 (suc (before b xs)) → cond t ([] ∷ split b xs) (on_first x (split b xs)) ≡ (x ∷ xs) ∷ []
    go true ih h = absurd (omega arith)
    go false ih h = rw (ih (omega arith))

split-more : (b : ℕ) (s : List ℕ) → before b s < length s → split b s ≡ take (before b s) s ∷ split b (drop (suc (before b s)) s)
split-more b [] h = absurd (omega arith)
split-more b (x ∷ xs) h = go (eqb x b) (split-more b xs) h
  where
    go :
        (t : Bool) → (before b xs < length xs → split b xs ≡ take (before b xs) xs ∷ split b (drop (suc (before b xs)) xs))
        → cond t 0 (suc (before b xs)) < suc (length xs)
        → cond t ([] ∷ split b xs) (on_first x (split b xs))
        ≡ take (cond t 0 (suc (before b xs))) (x ∷ xs) ∷ split b (drop (suc (cond t 0 (suc (before b xs)))) (x ∷ xs))
    go true ih h = refl
    go false ih h = rw (ih (omega arith))

-- the pieces of what stands at `at`, the next separator being at `end`
module _ (s : List ℕ) (at b end : ℕ) (h : at ≤ length s) (e : end ≡ find_of s at b) where
  here : end - at ≡ before b (drop at s)
  here = rw e (omega (arith, find-from s at b h))

  pub end-bounds : (at ≤ end) × (end ≤ length s)
  end-bounds = rw e (find-bounds s at b h)

  pub pieces-last : length s ≤ end → split b (drop at s) ≡ take (end - at) (drop at s) ∷ []
  pieces-last l =
      split-last b (drop at s) (omega (arith, here, find-from s at b h, length-drop at s))
      ∙ ap (λ (p : List ℕ). p ∷ []) (sym (take_all (end - at) (drop at s) (omega (arith, length-drop at s))))

  pub pieces_more : end < length s → split b (drop at s) ≡ take (end - at) (drop at s) ∷ split b (drop (end + 1) s)
  pieces_more l =
      let behind : at + suc (end - at) ≡ end + 1 = omega (arith, find-from s at b h) in
      split-more b (drop at s) (omega (arith, here, find-from s at b h, length-drop at s)) ∙ rw (← here, drop-drop, behind)

-- a word that is among them is the one at its place
pub index-found : (w : List ℕ) (ps : List (List ℕ)) → index_of w ps < length ps → get_or ps (index_of w ps) [] ≡ w
index-found w [] h = absurd (omega arith)
index-found w (p ∷ ps) h = go (same_bytes p w) refl (index-found w ps) h
  where
    go :
        (t : Bool) → same_bytes p w ≡ t → (index_of w ps < length ps → get_or ps (index_of w ps) [] ≡ w)
        → cond t 0 (suc (index_of w ps)) < suc (length ps) → get_or (p ∷ ps) (cond t 0 (suc (index_of w ps))) [] ≡ w
    go true e rest l = same-equal p w e
    go false e rest l = rest (omega arith)
