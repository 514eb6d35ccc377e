-- Searching, counting and comparing.
use mathlib.Core.Path.{◌≡◌, refl, sym, ◌∙◌}
use mathlib.Core.Bool.{Bool, true, false, cond, ◌&&◌}
use mathlib.Core.List.{List, [], ◌∷◌, ◌++◌}
use Prim.Native.Nat.{ℕ, suc, ◌+◌, ◌≤◌, ◌<◌}
use native.Mathlib.Numerals.{add-one}
use native.Mathlib.Decide.{dec_le}
use native.Mathlib.Omega.{arith}
use borrow.Author.Tests.{eqb-true, le-leb, leb-true}
use lib.Dec.{eqb, leb}
use lib.ListN.{length, get_or, drop, drop_of_length-le, length-drop}
use lib.Seq.{drop-cons}
use Rattle.text.specs.Text.{before, find_of, count_of, same_bytes}

pub drop-next : (s : List ℕ) (at : ℕ) → at < length s → drop at s ≡ get_or s at 0 ∷ drop (at + 1) s
drop-next s at h = rw (add-one, drop-cons s at 0)

-- ---- find

before-bound : (b : ℕ) (s : List ℕ) → before b s ≤ length s
before-bound b [] = omega arith
before-bound b (x ∷ xs) = go (eqb x b) (before-bound b xs)
  where
    go : (t : Bool) → before b xs ≤ length xs → cond t 0 (suc (before b xs)) ≤ suc (length xs)
    go true h = omega arith
    go false h = omega arith

module _ (s : List ℕ) (at b : ℕ) where
  pub find-from : at ≤ length s → find_of s at b ≡ at + before b (drop at s)
  unfolding find_of
  find-from h = simp (le-leb _ _ h)

  pub find_none : length s ≤ at → find_of s at b ≡ length s
  unfolding find_of
  find_none h = go (leb at (length s)) refl
    where
      go : (t : Bool) → leb at (length s) ≡ t → cond t (at + before b (drop at s)) (length s) ≡ length s
      go true e = rw (drop_of_length-le s h) (omega (arith, leb-true at (length s) e))
      go false e = refl

  pub find-bounds : at ≤ length s → (at ≤ find_of s at b) × (find_of s at b ≤ length s)
  find-bounds h = rw (find-from h) (omega (arith, simp length-drop at (before-bound b (drop at s))))

  -- the byte stands nowhere behind `at`
  pub find-missing : length (drop at s) ≤ before b (drop at s) → length s ≡ find_of s at b
  find-missing h = go (dec_le at (length s))
    where
      go : Dec (at ≤ length s) → length s ≡ find_of s at b
      go (yes l) = sym (find-from l ∙ omega (arith, before-bound b (drop at s), length-drop at s))
      go (no m) = sym (find_none (omega arith))

-- ---- count

pub count-bound : (b : ℕ) (s : List ℕ) → count_of b s ≤ length s
count-bound b [] = omega arith
count-bound b (x ∷ xs) = go (eqb x b) (count-bound b xs)
  where
    go : (t : Bool) → count_of b xs ≤ length xs → cond t (suc (count_of b xs)) (count_of b xs) ≤ suc (length xs)
    go true h = omega arith
    go false h = omega arith

pub count-append : (b : ℕ) (xs ys : List ℕ) → count_of b (xs ++ ys) ≡ count_of b xs + count_of b ys
count-append b [] ys = omega arith
count-append b (x ∷ xs) ys = go (eqb x b) (count-append b xs ys)
  where
    go :
        (t : Bool) → count_of b (xs ++ ys) ≡ count_of b xs + count_of b ys
        → cond t (suc (count_of b (xs ++ ys))) (count_of b (xs ++ ys)) ≡ cond t (suc (count_of b xs)) (count_of b xs) + count_of b ys
    go true h = omega arith
    go false h = h

-- ---- equal

pub same-equal : (a b : List ℕ) → same_bytes a b ≡ true → a ≡ b
same-equal [] [] h = refl
same-equal [] (y ∷ ys) h = cc
same-equal (x ∷ xs) [] h = cc
same-equal (x ∷ xs) (y ∷ ys) h = go (eqb x y) refl (same-equal xs ys) h
  where
    go : (t : Bool) → eqb x y ≡ t → (same_bytes xs ys ≡ true → xs ≡ ys) → t && same_bytes xs ys ≡ true → x ∷ xs ≡ y ∷ ys
    go true e rest d = rw (eqb-true x y e, rest d)
    go false e rest d = cc
