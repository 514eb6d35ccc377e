-- What the library's methods on iterators give, in the words of specs/: bytes counted, pieces, words looked for.
use mathlib.Core.Path.{◌≡◌, refl, sym, ap, ◌∙◌}
use mathlib.Core.Bool.{Bool, true, false, cond, not}
use mathlib.Core.Logic.{◌⊎◌, inl, inr}
use mathlib.Core.List.{List, [], ◌∷◌}
use Prim.Native.Nat.{ℕ, suc, ◌+◌, ◌-◌, ◌≤◌, ◌<◌}
use native.Mathlib.Omega.{arith}
use native.Mathlib.Decide.{dec_lt}
use borrow.Author.Tests.{lt-ltb, le-ltb}
use denote.Ref.{Bor}
use lib.Dec.{eqb, ltb}
use lib.ListN.{length, get_or, drop, drop_of_length-le, length-drop}
use lib.Seq.{take_all}
use Rattle.std.specs.Prelude.{Option, Some, None, count_by, slice_get, unwrap_or, option_map, ◌==◌}
use Rattle.std.specs.Slice.{IsGetRangeResult}
use Rattle.std.specs.List.{slice_split, onto_first, position_or_len}
use Rattle.std.proofs.lemmas.List.Recursion.{is_count_by}
use Rattle.std.proofs.lemmas.Option.{unwrap_or-slice_get}
use Rattle.text.proofs.Finding.{find-from, find-missing}
use Rattle.text.specs.Text.{before, find_of, count_of, same_bytes, split, on_first, index_of}

pub count_by_lem : (b : ℕ) (s : List ℕ) → count_by (λ (x : ℕ). x == b) s ≡ count_of b s
count_by_lem b s = sym (is_count_by (count_of b) (λ x. x == b) refl (λ x xs. one (eqb x b) (count_of b xs)) s)
  where
    one : (t : Bool) (n : ℕ) → cond t (suc n) n ≡ cond t (1 + n) n
    one true n = omega arith
    one false n = refl

onto-first : (x : ℕ) (ps : List (List ℕ)) → onto_first x ps ≡ on_first x ps
onto-first x [] = refl
onto-first x (p ∷ ps) = refl

pub split_lem : (b : ℕ) (s : List ℕ) → slice_split (λ (x : ℕ). eqb x b) s ≡ split b s
split_lem b [] = refl
split_lem b (x ∷ xs) = rw (split_lem b xs, onto-first x (split b xs))

-- what `nth` gave, or nothing
pub nth-piece :
    (b : ℕ) (s : List ℕ) (k n : ℕ) (r : Option (Bor (List ℕ))) (none piece : Bor (List ℕ)) → none.now ≡ []
    → option_map (λ (x : Bor (List ℕ)). x.now) r ≡ slice_get (slice_split (λ (x : ℕ). eqb x b) s) n → piece ≡ unwrap_or r none → n ≡ k
    → piece.now ≡ get_or (split b s) k []
nth-piece b s k n r none piece e f u same = rw (← same, ← split_lem b s) (go r f u)
  where
    ps : List (List ℕ)
    ps = slice_split (λ (x : ℕ). eqb x b) s

    go : (o : Option (Bor (List ℕ))) → option_map (λ (x : Bor (List ℕ)). x.now) o ≡ slice_get ps n → piece ≡ unwrap_or o none → piece.now ≡ get_or ps n []
    go (Some x) g v = rw v (ap (λ (o : Option (List ℕ)). unwrap_or o []) g ∙ unwrap_or-slice_get ps n [])
    go None g v = rw v (e ∙ ap (λ (o : Option (List ℕ)). unwrap_or o []) g ∙ unwrap_or-slice_get ps n [])

-- the words before the first that is w
pub place-index : (w : List ℕ) (ps : List (List ℕ)) → position_or_len (λ (p : List ℕ). same_bytes p w) ps ≡ index_of w ps
place-index w [] = refl
place-index w (p ∷ ps) = one (same_bytes p w) (place-index w ps)
  where
    one : (t : Bool) → position_or_len (λ (q : List ℕ). same_bytes q w) ps ≡ index_of w ps → cond (not t) (1 + position_or_len (λ (q : List ℕ). same_bytes q w) ps) 0 ≡ cond t 0 (suc (index_of w ps))
    one true e = refl
    one false e = omega arith

-- ---- the first place of a byte

place-before : (b : ℕ) (s : List ℕ) → position_or_len (λ (x : ℕ). eqb x b) s ≡ before b s
place-before b [] = refl
place-before b (x ∷ xs) = one (eqb x b) (place-before b xs)
  where
    one : (t : Bool) → position_or_len (λ (y : ℕ). eqb y b) xs ≡ before b xs → cond (not t) (1 + position_or_len (λ (y : ℕ). eqb y b) xs) 0 ≡ cond t 0 (suc (before b xs))
    one true e = refl
    one false e = omega arith

-- what `position` gave of the bytes behind the first `at`
abbrev pub Found : List ℕ → ℕ → ℕ → Option ℕ → Type 0
Found s at b (Some k) = at + k ≡ find_of s at b
Found s at b None = length s ≡ find_of s at b

pub position-find :
    (s : List ℕ) (at b : ℕ) (r : Option ℕ)
    → r ≡ cond (ltb (position_or_len (λ (x : ℕ). eqb x b) (drop at s)) (length (drop at s))) (Some (position_or_len (λ (x : ℕ). eqb x b) (drop at s))) None
    → Found s at b r
position-find s at b r e = rw (e, place-before b (drop at s)) (go (dec_lt (before b (drop at s)) (length (drop at s))))
  where
    go : Dec (before b (drop at s) < length (drop at s)) → Found s at b (cond (ltb (before b (drop at s)) (length (drop at s))) (Some (before b (drop at s))) None)
    go (yes l) = rw (lt-ltb (before b (drop at s)) (length (drop at s)) l) (sym (find-from s at b (omega (arith, length-drop at s))))
    go (no m) = rw (le-ltb (before b (drop at s)) (length (drop at s)) (omega arith)) (find-missing s at b (omega arith))

-- what `get` lends of the bytes behind the first `at`, or nothing
pub behind_lem : (s : List ℕ) (at : ℕ) (r : Option (Bor (List ℕ))) (none behind : Bor (List ℕ)) → none.now ≡ [] → IsGetRangeResult s at (length s) r → behind ≡ unwrap_or r none → behind.now ≡ drop at s
behind_lem s at (Some x) none behind e g u = rw u (g.0.2 ∙ take_all (length s - at) (drop at s) (omega (arith, length-drop at s)))
behind_lem s at None none behind e g u = rw (u, e) (sym (drop_of_length-le s (past g.0)))
  where
    past : (length s < at) ⊎ (length s < length s) → length s ≤ at
    past (inl l) = omega arith
    past (inr l) = omega arith
