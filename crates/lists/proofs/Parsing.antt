-- Printing and parsing are each other's inverse: what is printed of something well formed is parsed as that, and what is not malformed is a
-- print of something well formed.
use Rattle.lists.specs.declared.Line.{Line}
use Rattle.std.specs.Prelude.{Option, Some, None, Result, Err}
use mathlib.Core.Path.{◌≡◌, refl, sym, ap, ◌∙◌}
use mathlib.Core.Bool.{Bool, true, false, cond, ◌&&◌}
use mathlib.Core.List.{List, [], ◌∷◌}
use mathlib.Core.Logic.{◌⊎◌, inl, inr}
use Prim.Native.Nat.{ℕ, zero, suc, ◌<◌}
use native.Mathlib.Decide.{ℕ_discrete}
use native.Mathlib.Omega.{arith}
use borrow.Author.Tests.{eq-eqb, ne_eqb}
use lib.Dec.{T, eqb, eqb→eq}
use lib.ListN.{length, get_or}
use Rattle.registers.specs.Record.{names}
use Rattle.registers.proofs.Below.{all_below, below_at, and_left, and_right}
use Rattle.text.specs.Decimal.{number_of, decimal}
use Rattle.text.specs.Text.{bytes, same_bytes, split, join, count_of, index_of}
use Rattle.text.proofs.Finding.{same-equal}
use Rattle.text.proofs.Joining.{join-split, split-join}
use Rattle.text.proofs.Printing.{printed, read_back, decimal-free}
use Rattle.text.proofs.Splitting.{index-found}
use Rattle.lists.specs.Line.{tab, is_field, piece_at, number_at, fill_within, set_within, fill_of, put_of, set_of, of_pieces, line_of}
use Rattle.lists.proofs.Ranges.{field-tested, field-test}
use Rattle.lists.specs.Syntax.{Syntax, put, fill, set, print, WellFormed, Parses}

-- the answer to what is well formed: 7, 8 or the line
abbrev pub answer_to : Syntax → Result Line ℕ
answer_to (put c b n) = fill_within c c b b n
answer_to (fill c0 c1 b0 b1 n) = fill_within c0 c1 b0 b1 n
answer_to (set f n) = set_within f n

-- ---- from the syntax to the line

-- every name is found at its own place, and holds no tab
name-test : ℕ → Bool
name-test k = eqb (index_of (get_or names k []) names) k && eqb (count_of tab (get_or names k [])) 0

names-test : T (all_below 29 name-test)
unfolding name-test
names-test = tt

module _ (k : ℕ) (h : k < 29) where
  tested : T (eqb (index_of (get_or names k []) names) k && eqb (count_of tab (get_or names k [])) 0)
  unfolding name-test
  tested = below_at 29 name-test names-test k h

  name-place : index_of (get_or names k []) names ≡ k
  name-place = eqb→eq _ _ (and_left (eqb (index_of (get_or names k []) names) k) (eqb (count_of tab (get_or names k [])) 0) tested)

  name_free : count_of tab (get_or names k []) ≡ 0
  name_free = eqb→eq _ _ (and_right (eqb (index_of (get_or names k []) names) k) (eqb (count_of tab (get_or names k [])) 0) tested)

no-tab : (n : ℕ) → count_of tab (decimal n) ≡ 0
no-tab n = decimal-free tab n (omega arith)

of-pieces : (p : List ℕ) (ps : List (List ℕ)) → split tab p ≡ ps → line_of p ≡ of_pieces ps
unfolding line_of
of-pieces p ps e = ap of_pieces e

pub print-parsed : (s : Syntax) → WellFormed s → line_of (print s) ≡ answer_to s
unfolding print WellFormed
print-parsed (put c b n) f =
    of-pieces _ _
    (split-join tab (bytes "put") (decimal c ∷ decimal b ∷ decimal n ∷ []) (refl, (no-tab c, (no-tab b, (no-tab n, tt)))))
    ∙ rw (read_back c f.0, read_back b f.1, read_back n f.2)
print-parsed (fill c0 c1 b0 b1 n) f =
    of-pieces _ _
    (split-join tab (bytes "fill") (decimal c0 ∷ decimal c1 ∷ decimal b0 ∷ decimal b1 ∷ decimal n ∷ [])
    (refl, (no-tab c0, (no-tab c1, (no-tab b0, (no-tab b1, (no-tab n, tt)))))))
    ∙ rw (read_back c0 f.0, read_back c1 f.1, read_back b0 f.2, read_back b1 f.3, read_back n f.4)
print-parsed (set k n) f =
    of-pieces _ _
    (split-join tab (bytes "set") (get_or names k [] ∷ decimal n ∷ []) (refl, (name_free k f.0.place, (no-tab n, tt))))
    ∙ rw (read_back n f.1, name-place k f.0.place, field-test k f.0)

-- ---- from the line to the syntax

-- k pieces are these k pieces
abbrev from : ℕ → ℕ → List (List ℕ) → List (List ℕ)
from i zero ps = []
from i (suc k) ps = piece_at ps i ∷ from (suc i) k ps

from_next : (i k : ℕ) (p : List ℕ) (ps : List (List ℕ)) → from (suc i) k (p ∷ ps) ≡ from i k ps
from_next i zero p ps = refl
from_next i (suc k) p ps = ap (λ (l : List (List ℕ)). piece_at ps i ∷ l) (from_next (suc i) k p ps)

exactly : (ps : List (List ℕ)) (k : ℕ) → length ps ≡ k → ps ≡ from 0 k ps
exactly [] zero e = refl
exactly [] (suc k) e = absurd (omega arith)
exactly (p ∷ ps) zero e = absurd (omega arith)
exactly (p ∷ ps) (suc k) e = ap (λ (l : List (List ℕ)). p ∷ l) (exactly ps k (omega arith) ∙ sym (from_next 0 k p ps))

-- the line with its pieces, one by one
put_back : (p : List ℕ) (k : ℕ) → length (split tab p) ≡ k → p ≡ join tab (from 0 k (split tab p))
put_back p k e = sym (join-split tab p) ∙ ap (join tab) (exactly (split tab p) k e)

data Read (q : List ℕ) : Type 0 where
  badly : number_of q ≡ None → Read q
  well : (n : ℕ) → number_of q ≡ Some n → Read q

read : (q : List ℕ) → Read q
read q = go (number_of q) refl
  where
    go : (x : Option ℕ) → number_of q ≡ x → Read q
    go None e = badly e
    go (Some n) e = well n e

-- an answer of 6, or a line that parses
abbrev Answer : List ℕ → Result Line ℕ → Type 0
Answer p x = (x ≡ Err 6) ⊎ Parses p

module _ (p : List ℕ) where
  abbrev ps : List (List ℕ)
  ps = split tab p

  put-numbers :
      length ps ≡ 4 → piece_at ps 0 ≡ bytes "put" → Read (piece_at ps 1) → Read (piece_at ps 2) → Read (piece_at ps 3)
      → Answer p (put_of (number_at ps 1) (number_at ps 2) (number_at ps 3))
  unfolding print WellFormed
  put-numbers e w (badly ec) b n = inl (rw ec)
  put-numbers e w (well c ec) (badly eb) n = inl (rw (ec, eb))
  put-numbers e w (well c ec) (well b eb) (badly en) = inl (rw (ec, eb, en))
  put-numbers e w (well c ec) (well b eb) (well n en) =
      inr
      (record {
        syntax = put c b n;
        well_formed = ((printed _ c ec).small, (printed _ b eb).small, (printed _ n en).small);
        printed = put_back p 4 e ∙ rw (w, (printed _ c ec).in-decimal, (printed _ b eb).in-decimal, (printed _ n en).in-decimal);
      })

  fill-numbers :
      length ps ≡ 6 → piece_at ps 0 ≡ bytes "fill" → Read (piece_at ps 1) → Read (piece_at ps 2) → Read (piece_at ps 3) → Read (piece_at ps 4) → Read (piece_at ps 5)
      → Answer p (fill_of (number_at ps 1) (number_at ps 2) (number_at ps 3) (number_at ps 4) (number_at ps 5))
  unfolding print WellFormed
  fill-numbers e w (badly e0) r1 r2 r3 r4 = inl (rw e0)
  fill-numbers e w (well c0 e0) (badly e1) r2 r3 r4 = inl (rw (e0, e1))
  fill-numbers e w (well c0 e0) (well c1 e1) (badly e2) r3 r4 = inl (rw (e0, e1, e2))
  fill-numbers e w (well c0 e0) (well c1 e1) (well b0 e2) (badly e3) r4 = inl (rw (e0, e1, e2, e3))
  fill-numbers e w (well c0 e0) (well c1 e1) (well b0 e2) (well b1 e3) (badly e4) = inl (rw (e0, e1, e2, e3, e4))
  fill-numbers e w (well c0 e0) (well c1 e1) (well b0 e2) (well b1 e3) (well n e4) =
      inr
      (record {
        syntax = fill c0 c1 b0 b1 n;
        well_formed = ((printed _ c0 e0).small, (printed _ c1 e1).small, (printed _ b0 e2).small, (printed _ b1 e3).small, (printed _ n e4).small);
        printed =
            put_back p 6 e
            ∙ rw (w, (printed _ c0 e0).in-decimal, (printed _ c1 e1).in-decimal, (printed _ b0 e2).in-decimal, (printed _ b1 e3).in-decimal, (printed _ n e4).in-decimal);
      })

  -- the place of the register that the line names
  abbrev named : ℕ
  named = index_of (piece_at ps 1) names

  set-numbers :
      length ps ≡ 3 → piece_at ps 0 ≡ bytes "set" → (t : Bool) → is_field named ≡ t → Read (piece_at ps 2)
      → Answer p (set_of named (number_at ps 2))
  unfolding print WellFormed
  set-numbers e w t et (badly en) = inl (rw en)
  set-numbers e w false et (well n en) = inl (rw (en, et))
  set-numbers e w true et (well n en) =
      let field = field-tested named et in
      inr
      (record {
        syntax = set named n;
        well_formed = (field, (printed _ n en).small);
        printed = put_back p 3 e ∙ rw (w, index-found (piece_at ps 1) names field.place, (printed _ n en).in-decimal);
      })

  -- the number of pieces that a word asks for
  of_length : (k : ℕ) (x : Result Line ℕ) → (length ps ≡ k → Answer p x) → Answer p (cond (eqb (length ps) k) x (Err 6))
  of_length k x f = go (ℕ_discrete (length ps) k)
    where
      go : Dec (length ps ≡ k) → Answer p (cond (eqb (length ps) k) x (Err 6))
      go (yes e) = rw (eq-eqb (length ps) k e) (f e)
      go (no m) = inl (rw (ne_eqb (length ps) k m))

  -- a word, or what else comes
  of_word : (w : List ℕ) (x y : Result Line ℕ) → (piece_at ps 0 ≡ w → Answer p x) → Answer p y → Answer p (cond (same_bytes (piece_at ps 0) w) x y)
  of_word w x y f g = go (same_bytes (piece_at ps 0) w) refl
    where
      go : (t : Bool) → same_bytes (piece_at ps 0) w ≡ t → Answer p (cond t x y)
      go true e = f (same-equal (piece_at ps 0) w e)
      go false e = g

  pub parses-or-6 : Answer p (line_of p)
  unfolding line_of
  parses-or-6 =
      of_word (bytes "put") _ _ (λ w. of_length 4 _ (λ e. put-numbers e w (read (piece_at ps 1)) (read (piece_at ps 2)) (read (piece_at ps 3))))
      (of_word (bytes "fill") _ _
      (λ w. of_length 6 _ (λ e. fill-numbers e w (read (piece_at ps 1)) (read (piece_at ps 2)) (read (piece_at ps 3)) (read (piece_at ps 4)) (read (piece_at ps 5))))
      (of_word (bytes "set") _ _
      (λ w. of_length 3 _ (λ e. set-numbers e w (is_field named) refl (read (piece_at ps 2))))
      (inl refl)))
