-- The fields of a line, taken one after the other: what each call of `next` gives, and what the line is then.
use Rattle.std.specs.Slice.Iter as slice
use Rattle.std.specs.Prelude.{Option, Some, None, Result, Ok, Err, option_map, is_some}
use mathlib.Core.Path.{◌≡◌, refl, sym, ap, subst, ◌∙◌}
use mathlib.Core.Bool.{Bool, true, false, cond}
use mathlib.Core.List.{List, [], ◌∷◌}
use Prim.Native.Nat.{ℕ, zero, suc, ◌≤◌, ◌<◌}
use native.Mathlib.Omega.{arith}
use borrow.Author.Tests.{eq-eqb, ne_eqb}
use denote.Param.Members.{Mut}
use denote.Ref.{Bor}
use lib.Dec.{eqb}
use lib.ListN.{length}
use Rattle.std.specs.Fn.{CalledAt}
use Rattle.std.specs.Iterator.{AlwaysYields}
use Rattle.std.specs.List.{slice_get}
use Rattle.std.proofs.lemmas.Iterator.Splits.{YieldsList-from_slice_split}
use Rattle.std.proofs.lemmas.Option.{get_or_from_slice_get}
use Rattle.text.specs.Decimal.{number_of}
use Rattle.text.specs.Text.{split}
use Rattle.text.proofs.Chains.{split_lem}
use Rattle.text.proofs.Splitting.{split-some}
use Rattle.lists.specs.declared.Line.{Line}
use Rattle.lists.specs.Line.{tab, piece_at, number_at, number_in, or_malformed, fill_within, fill_of, put_line, fill_line, set_line}

-- ---- what calls for the next item give

-- an item, not the end
abbrev pub There : {A : Type 0} → Option A → Type 0
There None = ⊥
There (Some x) = Unit {0}

abbrev pub AllThere : {A : Type 0} → List (Option A) → Type 0
AllThere [] = Unit {0}
AllThere (r ∷ rs) = There r × AllThere rs

module _ {S A B : Type 0} (steps : S → Option A → S → Type 0) (v : A → B) where
  -- what calls give, one after the other
  abbrev pub Took : S → List (Option A) → S → Type 0
  Took s [] t = s ≡ t
  Took s (r ∷ rs) t = (j : S) × steps s r j × Took j rs t

  first : (all : List B) (s t : S) (r : Option A) → AlwaysYields steps v s all → steps s r t → option_map v r ≡ slice_get all 0
  first [] s t None e k = refl
  first [] s t (Some x) e k = absurd (e x t k)
  first (y ∷ ys) s t None e k = absurd (e.0 t k)
  first (y ∷ ys) s t (Some x) e k = ap Some (e.1 x t k).0

  pub next-at :
      (rs : List (Option A)) (all : List B) (s t u : S) (r : Option A) → AlwaysYields steps v s all → Took s rs t → AllThere rs → steps t r u
      → option_map v r ≡ slice_get all (length rs)
  next-at [] all s t u r e same w k = first all s u r e (subst (λ i. steps i r u) (sym same) k)
  next-at (None ∷ rs) all s t u r e took w k = absurd w.0
  next-at (Some x ∷ rs) [] s t u r e took w k = absurd (e x took.0 took.1)
  next-at (Some x ∷ rs) (y ∷ ys) s t u r e took w k = next-at rs ys took.0 t u r (e.1 x took.0 took.1).1 took.2 w.1 k

-- ---- a field at its place

pub there-within : {A B : Type 0} (v : A → B) (ps : List B) (k : ℕ) (r : Option A) → option_map v r ≡ slice_get ps k → There r → k < length ps
there-within v [] k None e w = absurd w
there-within v [] k (Some x) e w = let z : ◌≡◌ {A = ℕ} 0 1 = cc in absurd (omega arith)
there-within v (p ∷ ps) zero r e w = omega arith
there-within v (p ∷ ps) (suc k) r e w = omega (arith, there-within v ps k r e w)

pub missing-past : {A B : Type 0} (v : A → B) (ps : List B) (k : ℕ) (r : Option A) → option_map v r ≡ slice_get ps k → r ≡ None → length ps ≤ k
missing-past v [] k r e n = omega arith
missing-past v (p ∷ ps) zero None e n = let z : ◌≡◌ {A = ℕ} 0 1 = cc in absurd (omega arith)
missing-past v (p ∷ ps) zero (Some x) e n = let z : ◌≡◌ {A = ℕ} 0 1 = cc in absurd (omega arith)
missing-past v (p ∷ ps) (suc k) r e n = omega (arith, missing-past v ps k r e n)

there-first : {A B : Type 0} (v : A → B) (ps : List B) (r : Option A) → option_map v r ≡ slice_get ps 0 → 0 < length ps → There r
there-first v [] r e l = absurd (omega arith)
there-first v (p ∷ ps) None e l = let z : ◌≡◌ {A = ℕ} 0 1 = cc in absurd (omega arith)
there-first v (p ∷ ps) (Some x) e l = tt

pub there-some : {A : Type 0} (r : Option A) (x : A) → r ≡ Some x → There r
there-some None x e = let z : ◌≡◌ {A = ℕ} 0 1 = cc in absurd (omega arith)
there-some (Some y) x e = tt

pub there-tested : {A : Type 0} (r : Option A) → is_some r ≡ true → There r
there-tested None e = let z : ◌≡◌ {A = ℕ} 0 1 = cc in absurd (omega arith)
there-tested (Some y) e = tt

pub missing-tested : {A : Type 0} (r : Option A) → is_some r ≡ false → r ≡ None
missing-tested None e = refl
missing-tested (Some y) e = let z : ◌≡◌ {A = ℕ} 0 1 = cc in absurd (omega arith)

number-there : (ps : List (List ℕ)) (k : ℕ) → number_in (slice_get ps k) ≡ number_at ps k
unfolding number_of
number-there [] k = refl
number-there (p ∷ ps) zero = refl
number-there (p ∷ ps) (suc k) = number-there ps k

abbrev pub now : Bor (List ℕ) → List ℕ
now x = x.now

pub there-number : (r : Option (Bor (List ℕ))) (n : ℕ) → Ok n ≡ or_malformed (number_in (option_map now r)) → There r
there-number None n e = let z : ◌≡◌ {A = ℕ} 0 1 = cc in absurd (omega arith)
there-number (Some x) n e = tt

read : (o : Option ℕ) (n : ℕ) → Ok n ≡ or_malformed o → o ≡ Some n
read (Some m) n e = cc
read None n e = cc

unread : (o : Option ℕ) (k : ℕ) → Err k ≡ or_malformed o → o ≡ None
unread (Some m) k e = let z : ◌≡◌ {A = ℕ} 0 1 = cc in absurd (omega arith)
unread None k e = refl

module _ (ps : List (List ℕ)) (k : ℕ) (r : Option (Bor (List ℕ))) (f : option_map now r ≡ slice_get ps k) where
  pub number-read : (n : ℕ) → Ok n ≡ or_malformed (number_in (option_map now r)) → number_at ps k ≡ Some n
  number-read n e = sym (number-there ps k) ∙ sym (ap number_in f) ∙ read (number_in (option_map now r)) n e

  pub number-unread : (n : ℕ) → Err n ≡ or_malformed (number_in (option_map now r)) → number_at ps k ≡ None
  number-unread n e = sym (number-there ps k) ∙ sym (ap number_in f) ∙ unread (number_in (option_map now r)) n e

  pub piece-read : (x : Bor (List ℕ)) → r ≡ Some x → x.now ≡ piece_at ps k
  piece-read x e = sym (get_or_from_slice_get ps k x.now [] (sym f ∙ ap (option_map now) e))

-- ---- the fields of a line, one call after the other

module _ {F : Type 0} {g : Mut F (Bor ℕ × Unit {0}) Bool} {f : F} (s : List ℕ) (s0 s1 : _) (r0 : Option (Bor (List ℕ)))
    (k0 : slice.split_steps g s0 r0 s1) (rest : slice.split_rest s0 ≡ s) (done : slice.split_done s0 ≡ false) (closure : slice.split_callee s0 ≡ f)
    (parts : (x : ℕ) (b : Bool) (q : F) → CalledAt g f x b q → (q ≡ f) × (b ≡ eqb x tab)) where
  taken :
      (rs : List (Option (Bor (List ℕ)))) (t u : _) (r : Option (Bor (List ℕ))) → Took (slice.split_steps g) now s0 rs t → AllThere rs
      → slice.split_steps g t r u → option_map now r ≡ slice_get (split tab s) (length rs)
  taken rs t u r y w k =
      next-at (slice.split_steps g) now rs _ s0 t u r (YieldsList-from_slice_split g (λ (x : ℕ). eqb x tab) s rest done closure parts).runs y w k
      ∙ ap (λ (ps : List (List ℕ)). slice_get ps (length rs)) (split_lem tab s)

  w0 : There r0
  w0 = there-first now (split tab s) r0 (taken [] s0 s1 r0 refl tt k0) (split-some tab s)

  pub second : (u : _) (r : Option (Bor (List ℕ))) → slice.split_steps g s1 r u → option_map now r ≡ slice_get (split tab s) 1
  second u r k = taken (r0 ∷ []) s1 u r (s1, k0, refl) (w0, tt) k

  module _ (s2 : _) (r1 : Option (Bor (List ℕ))) (k1 : slice.split_steps g s1 r1 s2) (w1 : There r1) where
    pub third : (u : _) (r : Option (Bor (List ℕ))) → slice.split_steps g s2 r u → option_map now r ≡ slice_get (split tab s) 2
    third u r k = taken (r0 ∷ r1 ∷ []) s2 u r (s1, k0, (s2, k1, refl)) (w0, (w1, tt)) k

    module _ (s3 : _) (r2 : Option (Bor (List ℕ))) (k2 : slice.split_steps g s2 r2 s3) (w2 : There r2) where
      pub fourth : (u : _) (r : Option (Bor (List ℕ))) → slice.split_steps g s3 r u → option_map now r ≡ slice_get (split tab s) 3
      fourth u r k = taken (r0 ∷ r1 ∷ r2 ∷ []) s3 u r (s1, k0, (s2, k1, (s3, k2, refl))) (w0, (w1, (w2, tt))) k

      module _ (s4 : _) (r3 : Option (Bor (List ℕ))) (k3 : slice.split_steps g s3 r3 s4) (w3 : There r3) where
        pub fifth : (u : _) (r : Option (Bor (List ℕ))) → slice.split_steps g s4 r u → option_map now r ≡ slice_get (split tab s) 4
        fifth u r k = taken (r0 ∷ r1 ∷ r2 ∷ r3 ∷ []) s4 u r (s1, k0, (s2, k1, (s3, k2, (s4, k3, refl)))) (w0, (w1, (w2, (w3, tt)))) k

        module _ (s5 : _) (r4 : Option (Bor (List ℕ))) (k4 : slice.split_steps g s4 r4 s5) (w4 : There r4) where
          pub sixth : (u : _) (r : Option (Bor (List ℕ))) → slice.split_steps g s5 r u → option_map now r ≡ slice_get (split tab s) 5
          sixth u r k = taken (r0 ∷ r1 ∷ r2 ∷ r3 ∷ r4 ∷ []) s5 u r (s1, k0, (s2, k1, (s3, k2, (s4, k3, (s5, k4, refl))))) (w0, (w1, (w2, (w3, (w4, tt))))) k

          module _ (s6 : _) (r5 : Option (Bor (List ℕ))) (k5 : slice.split_steps g s5 r5 s6) (w5 : There r5) where
            pub seventh : (u : _) (r : Option (Bor (List ℕ))) → slice.split_steps g s6 r u → option_map now r ≡ slice_get (split tab s) 6
            seventh u r k = taken (r0 ∷ r1 ∷ r2 ∷ r3 ∷ r4 ∷ r5 ∷ []) s6 u r (s1, k0, (s2, k1, (s3, k2, (s4, k3, (s5, k4, (s6, k5, refl)))))) (w0, (w1, (w2, (w3, (w4, (w5, tt)))))) k

-- ---- the answers to lines

either : (t : Bool) (x : Result Line ℕ) → x ≡ Err 6 → Err 6 ≡ cond t x (Err 6)
either true x e = sym e
either false x e = refl

module _ (ps : List (List ℕ)) where
  pub set-other : (length ps ≡ 3 → ⊥) → Err 6 ≡ set_line ps
  set-other n = rw (ne_eqb (length ps) 3 n)

  pub set-unread : number_at ps 2 ≡ None → Err 6 ≡ set_line ps
  set-unread e = either (eqb (length ps) 3) _ (rw e)

  pub put-other : (length ps ≡ 4 → ⊥) → Err 6 ≡ put_line ps
  put-other n = rw (ne_eqb (length ps) 4 n)

  pub fill-other : (length ps ≡ 6 → ⊥) → Err 6 ≡ fill_line ps
  fill-other n = rw (ne_eqb (length ps) 6 n)

-- a field that is no number, whatever the others are
second-none : (a c d n : Option ℕ) → fill_of a None c d n ≡ Err 6
second-none None c d n = refl
second-none (Some i) c d n = refl

third-none : (a b d n : Option ℕ) → fill_of a b None d n ≡ Err 6
third-none None b d n = refl
third-none (Some i) None d n = refl
third-none (Some i) (Some j) d n = refl

fourth-none : (a b c n : Option ℕ) → fill_of a b c None n ≡ Err 6
fourth-none None b c n = refl
fourth-none (Some i) None c n = refl
fourth-none (Some i) (Some j) None n = refl
fourth-none (Some i) (Some j) (Some k) n = refl

fifth-none : (a b c d : Option ℕ) → fill_of a b c d None ≡ Err 6
fifth-none None b c d = refl
fifth-none (Some i) None c d = refl
fifth-none (Some i) (Some j) None d = refl
fifth-none (Some i) (Some j) (Some k) None = refl
fifth-none (Some i) (Some j) (Some k) (Some l) = refl

module _ (ps : List (List ℕ)) where
  pub put-unread-1 : number_at ps 1 ≡ None → Err 6 ≡ put_line ps
  put-unread-1 e = either (eqb (length ps) 4) _ (rw e refl)

  pub put-unread-2 : number_at ps 2 ≡ None → Err 6 ≡ put_line ps
  put-unread-2 e = either (eqb (length ps) 4) _ (rw e (third-none (number_at ps 1) (number_at ps 1) None (number_at ps 3)))

  pub put-unread-3 : number_at ps 3 ≡ None → Err 6 ≡ put_line ps
  put-unread-3 e = either (eqb (length ps) 4) _ (rw e (fifth-none (number_at ps 1) (number_at ps 1) (number_at ps 2) (number_at ps 2)))

  pub fill-unread-1 : number_at ps 1 ≡ None → Err 6 ≡ fill_line ps
  fill-unread-1 e = either (eqb (length ps) 6) _ (rw e refl)

  pub fill-unread-2 : number_at ps 2 ≡ None → Err 6 ≡ fill_line ps
  fill-unread-2 e = either (eqb (length ps) 6) _ (rw e (second-none (number_at ps 1) (number_at ps 3) (number_at ps 4) (number_at ps 5)))

  pub fill-unread-3 : number_at ps 3 ≡ None → Err 6 ≡ fill_line ps
  fill-unread-3 e = either (eqb (length ps) 6) _ (rw e (third-none (number_at ps 1) (number_at ps 2) (number_at ps 4) (number_at ps 5)))

  pub fill-unread-4 : number_at ps 4 ≡ None → Err 6 ≡ fill_line ps
  fill-unread-4 e = either (eqb (length ps) 6) _ (rw e (fourth-none (number_at ps 1) (number_at ps 2) (number_at ps 3) (number_at ps 5)))

  pub fill-unread-5 : number_at ps 5 ≡ None → Err 6 ≡ fill_line ps
  fill-unread-5 e = either (eqb (length ps) 6) _ (rw e (fifth-none (number_at ps 1) (number_at ps 2) (number_at ps 3) (number_at ps 4)))

  pub put-four :
      (c b n : ℕ) (x : Result Line ℕ) → length ps ≡ 4 → number_at ps 1 ≡ Some c → number_at ps 2 ≡ Some b → number_at ps 3 ≡ Some n
      → x ≡ fill_within c c b b n → x ≡ put_line ps
  put-four c b n x l e1 e2 e3 ex = rw (eq-eqb (length ps) 4 l, e1, e2, e3) ex

  pub fill-six :
      (c0 c1 b0 b1 n : ℕ) (x : Result Line ℕ) → length ps ≡ 6 → number_at ps 1 ≡ Some c0 → number_at ps 2 ≡ Some c1 → number_at ps 3 ≡ Some b0
      → number_at ps 4 ≡ Some b1 → number_at ps 5 ≡ Some n → x ≡ fill_within c0 c1 b0 b1 n → x ≡ fill_line ps
  fill-six c0 c1 b0 b1 n x l e1 e2 e3 e4 e5 ex = rw (eq-eqb (length ps) 6 l, e1, e2, e3, e4, e5) ex
