-- The rows that a test chooses, place by place.
use mathlib.Core.Bool.{Bool, true, false, cond, not}
use mathlib.Core.List.Memᴰ
use mathlib.Core.List.{List, [], ◌∷◌, ◌++◌, map, append_assoc, append-nil, Memᴰ}
use mathlib.Core.Logic.{◌⊎◌, inl, inr, ◌↔◌, ⊎_elim}
use mathlib.Core.Path.{◌≡◌, refl, sym, ap, ◌∙◌, subst}
use Prim.Native.Nat.{ℕ, zero, suc, ◌+◌, ◌≤◌, ◌<◌}
use native.Mathlib.Decide.{dec_lt}
use native.Mathlib.Omega.{arith}
use borrow.Author.Tests.{eq-eqb, ne_eqb, eqb-false}
use lib.Dec.{T, eqb}
use lib.ListN.{length, length-append}
use Rattle.print.specs.Chosen.{chosen_at, chosen_from, lines_of, IsChosen, InOrder}
use Rattle.print.specs.Printed.{top, Wrote, parts_from}
use Rattle.print.proofs.Writing.{wrote-same, wrote_none}

-- ---- the test that two numbers differ

module _ (a b : ℕ) where
  pub not_same : not (eqb a b) ≡ true → a ≡ b → ⊥
  not_same = go (eqb a b) refl
    where
      go : (t : Bool) → eqb a b ≡ t → not t ≡ true → a ≡ b → ⊥
      go true e h = absurd (subst T (sym h) tt)
      go false e h = eqb-false a b e

  pub so-not-same : (a ≡ b → ⊥) → not (eqb a b) ≡ true
  so-not-same n = rw (ne_eqb a b n)

  pub so-same : a ≡ b → not (eqb a b) ≡ false
  so-same e = rw (eq-eqb a b e)

-- ---- rows as text

module _ {A : Type 0} (text : A → List ℕ) where
  lines-append : (xs ys : List A) → lines_of text (xs ++ ys) ≡ lines_of text xs ++ lines_of text ys
  lines-append [] ys = refl
  lines-append (x ∷ xs) ys = rw (lines-append xs ys) (sym (append_assoc (text x) (lines_of text xs) (lines_of text ys)))

  -- no row's text is empty, so that a text of no bytes has none
  pub no_lines : ((x : A) → 0 < length (text x)) → (xs : List A) → length (lines_of text xs) ≡ 0 → xs ≡ []
  no_lines some [] e = refl
  no_lines some (x ∷ xs) e = absurd (omega (arith, some x, length-append (text x) (lines_of text xs), e))

module _ {A : Type 0} (t : ℕ → Bool) (f : ℕ → A) where
  -- ---- which rows there are

  in-chosen-at : (k : ℕ) (x : A) → Memᴰ x (chosen_at t f k) → IsChosen t f k (k + 1) x
  in-chosen-at k x = go (t k) refl
    where
      go : (b : Bool) → t k ≡ b → Memᴰ x (cond b (f k ∷ []) []) → IsChosen t f k (k + 1) x
      go true e m = record { place = k; low = omega arith; high = omega arith; chosen = e; same = Memᴰ.eq_of_singleton m }
      go false e m = absurd (Memᴰ.not-nil m)

  in-chosen : (n k : ℕ) (x : A) → Memᴰ x (chosen_from t f k n) → IsChosen t f k (k + n) x
  in-chosen zero k x m = absurd (Memᴰ.not-nil m)
  in-chosen (suc n) k x m =
      ⊎_elim (λ here. now (in-chosen-at k x here)) (λ later. later-on (in-chosen n (k + 1) x later)) (Memᴰ.append_cases (chosen_at t f k) m)
    where
      now : IsChosen t f k (k + 1) x → IsChosen t f k (k + suc n) x
      now c = record { place = c.place; low = c.low; high = omega (arith, c.high); chosen = c.chosen; same = c.same }

      later-on : IsChosen t f (k + 1) (k + 1 + n) x → IsChosen t f k (k + suc n) x
      later-on c = record { place = c.place; low = omega (arith, c.low); high = omega (arith, c.high); chosen = c.chosen; same = c.same }

  chosen-there : (n k p : ℕ) → k ≤ p → p < k + n → t p ≡ true → Memᴰ (f p) (chosen_from t f k n)
  chosen-there zero k p l h c = absurd (omega arith)
  chosen-there (suc n) k p l h c = go (dec_lt k p) (chosen-there n (k + 1) p)
    where
      here : Memᴰ (f p) (chosen_at t f p)
      here = rw c (Memᴰ.head refl)

      go : Dec (k < p) → (k + 1 ≤ p → p < k + 1 + n → t p ≡ true → Memᴰ (f p) (chosen_from t f (k + 1) n)) → Memᴰ (f p) (chosen_from t f k (suc n))
      go (yes s) rest = Memᴰ.append_right (chosen_at t f k) (rest (omega arith) (omega arith) c)
      go (no s) rest =
          let same : p ≡ k = omega arith in
          Memᴰ.append_left (chosen_from t f (k + 1) n) (subst (λ (q : ℕ). Memᴰ (f p) (chosen_at t f q)) same here)

  pub chosen-exactly : (n : ℕ) (x : A) → Memᴰ x (chosen_from t f 0 n) ↔ IsChosen t f 0 n x
  chosen-exactly n x = (
    λ m. let c = in-chosen n 0 x m in record { place = c.place; low = c.low; high = omega (arith, c.high); chosen = c.chosen; same = c.same },
    λ c. subst (λ (y : A). Memᴰ y (chosen_from t f 0 n)) (sym c.same) (chosen-there n 0 c.place c.low (omega (arith, c.high)) c.chosen),
  )

  -- ---- none, and one alone

  pub none-chosen : (n k : ℕ) → ((q : ℕ) → k ≤ q → q < k + n → t q ≡ false) → chosen_from t f k n ≡ []
  none-chosen zero k h = refl
  none-chosen (suc n) k h = rw (h k (omega arith) (omega arith)) (none-chosen n (k + 1) (λ q l u. h q (omega arith) (omega arith)))

  pub one-chosen :
      (n k p : ℕ) → k ≤ p → p < k + n → t p ≡ true → ((q : ℕ) → (q ≡ p → ⊥) → t q ≡ false) → chosen_from t f k n ≡ f p ∷ []
  one-chosen zero k p l h c others = absurd (omega arith)
  one-chosen (suc n) k p l h c others = go (dec_lt k p) (one-chosen n (k + 1) p)
    where
      go :
          Dec (k < p)
          → (k + 1 ≤ p → p < k + 1 + n → t p ≡ true → ((q : ℕ) → (q ≡ p → ⊥) → t q ≡ false) → chosen_from t f (k + 1) n ≡ f p ∷ [])
          → chosen_from t f k (suc n) ≡ f p ∷ []
      go (yes s) rest = rw (others k (λ e. omega arith)) (rest (omega arith) (omega arith) c others)
      go (no s) rest =
          let same : k ≡ p = omega arith in
          rw (same, c, none-chosen n (p + 1) (λ q m u. others q (λ e. omega arith)))

  -- ---- in which order

  pub chosen-in-order : (Before : A → A → Type 0) → ((k p : ℕ) → k < p → Before (f k) (f p)) → (n k : ℕ) → InOrder Before (chosen_from t f k n)
  chosen-in-order Before rising zero k = tt
  chosen-in-order Before rising (suc n) k = go (t k) (chosen-in-order Before rising n (k + 1))
    where
      later : (y : A) → IsChosen t f (k + 1) (k + 1 + n) y → Before (f k) y
      later y c = subst (λ (z : A). Before (f k) z) (sym c.same) (rising k c.place (omega (arith, c.low)))

      go : (b : Bool) → InOrder Before (chosen_from t f (k + 1) n) → InOrder Before (cond b (f k ∷ []) [] ++ chosen_from t f (k + 1) n)
      go true rest = (λ y m. later y (in-chosen n (k + 1) y m), rest)
      go false rest = rest

  -- ---- as text

  pub chosen-parts :
      (text : A → List ℕ) (n k : ℕ) → parts_from (λ (j : ℕ). lines_of text (chosen_at t f j)) k n ≡ lines_of text (chosen_from t f k n)
  chosen-parts text zero k = refl
  chosen-parts text (suc n) k =
      ap (λ (l : List ℕ). lines_of text (chosen_at t f k) ++ l) (chosen-parts text n (k + 1))
      ∙ sym (lines-append text (chosen_at t f k) (chosen_from t f (k + 1) n))

  -- ---- what is written of one place

  pub wrote-chosen :
      (text : A → List ℕ) {k : ℕ} {l m : List ℕ} {i j : ℕ} → t k ≡ true → Wrote l i (text (f k)) m j → Wrote l i (lines_of text (chosen_at t f k)) m j
  wrote-chosen text {k} e w = wrote-same (sym (ap (λ (b : Bool). lines_of text (cond b (f k ∷ []) [])) e ∙ append-nil (text (f k)))) w

  pub wrote-passed :
      (text : A → List ℕ) {k : ℕ} (l : List ℕ) (i : ℕ) → i ≤ top → t k ≡ false → Wrote l i (lines_of text (chosen_at t f k)) l i
  wrote-passed text {k} l i h e = wrote-same (sym (ap (λ (b : Bool). lines_of text (cond b (f k ∷ []) [])) e)) (wrote_none l i h)

-- ---- a test that chooses the same places, and the rows made of those

module _ {A B : Type 0} (t u : ℕ → Bool) (f : ℕ → A) (g : ℕ → B) (h : A → B) (test : (k : ℕ) → t k ≡ u k) (row : (k : ℕ) → h (f k) ≡ g k) where
  pub chosen-mapped : (n k : ℕ) → map h (chosen_from t f k n) ≡ chosen_from u g k n
  chosen-mapped zero k = refl
  chosen-mapped (suc n) k = go (t k) (u k) (test k) (chosen-mapped n (k + 1))
    where
      go :
          (b c : Bool) → b ≡ c → map h (chosen_from t f (k + 1) n) ≡ chosen_from u g (k + 1) n
          → map h (cond b (f k ∷ []) [] ++ chosen_from t f (k + 1) n) ≡ cond c (g k ∷ []) [] ++ chosen_from u g (k + 1) n
      go true c e rest = rw (← e, row k, rest)
      go false c e rest = rw (← e) rest

-- ---- rows in order are told by which there are

module _ {A : Type 0} (Before : A → A → Type 0) (one_way : (x y : A) → Before x y → Before y x → ⊥) where
  same_head :
      (x y : A) (xs ys : List A) → InOrder Before (x ∷ xs) → InOrder Before (y ∷ ys)
      → ((z : A) → Memᴰ z (x ∷ xs) ↔ Memᴰ z (y ∷ ys)) → x ≡ y
  same_head x y xs ys ox oy same = go (Memᴰ.cases_cons ((same x).0 (Memᴰ.head refl))) (Memᴰ.cases_cons ((same y).1 (Memᴰ.head refl)))
    where
      go : (x ≡ y) ⊎ Memᴰ x ys → (y ≡ x) ⊎ Memᴰ y xs → x ≡ y
      go (inl e) there = e
      go (inr here) (inl e) = sym e
      go (inr here) (inr there) = absurd (one_way x y (ox.0 y there) (oy.0 x here))

  in_tail : (x z : A) (xs ys : List A) → InOrder Before (x ∷ xs) → Memᴰ z xs → Memᴰ z (x ∷ ys) → Memᴰ z ys
  in_tail x z xs ys order m there = go (Memᴰ.cases_cons there)
    where
      itself : z ≡ x → Before x x
      itself e = subst (λ (w : A). Before x w) e (order.0 z m)

      go : (z ≡ x) ⊎ Memᴰ z ys → Memᴰ z ys
      go (inl e) = absurd (one_way x x (itself e) (itself e))
      go (inr later) = later

  pub told-by-members :
      (xs ys : List A) → InOrder Before xs → InOrder Before ys → ((z : A) → Memᴰ z xs ↔ Memᴰ z ys) → xs ≡ ys
  told-by-members [] [] ox oy same = refl
  told-by-members [] (y ∷ ys) ox oy same = absurd (Memᴰ.not-nil ((same y).1 (Memᴰ.head refl)))
  told-by-members (x ∷ xs) [] ox oy same = absurd (Memᴰ.not-nil ((same x).0 (Memᴰ.head refl)))
  told-by-members (x ∷ xs) (y ∷ ys) ox oy same =
      let e : x ≡ y = same_head x y xs ys ox oy same in
      let order : InOrder Before (x ∷ ys) = subst (λ (w : A). InOrder Before (w ∷ ys)) (sym e) oy in
      let members : (z : A) → Memᴰ z (x ∷ xs) ↔ Memᴰ z (x ∷ ys) =
      subst (λ (w : A). (z : A) → Memᴰ z (x ∷ xs) ↔ Memᴰ z (w ∷ ys)) (sym e) same in
      let rest : xs ≡ ys = told-by-members xs ys ox.1 oy.1
      (λ z. (λ m. in_tail x z xs ys ox m ((members z).0 (Memᴰ.tail m)), λ m. in_tail x z ys xs order m ((members z).1 (Memᴰ.tail m)))) in
      ap (λ (w : A). w ∷ xs) e ∙ ap (λ (zs : List A). y ∷ zs) rest
