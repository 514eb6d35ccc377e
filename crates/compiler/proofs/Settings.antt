-- What a set does, place by place and row by row.
use mathlib.Core.Bool.{Bool, true, false, cond}
use mathlib.Core.List.{[], ◌∷◌, ◌++◌}
use mathlib.Core.Path.{◌≡◌, refl, sym, ap, ◌∙◌}
use Prim.Native.Nat.{ℕ, ◌+◌, ◌-◌, ◌≤◌}
use native.Mathlib.Decide.{ℕ_discrete}
use native.Mathlib.Omega.{arith}
use borrow.Author.Tests.{eq-eqb, ne_eqb}
use lib.Dec.{eqb}
use lib.ListN.{get_or, length, get_or-map}
use Rattle.registers.specs.declared.Registers.{Registers}
use Rattle.registers.specs.Data.{pages}
use Rattle.registers.specs.Encode.{row_byte, row_for, is_grey}
use Rattle.registers.specs.Places.{GR, GS0}
use Rattle.registers.specs.Record.{put}
use Rattle.registers.specs.Table.{Row, rows, no_row}
use Rattle.drawing.specs.Plain.{set_to}
use Rattle.drawing.specs.Stream.{page_of, leave, enter, row_bytes, set_commands}
use Rattle.drawing.proofs.SetPlays.{grey-commands}
use Rattle.compiler.specs.Writes.{set_length}

-- ---- the registers after a set

module _ (f n : ℕ) (r : Registers) where
  -- q is what selecting the register left
  pub grey-set : (q x : Registers) → is_grey f ≡ true → q ≡ put GR (f - GS0) r → x ≡ put f n q → x ≡ set_to f n r
  unfolding set_to
  grey-set q x g select h = rw g (h ∙ ap (put f n) select)

  pub other-set : (x : Registers) → is_grey f ≡ false → x ≡ put f n r → x ≡ set_to f n r
  unfolding set_to
  other-set x g h = rw g h

-- ---- the commands of a set

pub page-at : (x i : ℕ) → x ≡ get_or pages i 0 → x ≡ page_of i
page-at x i h = h ∙ get_or-map (λ (w : Row). w.page) rows i no_row

pub grey-said :
    (f s l : ℕ) (t : Registers) → is_grey f ≡ true → s ≡ row_byte (get_or rows 16 no_row) t → l ≡ row_byte (get_or rows 17 no_row) t
    → 1 ∷ 11 ∷ s ∷ l ∷ 1 ∷ [] ≡ set_commands f t
grey-said f s l t g e d =
    ap (λ (n : ℕ). 1 ∷ 11 ∷ n ∷ l ∷ 1 ∷ []) e
    ∙ ap (λ (n : ℕ). 1 ∷ 11 ∷ row_byte (get_or rows 16 no_row) t ∷ n ∷ 1 ∷ []) d
    ∙ sym (grey-commands f g t)

module _ (f p b : ℕ) (t : Registers) (g : is_grey f ≡ false) (i : ℕ) (row : i ≡ row_for f) (page : p ≡ page_of i) (byte : b ≡ row_byte (get_or rows i no_row) t) where
  in_row : 1 ∷ enter p ++ b ∷ leave p ≡ set_commands f t
  in_row =
      ap (λ (n : ℕ). 1 ∷ enter p ++ n ∷ leave p) byte
      ∙ ap (λ (q : ℕ). 1 ∷ enter q ++ row_byte (get_or rows i no_row) t ∷ leave q) page
      ∙ ap (λ (j : ℕ). 1 ∷ row_bytes (j ∷ []) t) row
      ∙ sym (ap (λ (b : Bool). 1 ∷ row_bytes (cond b (16 ∷ row_for f ∷ []) (row_for f ∷ [])) t) g)

  pub page-0-said : p ≡ 0 → 1 ∷ b ∷ [] ≡ set_commands f t
  page-0-said e = sym (ap (λ (q : ℕ). 1 ∷ enter q ++ b ∷ leave q) e) ∙ in_row

  pub page-said : (n : ℕ) → n ≡ 8 + p → (p ≡ 0 → ⊥) → 1 ∷ n ∷ b ∷ 1 ∷ [] ≡ set_commands f t
  page-said n e d =
      ap (λ (m : ℕ). 1 ∷ m ∷ b ∷ 1 ∷ []) e
      ∙ sym (ap (λ (c : Bool). 1 ∷ cond c [] ((8 + p) ∷ []) ++ b ∷ cond c [] (1 ∷ [])) (ne_eqb p 0 d))
      ∙ in_row

-- ---- how many commands a set has

module _ (f : ℕ) where
  pub grey-count : is_grey f ≡ true → 5 ≡ set_length f
  grey-count g = sym (ap (λ (b : Bool). cond b 5 (cond (eqb (page_of (row_for f)) 0) 2 4)) g)

  module _ (i p : ℕ) (g : is_grey f ≡ false) (row : i ≡ row_for f) (page : p ≡ page_of i) where
    plain-count : set_length f ≡ cond (eqb p 0) 2 4
    plain-count = ap (λ (b : Bool). cond b 5 (cond (eqb (page_of (row_for f)) 0) 2 4)) g ∙ sym (ap (λ (j : ℕ). cond (eqb j 0) 2 4) (page ∙ ap page_of row))

    pub page-0-count : p ≡ 0 → 2 ≡ set_length f
    page-0-count e = sym (plain-count ∙ ap (λ (b : Bool). cond b 2 4) (eq-eqb p 0 e))

    pub page-count : (p ≡ 0 → ⊥) → 4 ≡ set_length f
    page-count d = sym (plain-count ∙ ap (λ (b : Bool). cond b 2 4) (ne_eqb p 0 d))

pub set-length : (f : ℕ) (t : Registers) → length (set_commands f t) ≡ set_length f
set-length f t = go (is_grey f) refl (ℕ_discrete (page_of (row_for f)) 0)
  where
    go : (b : Bool) → is_grey f ≡ b → Dec (page_of (row_for f) ≡ 0) → length (set_commands f t) ≡ set_length f
    go true g d = sym (ap length (grey-said f _ _ t g refl refl)) ∙ grey-count f g
    go false g (yes e) = sym (ap length (page-0-said f _ _ t g (row_for f) refl refl refl e)) ∙ page-0-count f _ _ g refl refl e
    go false g (no d) = sym (ap length (page-said f _ _ t g (row_for f) refl refl refl _ refl d)) ∙ page-count f _ _ g refl refl d

pub set-length-bound : (f : ℕ) → set_length f ≤ 5
set-length-bound f = go (is_grey f) (eqb (page_of (row_for f)) 0)
  where
    go : (a b : Bool) → cond a 5 (cond b 2 4) ≤ 5
    go true b = omega arith
    go false true = omega arith
    go false false = omega arith
