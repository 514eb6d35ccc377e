-- Exactly when each refusal comes.
use mathlib.Core.Path.{◌≡◌, refl, subst}
use mathlib.Core.Bool.{Bool, true, false, not, ◌||◌}
use mathlib.Core.Logic.{◌↔◌}
use Prim.Native.Nat.{ℕ, zero, suc, ◌≤◌}
use native.Mathlib.Omega.{arith}
use borrow.Author.Tests.{eq-eqb, ne_eqb, le-ltb, eqb-true, eqb-false, ltb-false}
use lib.Dec.{eqb, ltb}
use Rattle.registers.specs.declared.Chip.{Chip}
use Rattle.registers.specs.Record.{allowed}
use Rattle.registers.specs.Refusals.{refuse, ◌then◌}
use Rattle.registers.specs.State.{places}
use Rattle.registers.proofs.Below.{false-true}
use Rattle.glass.specs.Glass.{off_glass, place_refusal, glass_refusal}
use Rattle.glass.specs.When.{OnGlass, PlaceWhen, GlassWhen}

-- ---- the edges of the glass

module _ (row column : ℕ) where
  pub on-glass : off_glass row column ≡ false → OnGlass row column
  on-glass = go (ltb 66 row) (ltb 100 column) refl refl
    where
      go : (a b : Bool) → ltb 66 row ≡ a → ltb 100 column ≡ b → a || b ≡ false → OnGlass row column
      go false false ea eb h = record { row_there = ltb-false 66 row ea; column_there = ltb-false 100 column eb }
      go true b ea eb h = let z : ◌≡◌ {A = ℕ} 0 1 = cc in absurd (omega arith)
      go false true ea eb h = let z : ◌≡◌ {A = ℕ} 0 1 = cc in absurd (omega arith)

  pub not-on-glass : off_glass row column ≡ true → OnGlass row column → ⊥
  not-on-glass h there = false-true (simp (le-ltb 66 row there.row_there, le-ltb 100 column there.column_there) at h)

  pub is-on : OnGlass row column → off_glass row column ≡ false
  is-on there = simp (le-ltb 66 row there.row_there, le-ltb 100 column there.column_there)

  pub is-off : (OnGlass row column → ⊥) → off_glass row column ≡ true
  is-off away = go (off_glass row column) refl
    where
      go : (t : Bool) → off_glass row column ≡ t → t ≡ true
      go true e = refl
      go false e = absurd (away (on-glass e))

-- ---- the place

module _ (c : Chip) (row column : ℕ) where
  place-when : PlaceWhen c row column (place_refusal c row column)
  unfolding place_refusal
  place-when = go (allowed c) (off_glass row column) refl refl
    where
      go : (a o : Bool) → allowed c ≡ a → off_glass row column ≡ o → PlaceWhen c row column (refuse (not a) 2 then refuse o 5)
      go false o ea eo = ea
      go true true ea eo = (ea, not-on-glass row column eo)
      go true false ea eo = (ea, on-glass row column eo)

  place-so : (k : ℕ) → PlaceWhen c row column k → place_refusal c row column ≡ k
  unfolding place_refusal
  place-so zero h = simp (h.0, is-on row column h.1)
  place-so (suc zero) h = absurd h
  place-so (suc (suc zero)) h = simp h
  place-so (suc (suc (suc zero))) h = absurd h
  place-so (suc (suc (suc (suc zero)))) h = absurd h
  place-so (suc (suc (suc (suc (suc zero))))) h = simp (h.0, is-off row column h.1)
  place-so (suc (suc (suc (suc (suc (suc k)))))) h = absurd h

  pub place-exactly : (k : ℕ) → (place_refusal c row column ≡ k) ↔ PlaceWhen c row column k
  place-exactly k = (λ e. subst (λ (n : ℕ). PlaceWhen c row column n) e place-when, place-so k)

-- ---- the pixel

module _ (c : Chip) (n row column : ℕ) where
  glass-when : GlassWhen c n row column (glass_refusal c n row column)
  unfolding place_refusal glass_refusal
  glass-when = go (eqb n places) (allowed c) (off_glass row column) refl refl refl
    where
      go :
          (l a o : Bool) → eqb n places ≡ l → allowed c ≡ a → off_glass row column ≡ o
          → GlassWhen c n row column (refuse (not l) 1 then refuse (not a) 2 then refuse o 5)
      go false a o el ea eo = eqb-false n places el
      go true false o el ea eo = (eqb-true n places el, ea)
      go true true true el ea eo = (eqb-true n places el, ea, not-on-glass row column eo)
      go true true false el ea eo = (eqb-true n places el, ea, on-glass row column eo)

  glass-so : (k : ℕ) → GlassWhen c n row column k → glass_refusal c n row column ≡ k
  unfolding place_refusal glass_refusal
  glass-so zero h = simp (eq-eqb n places h.0, h.1, is-on row column h.2)
  glass-so (suc zero) h = simp (ne_eqb n places h)
  glass-so (suc (suc zero)) h = simp (eq-eqb n places h.0, h.1)
  glass-so (suc (suc (suc zero))) h = absurd h
  glass-so (suc (suc (suc (suc zero)))) h = absurd h
  glass-so (suc (suc (suc (suc (suc zero))))) h = simp (eq-eqb n places h.0, h.1, is-off row column h.2)
  glass-so (suc (suc (suc (suc (suc (suc k)))))) h = absurd h

  pub glass-exactly : (k : ℕ) → (glass_refusal c n row column ≡ k) ↔ GlassWhen c n row column k
  glass-exactly k = (λ e. subst (λ (x : ℕ). GlassWhen c n row column x) e glass-when, glass-so k)

  -- the table ends with 5
  pub when-bound : (k : ℕ) → GlassWhen c n row column k → k ≤ 5
  when-bound zero h = omega arith
  when-bound (suc zero) h = omega arith
  when-bound (suc (suc zero)) h = omega arith
  when-bound (suc (suc (suc zero))) h = omega arith
  when-bound (suc (suc (suc (suc zero)))) h = omega arith
  when-bound (suc (suc (suc (suc (suc zero))))) h = omega arith
  when-bound (suc (suc (suc (suc (suc (suc k)))))) h = absurd h
