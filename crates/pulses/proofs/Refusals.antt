-- Exactly when each refusal of a row comes.
use mathlib.Core.Path.{◌≡◌, refl, subst}
use mathlib.Core.Bool.{Bool, true, false, not, ◌||◌}
use mathlib.Core.Logic.{◌↔◌}
use Prim.Native.Nat.{ℕ, zero, suc}
use borrow.Author.Tests.{eq-eqb, ne_eqb, le-ltb, lt-ltb, eqb-true, eqb-false, ltb-true, ltb-false}
use lib.Dec.{eqb, ltb}
use Rattle.registers.specs.declared.Chip.{Chip}
use Rattle.registers.specs.Record.{allowed}
use Rattle.registers.specs.Refusals.{refuse, ◌then◌}
use Rattle.registers.specs.State.{places}
use Rattle.glass.specs.Glass.{place_refusal, glass_refusal}
use Rattle.pulses.specs.Row.{row_length, row_refusal}
use Rattle.pulses.specs.When.{RowWhen}

module _ (c : Chip) (n row out : ℕ) where
  row-when : RowWhen c n row out (row_refusal c n row out)
  unfolding row_refusal glass_refusal place_refusal
  row-when = go (eqb n places) (allowed c) (ltb 66 row) (eqb out row_length) refl refl refl refl
    where
      go :
          (l a w o : Bool) → eqb n places ≡ l → allowed c ≡ a → ltb 66 row ≡ w → eqb out row_length ≡ o
          → RowWhen c n row out ((refuse (not l) 1 then refuse (not a) 2 then refuse (w || false) 5) then refuse (not o) 11)
      go false a w o el ea ew eo = eqb-false n places el
      go true false w o el ea ew eo = (eqb-true n places el, ea)
      go true true true o el ea ew eo = (eqb-true n places el, ea, ltb-true 66 row ew)
      go true true false true el ea ew eo = (eqb-true n places el, ea, ltb-false 66 row ew, eqb-true out row_length eo)
      go true true false false el ea ew eo = (eqb-true n places el, ea, ltb-false 66 row ew, eqb-false out row_length eo)

  row-so : (k : ℕ) → RowWhen c n row out k → row_refusal c n row out ≡ k
  unfolding row_refusal glass_refusal place_refusal
  row-so zero h = rw (eq-eqb n places h.0, h.1, le-ltb 66 row h.2, eq-eqb out row_length h.3)
  row-so (suc zero) h = rw (ne_eqb n places h)
  row-so (suc (suc zero)) h = rw (eq-eqb n places h.0, h.1)
  row-so (suc (suc (suc zero))) h = absurd h
  row-so (suc (suc (suc (suc zero)))) h = absurd h
  row-so (suc (suc (suc (suc (suc zero))))) h = rw (eq-eqb n places h.0, h.1, lt-ltb 66 row h.2)
  row-so (suc (suc (suc (suc (suc (suc zero)))))) h = absurd h
  row-so (suc (suc (suc (suc (suc (suc (suc zero))))))) h = absurd h
  row-so (suc (suc (suc (suc (suc (suc (suc (suc zero)))))))) h = absurd h
  row-so (suc (suc (suc (suc (suc (suc (suc (suc (suc zero))))))))) h = absurd h
  row-so (suc (suc (suc (suc (suc (suc (suc (suc (suc (suc zero)))))))))) h = absurd h
  row-so (suc (suc (suc (suc (suc (suc (suc (suc (suc (suc (suc zero))))))))))) h = rw (eq-eqb n places h.0, h.1, le-ltb 66 row h.2, ne_eqb out row_length h.3)
  row-so (suc (suc (suc (suc (suc (suc (suc (suc (suc (suc (suc (suc k)))))))))))) h = absurd h

  pub row-exactly : (k : ℕ) → (row_refusal c n row out ≡ k) ↔ RowWhen c n row out k
  row-exactly k = (λ e. subst (λ (x : ℕ). RowWhen c n row out x) e row-when, row-so k)
