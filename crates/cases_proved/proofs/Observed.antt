-- An observation that was computed distinguishes the definition from a wrong program.
use mathlib.Core.Bool.{Bool, not, ◌&&◌}
use mathlib.Core.Path.{sym, ap, subst, ◌∙◌}
use Prim.Native.Nat.{ℕ}
use lib.Dec.{T, T_not, eqb, eqb→eq, eqb_refl}
use Rattle.registers.proofs.Below.{and_left, and_right}
use Rattle.cases_proved.specs.Observed.{Observation, Distinguishes}

abbrev pub passes : {Program : Type 0} → Program → Observation Program → Bool
passes definition o = eqb (o.observed definition) o.right && not (eqb o.right o.wrong)

pub passes-distinguishes : {Program : Type 0} (definition : Program) (o : Observation Program) → T (passes definition o) → Distinguishes definition o
passes-distinguishes definition o t =
    let is_right = eqb→eq (o.observed definition) o.right (and_left (eqb (o.observed definition) o.right) _ t) in
    record {
      is_right = is_right;
      shut_out = λ p gives same.
          T_not (eqb o.right o.wrong) (and_right (eqb (o.observed definition) o.right) _ t)
          (subst (λ (n : ℕ). T (eqb o.right n)) (sym is_right ∙ sym (ap o.observed same) ∙ gives) (eqb_refl o.right));
    }
