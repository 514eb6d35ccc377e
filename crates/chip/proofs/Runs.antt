-- Runs: how far one goes, what the first events leave to the rest, and that the record stays allowed.
use mathlib.Core.List.{List, [], ◌∷◌, ◌++◌}
use mathlib.Core.Path.{◌≡◌, refl, sym, ◌∙◌, subst}
use Prim.Native.Nat.{ℕ, zero, suc, ◌+◌, ◌<◌, suc-le-suc, zero-le}
use native.Mathlib.Nat.{suc-ne-zero, add_assoc, add-zero, le_of_suc-le-suc}
use native.Mathlib.Numerals.{one-add}
use native.Mathlib.Omega.{arith}
use lib.ListN.{get_or}
use Rattle.registers.specs.State.{State}
use Rattle.engine.specs.Run.{unless_stopped, run_from}
use Rattle.engine.specs.Step.{refusal_of}
use Rattle.chip.specs.Promised.{After, Fit, entry_refusal, accepted, step_of, Outcome, outcome}
use Rattle.chip.specs.LastWriter.{before}
use Rattle.chip.specs.Runs.{continued, StepByStep}
use Rattle.chip.proofs.Refusals.{accepted-step}
use Rattle.engine.proofs.Allowed.{accepted-fit}
use Rattle.engine.proofs.Refusals.{fit-entry}

-- what was done before only counts along
pub run-shift : (n : ℕ) (es : List ℕ) (s : State) → run_from n es s ≡ outcome (n + (run_from 0 es s).done) (run_from 0 es s).refusal (run_from 0 es s).state
unfolding run_from
run-shift n [] s = rw add-zero
run-shift n (e ∷ es) s =
    go (refusal_of e s) _ _ (run_from 0 es (accepted e s).state) (run-shift (n + 1) es (accepted e s).state) (run-shift 1 es (accepted e s).state)
  where
    go :
        (k : ℕ) (x y z : Outcome) → x ≡ outcome (n + 1 + z.done) z.refusal z.state → y ≡ outcome (1 + z.done) z.refusal z.state
        → unless_stopped k n s x ≡ outcome (n + (unless_stopped k 0 s y).done) (unless_stopped k 0 s y).refusal (unless_stopped k 0 s y).state
    go zero x y z ex ey = ex ∙ simp (ey, add_assoc)
    go (suc k) x y z ex ey = rw add-zero

-- a run over two lists is the run over the first, gone on with the second where the first was not stopped
pub from-append : (n : ℕ) (xs ys : List ℕ) (s : State) → run_from n (xs ++ ys) s ≡ continued (run_from n xs s) ys
unfolding run_from
from-append n [] ys s = refl
from-append n (e ∷ xs) ys s = go (refusal_of e s) _ _ (from-append (n + 1) xs ys (accepted e s).state)
  where
    go : (k : ℕ) (x y : Outcome) → x ≡ continued y ys → unless_stopped k n s x ≡ continued (unless_stopped k n s y) ys
    go zero x y h = h
    go (suc k) x y h = refl

-- an allowed record stays allowed over a run, and the memories keep their length
pub from-fit : (n : ℕ) (es : List ℕ) (s : State) → Fit s → Fit (run_from n es s).state
unfolding run_from
from-fit n [] s fit = fit
from-fit n (e ∷ es) s fit = go (refusal_of e s) _ (from-fit (n + 1) es (accepted e s).state (accepted-fit e s fit))
  where
    go : (k : ℕ) (x : Outcome) → Fit x.state → Fit (unless_stopped k n s x).state
    go zero x h = h
    go (suc k) x h = fit

-- ---- step by step

-- no events: only the entry can refuse
nothing-done : (s : State) (k : ℕ) → entry_refusal s ≡ k → StepByStep [] s (outcome 0 k s)
nothing-done s k q =
    record {
      ends = refl;
      no_more = zero-le;
      accepted = λ i h. absurd (omega arith);
      stopped = λ h. absurd (omega arith);
      refused = λ h. absurd (omega arith);
      finished = λ h. sym q;
    }

-- nothing was done, and the first event is refused
refused-first : (e : ℕ) (es : List ℕ) (s : State) (k : ℕ) → refusal_of e s ≡ suc k → StepByStep (e ∷ es) s (outcome 0 (suc k) s)
refused-first e es s k q =
    record { ends = refl; no_more = zero-le; accepted = λ i h. absurd (omega arith); stopped = λ h. sym q; refused = λ h. suc-ne-zero k; finished = λ h. absurd (omega arith) }

-- the first event is done, and the rest follow from the state that its step leaves
first_done :
    (e : ℕ) (es : List ℕ) (s : State) (o : Outcome) → refusal_of e s ≡ 0 → Fit s → StepByStep es (step_of e s).state o
    → StepByStep (e ∷ es) s (outcome (suc o.done) o.refusal o.state)
first_done e es s o q fit rest =
    record {
      ends = rest.ends;
      no_more = suc-le-suc rest.no_more;
      accepted = each;
      stopped = λ h. rest.stopped (le_of_suc-le-suc h);
      refused = λ h. rest.refused (le_of_suc-le-suc h);
      finished = λ h. rest.finished (omega (arith, h)) ∙ fit-entry _ (stays e s q fit) ∙ sym (fit-entry s fit);
    }
  where
    each : (i : ℕ) → i < suc o.done → refusal_of (get_or (e ∷ es) i 0) (before (e ∷ es) i s) ≡ 0
    each zero h = q
    each (suc i) h = rest.accepted i (le_of_suc-le-suc h)

    stays : (e : ℕ) (s : State) → refusal_of e s ≡ 0 → Fit s → Fit (step_of e s).state
    stays e s h fit = rw (accepted-step e s h) (accepted-fit e s fit)

pub from-steps : (es : List ℕ) (s : State) → Fit s → StepByStep es s (run_from 0 es s)
unfolding run_from
from-steps [] s fit = nothing-done s 0 (fit-entry s fit)
from-steps (e ∷ es) s fit = go (refusal_of e s) refl (from-steps es (accepted e s).state (accepted-fit e s fit))
  where
    go :
        (k : ℕ) → refusal_of e s ≡ k → StepByStep es (accepted e s).state (run_from 0 es (accepted e s).state)
        → StepByStep (e ∷ es) s (unless_stopped k 0 s (run_from 1 es (accepted e s).state))
    go (suc k) q rest = refused-first e es s k q
    go zero q rest =
        let o = run_from 0 es (accepted e s).state in
        let next : StepByStep es (step_of e s).state o = subst (λ (a : After). StepByStep es a.state o) (sym (accepted-step e s q)) rest in
        let all : StepByStep (e ∷ es) s (outcome (suc o.done) o.refusal o.state) = first_done e es s o q fit next in
        subst (StepByStep (e ∷ es) s) (sym (run-shift 1 es (accepted e s).state))
        (subst (λ (n : ℕ). StepByStep (e ∷ es) s (outcome n o.refusal o.state)) (sym (one-add o.done)) all)

-- refused at entry: so is the first event, if there is one
pub entry-stops : (es : List ℕ) (s : State) (k : ℕ) → entry_refusal s ≡ suc k → StepByStep es s (outcome 0 (suc k) s)
unfolding refusal_of
entry-stops [] s k q = nothing-done s (suc k) q
entry-stops (e ∷ es) s k q = refused-first e es s k (rw q)
