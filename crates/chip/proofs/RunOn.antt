-- A run in the words of `run_of` and `step_of` alone. These laws say the whole of it: no events, one event, and a run after a run.
use mathlib.Core.List.{List, [], ◌∷◌, ◌++◌}
use mathlib.Core.Path.{◌≡◌, refl, sym, ap, ◌∙◌}
use Prim.Native.Nat.{ℕ, zero, suc, ◌+◌}
use native.Mathlib.Nat.{add-zero}
use native.Mathlib.Omega.{arith}
use Rattle.registers.specs.State.{State}
use Rattle.engine.specs.Run.{run_from, run_of, unless_stopped}
use Rattle.engine.specs.Step.{refusal_of}
use Rattle.engine.proofs.Refusals.{entry-fit, fit-entry}
use Rattle.chip.specs.Promised.{Fit, Outcome, outcome, entry_refusal, accepted, step_of}
use Rattle.chip.specs.RunOn.{ran_one, more_done, then_run}
use Rattle.chip.specs.Runs.{onward, continued}
use Rattle.chip.proofs.LastWriter.{counts-accepted}
use Rattle.chip.proofs.Laws.{refused, run-append, run-stays-fit}
use Rattle.chip.proofs.Refusals.{accepted-step}
use Rattle.chip.proofs.Runs.{run-shift}

-- where 1 and 2 let the state pass, a run is what its events do
entered : (es : List ℕ) (s : State) → Fit s → run_of es s ≡ run_from 0 es s
unfolding run_of
entered es s fit = rw (fit-entry s fit)

pub run_none : (s : State) → Fit s → run_of [] s ≡ outcome 0 0 s
unfolding run_from
run_none s fit = entered [] s fit

event-entry : (e : ℕ) (s : State) (k : ℕ) → entry_refusal s ≡ suc k → refusal_of e s ≡ suc k
unfolding refusal_of
event-entry e s k q = rw q

-- an event is refused by the same number as its step, or leaves what its step leaves
pub run-one : (e : ℕ) (s : State) → run_of (e ∷ []) s ≡ ran_one (refusal_of e s) (step_of e s).state
unfolding run_of run_from
run-one e s = go (entry_refusal s) refl (refusal_of e s) refl
  where
    go :
        (x : ℕ) → entry_refusal s ≡ x → (k : ℕ) → refusal_of e s ≡ k
        → unless_stopped x 0 s (unless_stopped k 0 s (outcome 1 0 (accepted e s).state)) ≡ ran_one k (step_of e s).state
    go zero q zero h = rw (accepted-step e s h)
    go zero q (suc k) h = rw (refused e s k h)
    go (suc x) q k h = rw (sym h ∙ event-entry e s x q, refused e s x (event-entry e s x q))

run-entry : (es : List ℕ) (s : State) → (run_of es s).refusal ≡ 0 → Fit s
unfolding run_of
run-entry es s = by (entry_refusal s) refl
  where
    by : (x : ℕ) → entry_refusal s ≡ x → (unless_stopped x 0 s (run_from 0 es s)).refusal ≡ 0 → Fit s
    by zero q z = entry-fit s q
    by (suc x) q z = absurd (omega (arith, z))

-- a run over two lists is the run over the first, and where that was not stopped the run over the second
pub run-then : (xs ys : List ℕ) (s : State) → run_of (xs ++ ys) s ≡ then_run (run_of xs s) ys
run-then xs ys s = run-append xs ys s ∙ go (run_of xs s) (λ z. run-stays-fit xs s (run-entry xs s z))
  where
    go : (o : Outcome) → (o.refusal ≡ 0 → Fit o.state) → continued o ys ≡ then_run o ys
    go o fit = by o.refusal refl
      where
        on : Fit o.state → run_from o.done ys o.state ≡ more_done o.done (run_of ys o.state)
        on h = run-shift o.done ys o.state ∙ ap (λ (p : Outcome). more_done o.done p) (sym (entered ys o.state h))

        by :
            (k : ℕ) → o.refusal ≡ k
            → onward k o (run_from o.done ys o.state)
            ≡ onward k o (more_done o.done (run_of ys o.state))
        by zero q = on (fit q)
        by (suc k) q = refl

-- so a run is its events one by one: the first is refused, or the others are run from the state that its step leaves
pub run-stopped : (e : ℕ) (es : List ℕ) (s : State) (k : ℕ) → refusal_of e s ≡ suc k → run_of (e ∷ es) s ≡ outcome 0 (suc k) s
run-stopped e es s k h = run-then (e ∷ []) es s ∙ rw (run-one e s, h, refused e s k h)

pub run-next : (e : ℕ) (es : List ℕ) (s : State) → refusal_of e s ≡ 0 → run_of (e ∷ es) s ≡ more_done 1 (run_of es (step_of e s).state)
run-next e es s h = run-then (e ∷ []) es s ∙ rw (run-one e s, h)

-- a run adds to the count as many as it has done
pub run-counts : (es : List ℕ) (s : State) → (run_of es s).state.count ≡ s.count + (run_of es s).done
unfolding run_of run_from
run-counts es s = by (entry_refusal s)
  where
    from : (es : List ℕ) (s : State) → (run_from 0 es s).state.count ≡ s.count + (run_from 0 es s).done
    from [] s = sym (add-zero s.count)
    from (e ∷ es) s = go (refusal_of e s) (from es (accepted e s).state)
      where
        go :
            (k : ℕ) → (run_from 0 es (accepted e s).state).state.count ≡ (accepted e s).state.count + (run_from 0 es (accepted e s).state).done
            → (unless_stopped k 0 s (run_from 1 es (accepted e s).state)).state.count ≡ s.count + (unless_stopped k 0 s (run_from 1 es (accepted e s).state)).done
        go zero h = rw (run-shift 1 es (accepted e s).state) (h ∙ omega (arith, counts-accepted e s))
        go (suc k) h = sym (add-zero s.count)

    by : (x : ℕ) → (unless_stopped x 0 s (run_from 0 es s)).state.count ≡ s.count + (unless_stopped x 0 s (run_from 0 es s)).done
    by zero = from es s
    by (suc x) = sym (add-zero s.count)
