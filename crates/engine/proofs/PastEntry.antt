-- From what 1 and 2 let pass, a step and a run need not test them again: each accepted event leaves such a state. And which numbers are left, from any
-- state.
use mathlib.Core.Bool.{Bool, true, false, not, ◌&&◌}
use mathlib.Core.List.{List, [], ◌∷◌}
use mathlib.Core.Logic.{inl, inr}
use mathlib.Core.Path.{◌≡◌, refl, sym, ap, ap₂}
use Prim.Native.Nat.{ℕ, zero, suc, ◌+◌, ◌-◌, ◌^◌}
use native.Mathlib.Nat.{suc-ne-zero}
use lib.Dec.{eqb}
use Rattle.registers.specs.Refusals.{refuse, ◌then◌, is_listed_event}
use Rattle.registers.specs.State.{State}
use Rattle.commands.specs.declared.answer.CommandAnswer.{CommandAnswer}
use Rattle.display.specs.Display.{pixels_fit}
use Rattle.engine.specs.Event.{counts_as}
use Rattle.engine.specs.PastEntry.{refusal_past_entry, PastEntryNumber, step_past_entry, run_past_entry, tally_past_entry}
use Rattle.engine.specs.Run.{Outcome, unless_stopped, run_from, run_of, count_unless, tally}
use Rattle.engine.specs.Step.{Fit, entry_refusal, event_refusal, is_display_byte, pixel_refusal, refusal_of, accepted, unless_refused, step_of}
use Rattle.engine.proofs.Allowed.{accepted-fit}
use Rattle.engine.proofs.Refusals.{entry-fit, fit-entry}
use Rattle.engine.proofs.Tallies.{tally-refused}

same-refusal : (e : ℕ) (s : State) → Fit s → refusal_past_entry e s ≡ refusal_of e s
unfolding refusal_of refusal_past_entry
same-refusal e s fit = rw (fit-entry s fit)

-- 1 and 2 are not among the numbers by which it refuses, from any state
past-entry-number : (e : ℕ) (s : State) → PastEntryNumber (refusal_past_entry e s)
unfolding refusal_past_entry event_refusal pixel_refusal
past-entry-number e s =
    go (not (is_listed_event e)) (eqb s.count (2 ^ 64 - 1))
    (is_display_byte e s.chip.phase && not (pixels_fit s.chip.registers s.chip.pixels s.memory e))
  where
    go : (unlisted full out : Bool) → PastEntryNumber ((refuse unlisted 3 then refuse full 4) then refuse out 16)
    go true full out = inr (inl refl)
    go false true out = inr (inr (inl refl))
    go false false true = inr (inr (inr refl))
    go false false false = inl refl

pub run-past-entry-number : (n : ℕ) (es : List ℕ) (s : State) → PastEntryNumber (run_past_entry n es s).refusal
unfolding run_past_entry
run-past-entry-number n [] s = inl refl
run-past-entry-number n (e ∷ es) s = go (refusal_past_entry e s) (past-entry-number e s) _ (run-past-entry-number (n + 1) es (accepted e s).state)
  where
    go : (k : ℕ) → PastEntryNumber k → (rest : Outcome) → PastEntryNumber rest.refusal → PastEntryNumber (unless_stopped k n s rest).refusal
    go zero one rest later = later
    go (suc k) one rest later = one

pub same_step : (e : ℕ) (s : State) → Fit s → step_past_entry e s ≡ step_of e s
unfolding step_past_entry step_of
same_step e s fit = ap (λ (k : ℕ). unless_refused k (accepted e s) s) (same-refusal e s fit)

same_run : (n : ℕ) (es : List ℕ) (s : State) → Fit s → run_past_entry n es s ≡ run_from n es s
unfolding run_past_entry run_from
same_run n [] s fit = refl
same_run n (e ∷ es) s fit =
    ap₂ (λ (k : ℕ) (rest : Outcome). unless_stopped k n s rest) (same-refusal e s fit)
    (same_run (n + 1) es (accepted e s).state (accepted-fit e s fit))

same-tally : (k : CommandAnswer) (es : List ℕ) (s : State) → Fit s → tally_past_entry k es s ≡ tally k es s
unfolding tally_past_entry tally
same-tally k [] s fit = refl
same-tally k (e ∷ es) s fit =
    ap₂ (λ (x rest : ℕ). count_unless x (counts_as k (accepted e s).answer + rest)) (same-refusal e s fit)
    (same-tally k es (accepted e s).state (accepted-fit e s fit))

-- ---- with the entry: what it refuses, or what comes past it

module _ (es : List ℕ) (s : State) where
  pub tested-at-entry : run_of es s ≡ unless_stopped (entry_refusal s) 0 s (run_past_entry 0 es s)
  unfolding run_of
  tested-at-entry = go (entry_refusal s) refl
    where
      go : (k : ℕ) → entry_refusal s ≡ k → unless_stopped k 0 s (run_from 0 es s) ≡ unless_stopped k 0 s (run_past_entry 0 es s)
      go zero q = sym (same_run 0 es s (entry-fit s q))
      go (suc k) q = refl

  pub tallied-from-entry : (b : CommandAnswer) → tally b es s ≡ count_unless (entry_refusal s) (tally_past_entry b es s)
  tallied-from-entry b = go (entry_refusal s) refl
    where
      go : (k : ℕ) → entry_refusal s ≡ k → tally b es s ≡ count_unless k (tally_past_entry b es s)
      go zero q = sym (same-tally b es s (entry-fit s q))
      go (suc k) q = sym (tally-refused b es s (suc k) (sym q) (suc-ne-zero k))
