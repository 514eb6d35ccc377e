-- Whole event lines in one run: they come to what their bytes come to one by one.
use mathlib.Core.Path.{◌≡◌, refl, sym, ap, subst, ◌∙◌}
use mathlib.Core.Bool.{Bool, true, false, cond}
use mathlib.Core.List.{List, [], ◌∷◌, ◌++◌}
use Prim.Native.Nat.{ℕ, zero, suc, ◌-◌, ◌<◌, ◌≤◌}
use native.Mathlib.Omega.{arith}
use lib.Dec.{eqb}
use lib.ListN.{length, take, drop}
use Rattle.registers.specs.State.{State}
use Rattle.std.specs.Prelude.{Some}
use Rattle.text.specs.Decimal.{number_of, decimal}
use Rattle.text.specs.Text.{count_of}
use Rattle.text.proofs.Printing.{read_back, decimal-free}
use Rattle.engine.specs.PastEntry.{run_past_entry}
use Rattle.chip.specs.Promised.{Fit, Outcome, run_of, refusal_of, step_of}
use Rattle.chip.specs.RunOn.{ran_one}
use Rattle.chip.proofs.Laws.{stays_fit, run-stays-fit, run-past-entry}
use Rattle.chip.proofs.RunOn.{run_none, run-one, run-next, run-stopped}
use Rattle.capture_lines.specs.declared.LineSoFar.{LineSoFar}
use Rattle.capture_lines.specs.declared.LineSoFar.TheVariants.{Empty, Number}
use Rattle.capture_lines.specs.declared.EventLines.{EventLines}
use Rattle.capture_lines.specs.Events.{event_lines, Small, lines_from, counted, over, LinesRead}
use Rattle.capture_lines.specs.Line.{newline}
use Rattle.capture_lines.specs.SoFar.{with_byte, with_bytes, of_number, event_line}
use Rattle.capture_lines.proofs.Laws.{event-line}
use Rattle.capture_lines.proofs.WholeLines.{none-near-end, lines-had}
use Rattle.capture.specs.Feeding.{Playing, playing, played, ended_line, bytes_fed}
use Rattle.capture.specs.Lines.{at_a_time, LinesRun, PartlyFed}
use Rattle.capture.specs.Where.{Passed}
use Rattle.capture.proofs.Refusals.{after-allowed}
use Rattle.capture.proofs.Whole.{stuck}

-- ---- one line

-- bytes of which none is a newline join their line
joined : (p rest : List ℕ) (l : LineSoFar) (s : State) → count_of newline p ≡ 0 → bytes_fed (p ++ rest) (playing l s) ≡ bytes_fed rest (playing (with_bytes l p) s)
unfolding bytes_fed
joined [] rest l s f = refl
joined (x ∷ p) rest l s f = go (eqb x newline) f (λ g. joined p rest (with_byte l x) s g)
  where
    go :
        (t : Bool) → cond t (suc (count_of newline p)) (count_of newline p) ≡ 0
        → (count_of newline p ≡ 0 → bytes_fed (p ++ rest) (playing (with_byte l x) s) ≡ bytes_fed rest (playing (with_bytes (with_byte l x) p) s))
        → bytes_fed (p ++ rest) (cond t (ended_line l s) (playing (with_byte l x) s)) ≡ bytes_fed rest (playing (with_bytes (with_byte l x) p) s)
    go true f h = absurd (omega arith)
    go false f h = h f

number-line : (p : List ℕ) (e : ℕ) → number_of p ≡ Some e → event_line p ≡ Number e
unfolding number_of
number-line [] e h = absurd (let z : ◌≡◌ {A = ℕ} 0 1 = cc h in omega arith)
number-line (x ∷ p) e h = ap of_number h

line-fed : (e : ℕ) (rest : List ℕ) (s : State) → e < 1000 → bytes_fed (decimal e ++ newline ∷ rest) (playing Empty s) ≡ bytes_fed rest (played (run_of (e ∷ []) s))
unfolding bytes_fed ended_line
line-fed e rest s small =
    joined (decimal e) (newline ∷ rest) Empty s (decimal-free newline e (omega arith))
    ∙ ap (λ (l : LineSoFar). bytes_fed (newline ∷ rest) (playing l s)) (event-line (decimal e) ∙ number-line (decimal e) e (read_back e small))

-- ---- lines one after the other

pub lines-fed :
    (es rest : List ℕ) (s : State) → Small es → Fit s → bytes_fed (event_lines es rest) (playing Empty s) ≡ bytes_fed rest (played (run_of es s))
lines-fed [] rest s small fit = ap (λ (o : Outcome). bytes_fed rest (played o)) (sym (run_none s fit))
lines-fed (e ∷ es) rest s small fit =
    line-fed e (event_lines es rest) s small.0 ∙ go (refusal_of e s) refl (lines-fed es rest (step_of e s).state small.1 (stays_fit e s fit))
  where
    go :
        (k : ℕ) → refusal_of e s ≡ k
        → bytes_fed (event_lines es rest) (playing Empty (step_of e s).state) ≡ bytes_fed rest (played (run_of es (step_of e s).state))
        → bytes_fed (event_lines es rest) (played (run_of (e ∷ []) s)) ≡ bytes_fed rest (played (run_of (e ∷ es) s))
    go zero h behind =
        ap (λ (o : Outcome). bytes_fed (event_lines es rest) (played o)) (run-one e s ∙ ap (λ (k : ℕ). ran_one k (step_of e s).state) h)
        ∙ behind
        ∙ ap (λ (o : Outcome). bytes_fed rest (played o)) (sym (run-next e es s h))
    go (suc k) h behind =
        ap (λ (o : Outcome). bytes_fed (event_lines es rest) (played o)) (run-stopped e [] s k h)
        ∙ stuck (event_lines es rest) s
        ∙ sym (stuck rest s)
        ∙ ap (λ (o : Outcome). bytes_fed rest (played o)) (sym (run-stopped e es s k h))

-- ---- the lines that the code played

module _ (part : List ℕ) (from : ℕ) (s : State) where
  -- none, near the end of the part
  pub none-run : length part - 3 ≤ from → LinesRun part from s (playing Empty s) from
  unfolding run_past_entry
  none-run h =
      record {
        events = [];
        lines = sym (none-near-end at_a_time part from h);
        small = tt;
        starts = omega arith;
        within = λ inside. inside;
        written = refl;
        run = refl;
      }

  -- those that were read to an array
  pub lines-run :
      (p : Playing) (memory events : List ℕ) (r : EventLines) → LinesRead part from events r
      → r ≡ counted (lines_from at_a_time part from) → events ≡ over memory (lines_from at_a_time part from)
      → p ≡ played (run_past_entry 0 (take r.count events) s) → LinesRun part from s p r.at
  lines-run p memory events r lines read written run =
      record {
        events = take r.count events;
        lines = lines-had _ memory events r read written;
        small = lines.small;
        starts = lines.starts;
        within = lines.within;
        written = lines.written;
        run = run;
      }

module _ (part : List ℕ) (from : ℕ) (s : State) (p : Playing) (at : ℕ) (ran : LinesRun part from s p at) (fit : Fit s) where
  same_run : p ≡ played (run_of ran.events s)
  same_run = ran.run ∙ ap played (run-past-entry ran.events s fit)

  pub lines-passed : Passed p
  lines-passed =
      subst (λ (q : Playing). Passed q) (sym same_run)
      (record { fit = run-stays-fit ran.events s fit; line-allowed = after-allowed (run_of ran.events s).refusal })

  pub lines-leave : bytes_fed (drop at part) p ≡ bytes_fed (drop from part) (playing Empty s)
  lines-leave = rw (same_run, ran.written) (sym (lines-fed ran.events (drop at part) s ran.small fit))

  -- from a line that is found empty
  pub lines-played : (l : LineSoFar) → l ≡ Empty → from ≤ length part → PartlyFed part from (playing l s) p at
  lines-played l e h =
      rw e (record { starts = ran.starts; within = ran.within h; passed = lines-passed; leaves = lines-leave })
