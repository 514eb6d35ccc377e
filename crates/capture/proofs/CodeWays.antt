-- Ways through the code, over plain variables.
use mathlib.Core.Path.{◌≡◌, refl, sym, ap, subst, ◌∙◌}
use mathlib.Core.Bool.{Bool, true, false, cond}
use mathlib.Core.List.{List, [], ◌∷◌}
use Prim.Native.Nat.{ℕ, zero, suc, ◌+◌, ◌<◌, ◌≤◌}
use native.Mathlib.Omega.{arith}
use borrow.Author.Tests.{eq-eqb, eqb-true}
use lib.Dec.{eqb}
use lib.ListN.{length, get_or, drop, drop_of_length-le, length-drop}
use Rattle.std.specs.Prelude.{Result, Ok, Err}
use Rattle.refusals.specs.declared.Refusal.{Refusal}
use Rattle.refusals.specs.Numbers.{number}
use Rattle.refusals.proofs.Positive.{positive}
use Rattle.registers.specs.State.{State}
use Rattle.text.proofs.Finding.{drop-next}
use Rattle.chip.specs.Promised.{Outcome, Fit}
use Rattle.chip.proofs.Laws.{run-past-entry}
use Rattle.capture_lines.specs.declared.LineSoFar.{LineSoFar}
use Rattle.capture_lines.specs.declared.LineSoFar.TheVariants.{First, Pins, Empty, Number, BadFirst, Bad}
use Rattle.capture_lines.specs.declared.Scanned.{Scanned}
use Rattle.capture_lines.specs.Line.{newline}
use Rattle.capture_lines.specs.SoFar.{with_byte, scanned_from}
use Rattle.capture.specs.declared.Capture.{Capture}
use Rattle.capture.specs.declared.End.{End}
use Rattle.capture.specs.Feeding.{Playing, playing, line_after, played, ended_line, ended_past_entry, with_next, bytes_fed, line_allowed, PartFed, fed_unless}
use Rattle.capture.specs.Feeding.{end_unless, finish_of, finish_fed}
use Rattle.capture.specs.Lines.{PartlyFed}
use Rattle.capture.specs.Where.{Passed}
use Rattle.capture.proofs.Refusals.{with-byte-allowed, ended-passed}

-- ---- one event

pub after-refused : (r : Refusal) → Bad ≡ line_after (number r)
after-refused r = go (number r) (positive r)
  where
    go : (k : ℕ) → 0 < k → Bad ≡ line_after k
    go zero h = absurd (omega arith)
    go (suc k) h = refl

pub after-played : (o p : Outcome) (l : LineSoFar) → o ≡ p → l ≡ line_after o.refusal → playing l o.state ≡ played p
after-played o p l h hl = rw (hl, h)

-- past the entry that lets s pass, it ends as the definition says
pub same_ended : (l : LineSoFar) (s : State) → Fit s → ended_past_entry l s ≡ ended_line l s
unfolding ended_past_entry ended_line
same_ended (First k) s fit = refl
same_ended (Pins p) s fit = refl
same_ended Empty s fit = refl
same_ended (Number e) s fit = ap played (run-past-entry (e ∷ []) s fit)
same_ended BadFirst s fit = refl
same_ended Bad s fit = refl

-- ---- refusals: r is what the code found, k what the definition says

module _ (r : Refusal) (k : ℕ) (e : number r ≡ k) where
  pub part-refused : (next p : Playing) → record { refusal = number r; after = p } ≡ fed_unless k next p
  part-refused next p = rw e (go k e)
    where
      go : (j : ℕ) → number r ≡ j → record { refusal = j; after = p } ≡ fed_unless j next p
      go zero z = absurd (omega (arith, positive r))
      go (suc j) z = refl

  pub end_refused : (end : End) → Err (number r) ≡ end_unless k end
  end_refused end = rw e (go k e)
    where
      go : (j : ℕ) → number r ≡ j → Err j ≡ end_unless j end
      go zero z = absurd (omega (arith, positive r))
      go (suc j) z = refl

-- what is fed no more ends as it stands
pub stands_finished :
    {f : Result Capture Refusal} {c : Capture} {end : Result End ℕ} → f ≡ Ok c → end ≡ finish_of 0 c → end ≡ finish_fed f
stands_finished h e = e ∙ ap finish_fed (sym h)

pub part-fed : (p q : Playing) → p ≡ q → ◌≡◌ {A = PartFed} (record { refusal = 0; after = p }) (record { refusal = 0; after = q })
part-fed p q e = rw e

-- ---- the bytes of a part

pub feed-ends : (part : List ℕ) (at : ℕ) (p : Playing) → length part ≤ at → bytes_fed (drop at part) p ≡ p
unfolding bytes_fed
feed-ends part at p h = rw (drop_of_length-le part h)

-- what the scan leaves is still to be fed
pub record Scan (part : List ℕ) (at : ℕ) (l : LineSoFar) (r : Scanned) : Type 0 where
  pub starts : at ≤ r.at
  pub within : r.at ≤ length part
  pub stops : r.at < length part → get_or part r.at 0 ≡ newline
  pub leaves : (s : State) → bytes_fed (drop at part) (playing l s) ≡ bytes_fed (drop r.at part) (playing r.line s)
  pub line-allowed : line_allowed l ≡ true → line_allowed r.line ≡ true

-- a byte that joins its line
byte-joins :
    (bs part : List ℕ) (at b : ℕ) (l : LineSoFar) (s : State) → drop at part ≡ b ∷ bs → drop (at + 1) part ≡ bs → eqb b newline ≡ false
    → bytes_fed (drop at part) (playing l s) ≡ bytes_fed (drop (at + 1) part) (playing (with_byte l b) s)
unfolding bytes_fed
byte-joins bs part at b l s e en t = rw (e, en, t)

scans : (bs part : List ℕ) (at : ℕ) (l : LineSoFar) → drop at part ≡ bs → at ≤ length part → Scan part at l (scanned_from at bs l)
unfolding scanned_from
scans [] part at l e h = record { starts = omega arith; within = h; stops = λ i. absurd (past i); leaves = λ s. refl; line-allowed = λ a. a }
  where
    past : at < length part → ⊥
    past i = let z : ◌≡◌ {A = ℕ} 0 1 = cc (drop-next part at i) in omega arith
scans (b ∷ bs) part at l e h = go (eqb b newline) refl (scans bs part (at + 1) (with_byte l b) behind inside)
  where
    inside : at + 1 ≤ length part
    inside = omega (arith, simp length-drop at (ap length e))

    here : get_or part at 0 ∷ drop (at + 1) part ≡ b ∷ bs
    here = sym (drop-next part at (omega (arith, inside))) ∙ e

    byte : get_or part at 0 ≡ b
    byte = cc here

    behind : drop (at + 1) part ≡ bs
    behind = cc here

    go :
        (t : Bool) → eqb b newline ≡ t → Scan part (at + 1) (with_byte l b) (scanned_from (at + 1) bs (with_byte l b))
        → Scan part at l (cond t (record { line = l; at = at }) (scanned_from (at + 1) bs (with_byte l b)))
    go true t rest = record { starts = omega arith; within = h; stops = λ i. byte ∙ eqb-true b newline t; leaves = λ s. refl; line-allowed = λ a. a }
    go false t rest =
        record {
          starts = omega (arith, rest.starts);
          within = rest.within;
          stops = rest.stops;
          leaves = λ s. byte-joins bs part at b l s e behind t ∙ rest.leaves s;
          line-allowed = λ a. rest.line-allowed (with-byte-allowed l b);
        }

pub scanned : (part : List ℕ) (at : ℕ) (l : LineSoFar) (r : Scanned) → r ≡ scanned_from at (drop at part) l → at ≤ length part → Scan part at l r
scanned part at l r e h = rw e (scans (drop at part) part at l refl h)

-- the newline there, and what it leaves
at-newline : (b : ℕ) (line : LineSoFar) (s : State) → b ≡ newline → with_next b (playing line s) ≡ ended_line line s
at-newline b line s n = simp (eq-eqb _ _ n)

pub line-ends :
    (part : List ℕ) (at : ℕ) (line : LineSoFar) (s : State) (p : Playing) → at < length part → get_or part at 0 ≡ newline → p ≡ ended_line line s
    → bytes_fed (drop (at + 1) part) p ≡ bytes_fed (drop at part) (playing line s)
unfolding bytes_fed
line-ends part at line s p h n e =
    rw (drop-next part at h) (ap (λ (q : Playing). bytes_fed (drop (at + 1) part) q) (e ∙ sym (at-newline (get_or part at 0) line s n)))

-- ---- on the way through a part, from p

module _ (part : List ℕ) (from : ℕ) (p : Playing) where
  pub then-fed : (q r : Playing) (at at' : ℕ) → PartlyFed part from p q at → PartlyFed part at q r at' → PartlyFed part from p r at'
  then-fed q r at at' h g =
      record { starts = omega (arith, h.starts, g.starts); within = g.within; passed = g.passed; leaves = g.leaves ∙ h.leaves }

  module _ (at : ℕ) (l : LineSoFar) (s : State) (so_far : PartlyFed part from p (playing l s) at) where
    pub scan-fed : (r : Scanned) → r ≡ scanned_from at (drop at part) l → PartlyFed part from p (playing r.line s) r.at
    scan-fed r e =
        let scan = scanned part at l r e so_far.within in
        record {
          starts = omega (arith, so_far.starts, scan.starts);
          within = scan.within;
          passed = record { fit = so_far.passed.fit; line-allowed = scan.line-allowed so_far.passed.line-allowed };
          leaves = sym (scan.leaves s) ∙ so_far.leaves;
        }

    pub end-fed :
        (q : Playing) → at < length part → get_or part at 0 ≡ newline → q ≡ ended_past_entry l s → PartlyFed part from p q (at + 1)
    end-fed q h n e =
        let end = e ∙ same_ended l s so_far.passed.fit in
        record {
          starts = omega (arith, so_far.starts);
          within = omega arith;
          passed = subst Passed (sym end) (ended-passed l s so_far.passed.fit so_far.passed.line-allowed);
          leaves = line-ends part at l s q h n end ∙ so_far.leaves;
        }
