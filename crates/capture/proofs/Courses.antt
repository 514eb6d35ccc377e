-- The course of a capture: every text is a capture whose events are all done, or is refused at its first line, or at a line after events that
-- are all done.
use mathlib.Core.Path.{◌≡◌, refl, sym, ap, ◌∙◌, subst}
use mathlib.Core.Bool.{Bool, true, false, cond}
use mathlib.Core.List.{List, [], ◌∷◌, ◌++◌}
use Prim.Native.Nat.{ℕ, zero, suc, ◌+◌, ◌<◌, ◌≤◌}
use native.Mathlib.Nat.{zero-add, add-zero}
use native.Mathlib.Omega.{arith}
use lib.Dec.{eqb}
use lib.ListN.{length}
use Rattle.registers.specs.State.{State}
use Rattle.std.specs.Prelude.{Option, Some, None}
use Rattle.text.specs.Decimal.{number_of, decimal}
use Rattle.text.specs.Text.{split, join, on_first}
use Rattle.text.proofs.Joining.{split-append, Free, join-split}
use Rattle.text.proofs.Printing.{Printed, printed}
use Rattle.text.proofs.Splitting.{split-some}
use Rattle.chip.specs.Promised.{Fit, Outcome, outcome, run_of, refusal_of, step_of}
use Rattle.chip.specs.RunOn.{more_done}
use Rattle.chip.proofs.Laws.{stays_fit}
use Rattle.chip.proofs.RunOn.{run_none, run-next, run-stopped}
use Rattle.capture_lines.specs.Line.{newline, pins_of}
use Rattle.capture.specs.Reading.{EventsRead, with_event, events_of, first_line, event_lines}
use Rattle.capture.specs.Replay.{Replay, refused_at, replayed, started, ended_by, replay_by, replay_of}
use Rattle.capture.specs.Where.{Lent, Small, AllDone, Stops, unended, no_number, refused_event, Replayed, NoFirstLine, StoppedAfter}
use Rattle.capture.proofs.Refusals.{replay-lent, started-fit}
use Rattle.capture.proofs.Whole.{play_from, none_left}
use Rattle.capture.proofs.Written.{first-free, first_read, first-written, replay-pins}

-- no piece of a text holds a newline
split-free : (b : ℕ) (s : List ℕ) → Free b (split b s)
split-free b [] = (refl, tt)
split-free b (x ∷ xs) = go (eqb x b) refl (split b xs) (split-free b xs)
  where
    go : (t : Bool) → eqb x b ≡ t → (ps : List (List ℕ)) → Free b ps → Free b (cond t ([] ∷ ps) (on_first x ps))
    go true e ps f = (refl, f)
    go false e [] f = (rw e, tt)
    go false e (p ∷ ps) f = (rw e f.0, f.1)

-- ---- event lines, n events being done

data Course (n : ℕ) (s : State) (text : List ℕ) (r : Replay) : Type 0 where
  through : (es : List ℕ) (end : State) → Small es → text ≡ event_lines es [] → AllDone es s end → r ≡ replayed end → Course n s text r
  stops :
      (es rest : List ℕ) (end : State) → Small es → text ≡ event_lines es rest → AllDone es s end → Stops rest end
      → r ≡ refused_at (n + length es + 2) end → Course n s text r

-- the first of the lines stops it
stops-here : (n : ℕ) (s : State) (text : List ℕ) (r : Replay) → Fit s → Stops text s → r ≡ refused_at (n + 2) s → Course n s text r
stops-here n s text r fit h e = stops [] text s tt refl (run_none s fit) h (e ∙ rw add-zero)

-- or is an event that is done
module _ (e : ℕ) (n : ℕ) (s : State) (small : e < 1000) (h : refusal_of e s ≡ 0) where
  one_more : (es : List ℕ) (end : State) → AllDone es (step_of e s).state end → AllDone (e ∷ es) s end
  one_more es end q =
      let more : 1 + length es ≡ length (e ∷ es) = omega arith in
      run-next e es s h ∙ ap (λ (o : Outcome). more_done 1 o) q ∙ ap (λ (k : ℕ). outcome k 0 end) more

  event-before : (text : List ℕ) (r : Replay) → Course (n + 1) (step_of e s).state text r → Course n s (decimal e ++ newline ∷ text) r
  event-before text r (through es end sm t q er) = through (e ∷ es) end (small, sm) (rw t) (one_more es end q) er
  event-before text r (stops es rest end sm t q st er) =
      let more : n + 1 + length es ≡ n + length (e ∷ es) = omega arith in
      stops (e ∷ es) rest end (small, sm) (rw t) (one_more es end q) st (er ∙ rw more)

  -- what the lines behind it come to
  played-next : (l : EventsRead) → play_from n (with_event (Some e) l) s ≡ play_from (n + 1) l (step_of e s).state
  played-next l =
      let o : Outcome = run_of l.events (step_of e s).state in
      ap (λ (r : Outcome). replay_by (more_done n r) l.all-good) (run-next e l.events s h)
      ∙ ap (λ (k : ℕ). ended_by o.refusal l.all-good k o.state) (omega arith)

no_text : (x : ℕ) (p : List ℕ) → x ∷ p ≡ [] → ⊥
no_text x p e = let z : ◌≡◌ {A = ℕ} 0 1 = cc e in omega arith

course :
    (p : List ℕ) (ps : List (List ℕ)) → Free newline (p ∷ ps) → (n : ℕ) (s : State) → Fit s
    → Course n s (join newline (p ∷ ps)) (play_from n (events_of (p ∷ ps)) s)
course [] [] f n s fit = through [] s tt refl (run_none s fit) (none_left n true s fit)
course (x ∷ p) [] f n s fit = stops-here n s (x ∷ p) _ fit (unended f.0 (λ e. no_text x p e)) (none_left n false s fit)
course p (q ∷ ps) f n s fit = go (number_of p) refl (λ k t h. course q ps f.1 k t h)
  where
    event :
        (e : ℕ) → Printed p e → (k : ℕ) → refusal_of e s ≡ k
        → (refusal_of e s ≡ 0 → Course (n + 1) (step_of e s).state (join newline (q ∷ ps)) (play_from (n + 1) (events_of (q ∷ ps)) (step_of e s).state))
        → Course n s (p ++ newline ∷ join newline (q ∷ ps)) (play_from n (with_event (Some e) (events_of (q ∷ ps))) s)
    event e is zero h rest =
        rw (is.in-decimal, played-next e n s is.small h (events_of (q ∷ ps))) (event-before e n s is.small h _ _ (rest h))
    event e is (suc k) h rest =
        stops-here n s _ _ fit
        (refused_event e (join newline (q ∷ ps)) is.small (λ z. let no : suc k ≡ 0 = sym h ∙ z in omega arith) (rw is.in-decimal))
        (rw (run-stopped e (events_of (q ∷ ps)).events s k h, add-zero))

    go :
        (v : Option ℕ) → number_of p ≡ v
        → ((k : ℕ) (t : State) → Fit t → Course k t (join newline (q ∷ ps)) (play_from k (events_of (q ∷ ps)) t))
        → Course n s (p ++ newline ∷ join newline (q ∷ ps)) (play_from n (with_event v (events_of (q ∷ ps))) s)
    go None e rest = stops-here n s _ _ fit (no_number p (join newline (q ∷ ps)) f.0 e refl) (none_left n false s fit)
    go (Some v) e rest = event v (printed p v e) (refusal_of v s) refl (λ h. rest (n + 1) (step_of v s).state (stays_fit v s fit))

body-course : (body : List ℕ) (s : State) → Fit s → Course 0 s body (play_from 0 (events_of (split newline body)) s)
body-course body s fit = go (split newline body) (split-some newline body) (split-free newline body) (join-split newline body)
  where
    go : (ps : List (List ℕ)) → 0 < length ps → Free newline ps → join newline ps ≡ body → Course 0 s body (play_from 0 (events_of ps) s)
    go [] l f e = absurd (omega arith)
    go (p ∷ ps) l f e = subst (λ (t : List ℕ). Course 0 s t (play_from 0 (events_of (p ∷ ps)) s)) e (course p ps f 0 s fit)

-- ---- the whole text

pub data Ended (text m w : List ℕ) : Type 0 where
  all-replayed : (end : State) → Replayed text m w end → replay_of text m w ≡ replayed end → Ended text m w
  refused-first : NoFirstLine text → replay_of text m w ≡ refused_at 1 (started 0 m w) → Ended text m w
  refused-after : (n : ℕ) (end : State) → StoppedAfter n text m w end → replay_of text m w ≡ refused_at (n + 2) end → Ended text m w

module _ (m w : List ℕ) (lent : Lent m w) where
  -- a first line with these pins
  with-pins : (pins : ℕ) (body : List ℕ) → pins ≤ 3 → Ended (first_line pins ++ newline ∷ body) m w
  with-pins pins body two = go (body-course body (started pins m w) (started-fit pins m w two lent))
    where
      read : EventsRead
      read = events_of (split newline body)

      whole : replay_of (first_line pins ++ newline ∷ body) m w ≡ play_from 0 read (started pins m w)
      whole =
          let o : Outcome = run_of read.events (started pins m w) in
          replay-pins m w lent pins body two ∙ ap (λ (k : ℕ). ended_by o.refusal read.all-good k o.state) (sym (zero-add o.done))

      go : Course 0 (started pins m w) body (play_from 0 read (started pins m w)) → Ended (first_line pins ++ newline ∷ body) m w
      go (through es end small t q r) =
          all-replayed end
          (record { lent = lent; pins = pins; events = es; pins_allowed = two; small = small; written = rw t; done = q })
          (whole ∙ r)
      go (stops es rest end small t q st r) =
          refused-after (length es) end
          (record {
            lent = lent;
            pins = pins;
            events = es;
            rest = rest;
            pins_allowed = two;
            small = small;
            as_many = refl;
            written = rw t;
            done = q;
            stops = st;
          })
          (whole ∙ r ∙ rw zero-add)

  -- no first line: a text that has one would be parted behind it
  no-first-line :
      (text : List ℕ) (p : List ℕ) (ps : List (List ℕ)) → split newline text ≡ p ∷ ps
      → ((pins : ℕ) → pins ≤ 3 → p ≡ first_line pins → (0 < length ps) → ⊥) → NoFirstLine text
  no-first-line text p ps e never pins body two t =
      let parted : p ∷ ps ≡ first_line pins ∷ split newline body = sym e ∙ rw t (split-append newline (first_line pins) body (first-free pins)) in
      let same : p ≡ first_line pins = cc parted in
      let behind : ps ≡ split newline body = cc parted in
      never pins two same (rw behind (split-some newline body))

  pub ended : (text : List ℕ) → Ended text m w
  ended text = go (split newline text) refl
    where
      by_pins : (p q : List ℕ) (ps : List (List ℕ)) → split newline text ≡ p ∷ q ∷ ps → (v : Option ℕ) → pins_of p ≡ v → Ended text m w
      by_pins p q ps e None v =
          refused-first
          (no-first-line text p (q ∷ ps) e
          (λ pins two same l. let z : None ≡ Some pins = sym v ∙ rw same (first_read pins two) in let y : ◌≡◌ {A = ℕ} 0 1 = cc z in omega arith))
          (replay-lent text m w lent ∙ rw (e, v))
      by_pins p q ps e (Some pins) v =
          let is = first-written p pins v in
          let text-is : text ≡ first_line pins ++ newline ∷ join newline (q ∷ ps) = sym (join-split newline text) ∙ rw (e, is.0) in
          subst (λ (t : List ℕ). Ended t m w) (sym text-is) (with-pins pins (join newline (q ∷ ps)) is.1)

      go : (ps : List (List ℕ)) → split newline text ≡ ps → Ended text m w
      go [] e = absurd (let none : 0 < length {A = List ℕ} [] = rw e at (split-some newline text) in omega arith)
      go (p ∷ []) e = refused-first (no-first-line text p [] e (λ pins two same l. omega arith)) (replay-lent text m w lent ∙ rw e)
      go (p ∷ q ∷ ps) e = by_pins p q ps e (pins_of p) refl
