-- Ways through the code, over plain variables.
use mathlib.Core.Bool.{Bool, true, false, cond}
use mathlib.Core.List.{List, [], ◌∷◌, ◌++◌, append-nil, append_assoc}
use mathlib.Core.Path.{◌≡◌, refl, sym, ap, ◌∙◌, subst}
use Prim.Native.Nat.{ℕ, zero, suc, ◌+◌, ◌<◌, ◌≤◌}
use native.Mathlib.Omega.{arith}
use borrow.Author.Tests.{eq-eqb}
use lib.Dec.{eqb}
use lib.ListN.{length, get_or, drop, drop_of_length-le, length-drop}
use Rattle.registers.specs.State.{State}
use Rattle.text.proofs.Finding.{drop-next}
use Rattle.print.specs.Chosen.{lines_of}
use Rattle.print.specs.declared.Printout.{Printout}
use Rattle.print.specs.Printed.{top}
use Rattle.print.specs.Prints.{Prints}
use Rattle.print.proofs.Writing.{prints_then, prints-same, prints_none}
use Rattle.refusals.specs.declared.Refusal.{Refusal}
use Rattle.refusals.specs.Numbers.{number}
use Rattle.refusals.proofs.Positive.{positive}
use Rattle.registers.specs.declared.Phase.{Phase}
use Rattle.registers.specs.declared.Phase.TheVariants.{Idle, AddressAwaited, Ignoring, ControlAwaited, OneByte, EndlessBytes, Reading, ReadEnded}
use Rattle.phases.specs.Phases.{is_addressed}
use Rattle.engine.specs.declared.answer.Answer.{Answer as Given}
use Rattle.engine.specs.declared.answer.Answer.TheVariants as code
use Rattle.engine.specs.declared.event.Event.{Event}
use Rattle.engine.specs.declared.event.Event.TheVariants.{Byte, Start, Stop, ReadAcknowledged, ReadNotAcknowledged, Reset, Sensor, Unlisted}
use Rattle.engine.specs.Answer.{Refused, Acknowledged, NotAcknowledged, given}
use Rattle.engine.specs.Event.{event_of}
use Rattle.engine.specs.Step.{step_of, acknowledge, content_of, on_byte, applied, counted, accepted, unless_refused}
use Rattle.engine.proofs.Numbers.{NoRefusal}
use Rattle.chip.specs.Promised.{After, refusal_of}
use Rattle.chip.proofs.Laws.{refused}
use Rattle.chip.proofs.RunOn.{run-one}
use Rattle.capture_lines.specs.declared.LineSoFar.{LineSoFar}
use Rattle.capture_lines.specs.declared.LineSoFar.TheVariants.{First, Pins, Empty, Number, BadFirst, Bad}
use Rattle.capture_lines.specs.declared.Scanned.{Scanned}
use Rattle.capture_lines.specs.Line.{newline}
use Rattle.capture_lines.specs.SoFar.{with_byte, scanned_from}
use Rattle.capture.specs.Feeding.{Playing, playing, line_after, ended_line}
use Rattle.event_words.specs.Line.{event_line}
use Rattle.capture_trace.specs.declared.tally.Tally.{Tally}
use Rattle.capture_trace.specs.Done.{DoneEvent, done_event, done_unless, done_events, done_at_end, done_in_bytes}
use Rattle.capture_trace.specs.Follow.{line_for, told_line, told_lines, tallied, tallied_over}

-- ---- an accepted event's answer is no refusal

module _ (p : Bool) (b : ℕ) (s : State) where
  acknowledged : NoRefusal (acknowledge p)
  unfolding acknowledge
  acknowledged = go p
    where
      go : (t : Bool) → NoRefusal (cond t Acknowledged NotAcknowledged)
      go true = tt
      go false = tt

answers-content : (rs : Bool) (p : Phase) (b : ℕ) (s : State) → NoRefusal (content_of rs p b s).answer
answers-content true p b s = tt
answers-content false p b s = tt

answers-byte : (p : Phase) (b : ℕ) (s : State) → NoRefusal (on_byte p b s).answer
answers-byte Idle b s = tt
answers-byte AddressAwaited b s = acknowledged (is_addressed s.chip.pins b) b s
answers-byte Ignoring b s = tt
answers-byte ControlAwaited b s = tt
answers-byte (OneByte rs) b s = answers-content rs ControlAwaited b s
answers-byte (EndlessBytes rs) b s = answers-content rs (EndlessBytes rs) b s
answers-byte Reading b s = tt
answers-byte ReadEnded b s = tt

answers : (v : Event) (s : State) → NoRefusal (applied v s).answer
unfolding applied
answers (Byte b) s = answers-byte s.chip.phase b s
answers Start s = tt
answers Stop s = tt
answers ReadAcknowledged s = tt
answers ReadNotAcknowledged s = tt
answers Reset s = tt
answers (Sensor value) s = tt
answers Unlisted s = tt

answers-accepted : (e : ℕ) (s : State) → NoRefusal (accepted e s).answer
unfolding accepted
answers-accepted e s = answers (event_of e) (counted s)

given-none : (g : Given) → NoRefusal (given g)
given-none code.Nothing = tt
given-none code.Acknowledged = tt
given-none code.NotAcknowledged = tt
given-none (code.Command a) = tt
given-none (code.Read b) = tt

-- ---- one event: a is what the step gave

module _ (e : ℕ) (s : State) where
  pub ended-number : (k : ℕ) → refusal_of e s ≡ k → playing (line_after k) (step_of e s).state ≡ ended_line (Number e) s
  unfolding ended_line
  ended-number zero h = let ran = run-one e s in rw (ran, h)
  ended-number (suc k) h = let ran = run-one e s in rw (ran, h)

  pub done-number : (k : ℕ) → refusal_of e s ≡ k → done_at_end (Number e) s ≡ done_unless k (done_event e s ∷ [])
  unfolding done_events
  done-number k h = rw h

  module _ (a : After) (is : a ≡ step_of e s) where
    pub when-refused : (r : ℕ) → a.answer ≡ Refused r → (playing Bad a.state ≡ ended_line (Number e) s) × (done_at_end (Number e) s ≡ [])
    unfolding step_of
    when-refused r told = go (refusal_of e s) refl
      where
        go : (k : ℕ) → refusal_of e s ≡ k → (playing Bad a.state ≡ ended_line (Number e) s) × (done_at_end (Number e) s ≡ [])
        go zero h =
            absurd
            (subst NoRefusal
            (ap (λ (x : After). x.answer) (ap (λ (k : ℕ). unless_refused k (accepted e s) s) (sym h) ∙ sym is) ∙ told)
            (answers-accepted e s))
        go (suc k) h = (ap (λ (x : After). playing Bad x.state) is ∙ ended-number (suc k) h, done-number (suc k) h)

    pub when-accepted :
        (g : Given) → a.answer ≡ given g
        → (playing Empty a.state ≡ ended_line (Number e) s) × (done_at_end (Number e) s ≡ done_event e s ∷ [])
    when-accepted g told = go (refusal_of e s) refl
      where
        go :
            (k : ℕ) → refusal_of e s ≡ k
            → (playing Empty a.state ≡ ended_line (Number e) s) × (done_at_end (Number e) s ≡ done_event e s ∷ [])
        go zero h = (ap (λ (x : After). playing Empty x.state) is ∙ ended-number 0 h, done-number 0 h)
        go (suc k) h = absurd (subst NoRefusal (sym told ∙ ap (λ (x : After). x.answer) (is ∙ refused e s k h)) (given-none g))

-- none done: nothing is tallied, and nothing told
pub none-tallied : {ds : List DoneEvent} (t : Tally) → ds ≡ [] → t ≡ tallied_over ds t
none-tallied t e = rw e

pub none_told : {ds : List DoneEvent} (told : Bool) (p : Printout) → length p.out.now ≤ top → ds ≡ [] → Prints p (told_lines told ds) p
none_told told p h e = prints-same (ap (told_lines told) (sym e)) (go told)
  where
    go : (b : Bool) → Prints p (told_lines b []) p
    go true = prints_none p h
    go false = prints_none p h

-- one done
module _ (e : ℕ) (s : State) (a : After) (is : a ≡ step_of e s) {ds : List DoneEvent} (one : ds ≡ done_event e s ∷ []) where
  pub one-tallied : (t r : Tally) → r ≡ tallied a.answer t → r ≡ tallied_over ds t
  one-tallied t r h = h ∙ ap (λ (x : After). tallied x.answer t) is ∙ ap (λ (xs : List DoneEvent). tallied_over xs t) (sym one)

  pub one_told :
      (told : Bool) {p q : Printout} → Prints p (told_line told e s.chip s.count a.answer) q → Prints p (told_lines told ds) q
  one_told told w =
      prints-same (go told ∙ ap (told_lines told) (sym one)) w
    where
      go : (b : Bool) → told_line b e s.chip s.count a.answer ≡ told_lines b (done_event e s ∷ [])
      go true = ap (λ (x : After). event_line e s.chip s.count x.answer) is ∙ sym (append-nil (line_for (done_event e s)))
      go false = refl

-- ---- a newline behind a line of a known kind

pub end_known :
    (known : LineSoFar) {line : LineSoFar} (s : State) (told : Bool) (t : Tally) {p : Playing} {r : Tally} {o q : Printout} → line ≡ known
    → (p ≡ ended_line known s) × ((r ≡ tallied_over (done_at_end known s) t) × Prints o (told_lines told (done_at_end known s)) q)
    → (p ≡ ended_line line s) × ((r ≡ tallied_over (done_at_end line s) t) × Prints o (told_lines told (done_at_end line s)) q)
end_known known s told t e h = rw e h

-- ---- a line that is no event's

pub no_event : (l : LineSoFar) (s : State) → ((e : ℕ) → l ≡ Number e → ⊥) → done_at_end l s ≡ []
no_event (First k) s h = refl
no_event (Pins p) s h = refl
no_event Empty s h = refl
no_event (Number e) s h = absurd (h e refl)
no_event BadFirst s h = refl
no_event Bad s h = refl

-- ---- the bytes of a part

pub tallied-append : (xs ys : List DoneEvent) (t : Tally) → tallied_over (xs ++ ys) t ≡ tallied_over ys (tallied_over xs t)
tallied-append [] ys t = refl
tallied-append (x ∷ xs) ys t = tallied-append xs ys _

pub told-append : (told : Bool) (xs ys : List DoneEvent) → told_lines told (xs ++ ys) ≡ told_lines told xs ++ told_lines told ys
told-append true [] ys = refl
told-append true (x ∷ xs) ys =
    ap (λ (r : List ℕ). line_for x ++ r) (told-append true xs ys) ∙ sym (append_assoc (line_for x) (lines_of line_for xs) (lines_of line_for ys))
told-append false xs ys = refl

pub none-in-end : (part : List ℕ) (at : ℕ) (p : Playing) → length part ≤ at → done_in_bytes (drop at part) p ≡ []
unfolding done_in_bytes
none-in-end part at p h = rw (drop_of_length-le part h)

-- what the scan passes over does no event
scans :
    (bs part : List ℕ) (at : ℕ) (l : LineSoFar) (s : State) → drop at part ≡ bs → at ≤ length part
    → done_in_bytes (drop at part) (playing l s)
    ≡ done_in_bytes (drop (scanned_from at bs l).at part) (playing (scanned_from at bs l).line s)
unfolding scanned_from done_in_bytes
scans [] part at l s e h = refl
scans (b ∷ bs) part at l s e h = go (eqb b newline) refl (scans bs part (at + 1) (with_byte l b) s behind inside)
  where
    inside : at + 1 ≤ length part
    inside = omega (arith, simp length-drop at (ap length e))

    here : get_or part at 0 ∷ drop (at + 1) part ≡ b ∷ bs
    here = sym (drop-next part at (omega (arith, inside))) ∙ e

    behind : drop (at + 1) part ≡ bs
    behind = cc here

    joins : eqb b newline ≡ false → done_in_bytes (drop at part) (playing l s) ≡ done_in_bytes (drop (at + 1) part) (playing (with_byte l b) s)
    joins t = rw (e, behind, t)

    go :
        (t : Bool) → eqb b newline ≡ t
        → done_in_bytes (drop (at + 1) part) (playing (with_byte l b) s)
        ≡ done_in_bytes (drop (scanned_from (at + 1) bs (with_byte l b)).at part) (playing (scanned_from (at + 1) bs (with_byte l b)).line s)
        → done_in_bytes (drop at part) (playing l s)
        ≡ done_in_bytes (drop (cond t (record { line = l; at = at }) (scanned_from (at + 1) bs (with_byte l b))).at part)
        (playing (cond t (record { line = l; at = at }) (scanned_from (at + 1) bs (with_byte l b))).line s)
    go true t rest = refl
    go false t rest = joins t ∙ rest

pub none-scanned :
    (part : List ℕ) (at : ℕ) (l : LineSoFar) (s : State) (r : Scanned) → r ≡ scanned_from at (drop at part) l → at ≤ length part
    → done_in_bytes (drop at part) (playing l s) ≡ done_in_bytes (drop r.at part) (playing r.line s)
none-scanned part at l s r e h = rw e (scans (drop at part) part at l s refl h)

-- the newline there: one line of the part, then the others
module _ (part : List ℕ) (at : ℕ) (line : LineSoFar) (s : State) {p : Playing} (h : at < length part) (n : get_or part at 0 ≡ newline) (e : p ≡ ended_line line s)
  where
    pub done-at-newline : done_in_bytes (drop at part) (playing line s) ≡ done_at_end line s ++ done_in_bytes (drop (at + 1) part) p
    unfolding done_in_bytes
    done-at-newline = rw (drop-next part at h, eq-eqb (get_or part at 0) newline n, e)

    pub turn-tallied :
        (t : Tally) {u : Tally} → u ≡ tallied_over (done_at_end line s) t
        → tallied_over (done_in_bytes (drop (at + 1) part) p) u ≡ tallied_over (done_in_bytes (drop at part) (playing line s)) t
    turn-tallied t w =
        ap (tallied_over (done_in_bytes (drop (at + 1) part) p)) w
        ∙ sym (tallied-append (done_at_end line s) (done_in_bytes (drop (at + 1) part) p) t)
        ∙ ap (λ (ds : List DoneEvent). tallied_over ds t) (sym done-at-newline)

-- ---- what was told so far, of all, where the rest is still to be done

pub record ToldSoFar (told : Bool) (all rest : List DoneEvent) (o q : Printout) : Type 0 where
  pub so-far : List DoneEvent
  pub all-done : so-far ++ rest ≡ all
  pub printed : Prints o (told_lines told so-far) q

pub told-begun : (told : Bool) (all : List DoneEvent) (o : Printout) → length o.out.now ≤ top → ToldSoFar told all all o o
told-begun told all o h = record { so-far = []; all-done = refl; printed = none_told told o h refl }

pub told-passed :
    {told : Bool} {all rest rest' : List DoneEvent} {o q : Printout} → rest ≡ rest' → ToldSoFar told all rest o q → ToldSoFar told all rest' o q
told-passed e t = rw (← e) t

pub told-next :
    {told : Bool} {all rest : List DoneEvent} {o q r : Printout} (ds : List DoneEvent) → ToldSoFar told all (ds ++ rest) o q → Prints q (told_lines told ds) r
    → ToldSoFar told all rest o r
told-next {told} {rest = rest} ds t w =
    record {
      so-far = t.so-far ++ ds;
      all-done = append_assoc t.so-far ds rest ∙ t.all-done;
      printed = prints-same (sym (told-append told t.so-far ds)) (prints_then t.printed w);
    }

pub told-ended : {told : Bool} {all rest : List DoneEvent} {o q : Printout} → rest ≡ [] → ToldSoFar told all rest o q → Prints o (told_lines told all) q
told-ended {told} e t =
    prints-same (ap (told_lines told) (sym (append-nil t.so-far) ∙ ap (λ (ds : List DoneEvent). t.so-far ++ ds) (sym e) ∙ t.all-done)) t.printed

-- ---- a whole part: r is what the code found, k what the definition says

-- none is done where it was refused
pub refused_none : (r : Refusal) (k : ℕ) (ds : List DoneEvent) → number r ≡ k → done_unless k ds ≡ []
refused_none r zero ds e = absurd (omega (arith, positive r, e))
refused_none r (suc k) ds e = refl
