-- Ways through the code, over plain variables: of an event that brings no content, of an answer, and of the entry of a run.
use mathlib.Core.Path.{◌≡◌, refl, sym, ap, ◌∙◌, subst}
use mathlib.Core.Bool.{Bool, true, false, cond, not, ◌&&◌}
use mathlib.Core.List.{List, [], ◌∷◌}
use Prim.Native.Nat.{ℕ, zero, suc, ◌+◌}
use native.Mathlib.Nat.{suc-ne-zero}
use native.Mathlib.Omega.{arith}
use lib.Dec.{eqb}
use Rattle.registers.specs.declared.Chip.{Chip}
use Rattle.registers.specs.declared.Phase.{Phase}
use Rattle.registers.specs.declared.Phase.TheVariants.{Idle, AddressAwaited, Ignoring, ControlAwaited, OneByte, EndlessBytes, Reading, ReadEnded}
use Rattle.registers.specs.declared.PixelCounts.{PixelCounts}
use Rattle.registers.specs.declared.Registers.{Registers}
use Rattle.registers.specs.Refusals.{refuse, ◌then◌}
use Rattle.registers.specs.State.{State, state}
use Rattle.commands.specs.declared.answer.CommandAnswer.{CommandAnswer}
use Rattle.commands.specs.declared.answer.CommandAnswer.TheVariants.{Taken, Unknown, OutOfRange}
use Rattle.phases.specs.declared.interface.Interface.{Interface}
use Rattle.phases.specs.Interface.{whole}
use Rattle.phases.specs.Phases.{awaits_content}
use Rattle.engine.specs.Answer.{Answer, Refused, Nothing, Acknowledged, NotAcknowledged, Command, Read}
use Rattle.engine.specs.declared.event.Event.{Event}
use Rattle.engine.specs.declared.event.Event.TheVariants.{Byte, Start, Stop, ReadAcknowledged, ReadNotAcknowledged, Reset, Sensor, Unlisted}
use Rattle.engine.specs.Event.{event_of, is_byte, counts_as}
use Rattle.engine.specs.Loop.{registers_upon, answer_of, commanded_by, command_answered}
use Rattle.engine.specs.PastEntry.{answer_unless, refusal_past_entry, step_past_entry, run_past_entry, tally_past_entry, entry_unless, run_from_entry, tally_from_entry, step_from_entry}
use Rattle.engine.specs.Run.{Outcome, outcome, run_of, unless_stopped, count_unless, tally}
use Rattle.engine.specs.Step.{After, acknowledge, content_of, on_byte, applied, accepted, counted}
use Rattle.engine.specs.Step.{entry_refusal, refusal_of, unless_refused, step_of}
use Rattle.engine.proofs.PastEntry.{tested-at-entry, tallied-from-entry}

-- what fits is what 16 does not refuse
pub fit_number : (t : Bool) → t ≡ eqb (refuse (not t) 16) 0
fit_number true = refl
fit_number false = refl

-- ---- an event that brings no content

-- the phase is known: what is right in that phase is right
pub in-known-phase : (known phase : Phase) (b : ℕ) (s s' : State) → phase ≡ known → s' ≡ (on_byte known b s).state → s' ≡ (on_byte phase b s).state
in-known-phase known phase b s s' e h = subst (λ (p : Phase). s' ≡ (on_byte p b s).state) (sym e) h

-- the phase is known, and is one that awaits content: that does not come here
pub no-content : (known phase : Phase) (s s' : State) → phase ≡ known → awaits_content known ≡ true → awaits_content phase ≡ false → s ≡ s'
no-content known phase s s' e t f = cc

-- the event is known
pub in-known-event :
    (known event : Event) (r : Registers) (i i' : Interface) (n : PixelCounts) (m w : List ℕ) (k : ℕ) → event ≡ known
    → state (whole (registers_upon known r) i' n) m w k ≡ (applied known (state (whole r i n) m w k)).state
    → state (whole (registers_upon event r) i' n) m w k ≡ (applied event (state (whole r i n) m w k)).state
in-known-event known event r i i' n m w k e h =
    subst (λ (v : Event). state (whole (registers_upon v r) i' n) m w k ≡ (applied v (state (whole r i n) m w k)).state) (sym e) h

pub no-byte-content : (b : ℕ) (event : Event) (p : Phase) → event ≡ Byte b → is_byte event && awaits_content p ≡ false → awaits_content p ≡ false
no-byte-content b event p e h = sym (ap (λ (v : Event). is_byte v && awaits_content p) e) ∙ h

-- ---- an answer

pub unknown-told : (u o : ℕ) → (u ≡ 0 → ⊥) → Unknown ≡ command_answered u o
unknown-told zero o n = absurd (n refl)
unknown-told (suc u) o n = refl

pub range-told : (u o : ℕ) → u ≡ 0 → (o ≡ 0 → ⊥) → OutOfRange ≡ command_answered u o
range-told u zero e n = absurd (n refl)
range-told zero (suc o) e n = refl
range-told (suc u) (suc o) e n = absurd (suc-ne-zero u e)

-- the phase is known
pub answered-in-phase :
    (known phase : Phase) (b : ℕ) (s : State) (k : CommandAnswer) (a : Answer) → phase ≡ known → a ≡ commanded_by k (on_byte known b s).answer
    → a ≡ commanded_by k (on_byte phase b s).answer
answered-in-phase known phase b s k a e h = subst (λ (p : Phase). a ≡ commanded_by k (on_byte p b s).answer) (sym e) h

pub acknowledge-kept : (t : Bool) (k : CommandAnswer) → acknowledge t ≡ commanded_by k (acknowledge t)
unfolding acknowledge
acknowledge-kept true k = refl
acknowledge-kept false k = refl

pub content-answered : (rs : Bool) (p : Phase) (b : ℕ) (s : State) (k : CommandAnswer) → cond rs Acknowledged (Command k) ≡ commanded_by k (content_of rs p b s).answer
content-answered true p b s k = refl
content-answered false p b s k = refl

-- the event is known
pub answered-event :
    (known event : Event) (c : Chip) (k : CommandAnswer) (a : Answer) → event ≡ known → a ≡ commanded_by k (answer_of known c)
    → a ≡ commanded_by k (answer_of event c)
answered-event known event c k a e h = subst (λ (v : Event). a ≡ commanded_by k (answer_of v c)) (sym e) h

-- a command was answered as it counts
pub counted-answer : (a : Answer) (u o : ℕ) → u ≡ counts_as Unknown a → o ≡ counts_as OutOfRange a → commanded_by (command_answered u o) a ≡ a
counted-answer (Refused n) u o eu eo = refl
counted-answer Nothing u o eu eo = refl
counted-answer Acknowledged u o eu eo = refl
counted-answer NotAcknowledged u o eu eo = refl
counted-answer (Command Taken) u o eu eo = rw (eu, eo)
counted-answer (Command Unknown) u o eu eo = rw eu
counted-answer (Command OutOfRange) u o eu eo = rw (eu, eo)
counted-answer (Read b) u o eu eo = refl

-- it goes by the chip alone
pub answer-alone : (e : ℕ) (s : State) → answer_of (event_of e) s.chip ≡ (accepted e s).answer
unfolding accepted applied
answer-alone e s = go (event_of e)
  where
    go : (v : Event) → answer_of v s.chip ≡ (applied v (counted s)).answer
    go (Byte b) = by-phase s.chip.phase
      where
        by-rs : (rs : Bool) (p q : Phase) → (content_of rs p b (state s.chip [] [] 0)).answer ≡ (content_of rs q b (counted s)).answer
        by-rs true p q = refl
        by-rs false p q = refl

        by-phase : (p : Phase) → (on_byte p b (state s.chip [] [] 0)).answer ≡ (on_byte p b (counted s)).answer
        by-phase Idle = refl
        by-phase AddressAwaited = refl
        by-phase Ignoring = refl
        by-phase ControlAwaited = refl
        by-phase (OneByte rs) = by-rs rs ControlAwaited ControlAwaited
        by-phase (EndlessBytes rs) = by-rs rs (EndlessBytes rs) (EndlessBytes rs)
        by-phase Reading = refl
        by-phase ReadEnded = refl
    go Start = refl
    go Stop = refl
    go ReadAcknowledged = refl
    go ReadNotAcknowledged = refl
    go Reset = refl
    go (Sensor v) = refl
    go Unlisted = refl

-- ---- the entry of a run

-- y is what the code found, x what the definition says: nothing is done, or the events pass
pub entry-stops :
    (x y : ℕ) (s : State) (o : Outcome) (u r : ℕ) → y ≡ x → (y ≡ 0 → ⊥)
    → (outcome 0 y s ≡ unless_stopped x 0 s o) × ((0 ≡ count_unless x u) × (0 ≡ count_unless x r))
entry-stops zero y s o u r e n = absurd (n e)
entry-stops (suc x) y s o u r e n = (ap (λ (k : ℕ). outcome 0 k s) e, (refl, refl))

pub entry-passes :
    (x y : ℕ) (s : State) (o o' : Outcome) (u u' r r' : ℕ) → y ≡ x → y ≡ 0 → o ≡ o' → u ≡ u' → r ≡ r'
    → (o ≡ unless_stopped x 0 s o') × ((u ≡ count_unless x u') × (r ≡ count_unless x r'))
entry-passes x y s o o' u u' r r' e z eo eu er = rw (sym e ∙ z) (eo, (eu, er))

-- what comes of both is the run
pub from-entry :
    (es : List ℕ) (s : State) (o : Outcome) (u r : ℕ) → o ≡ unless_stopped (entry_refusal s) 0 s (run_past_entry 0 es s)
    → u ≡ count_unless (entry_refusal s) (tally_past_entry Unknown es s) → r ≡ count_unless (entry_refusal s) (tally_past_entry OutOfRange es s)
    → (o ≡ run_of es s) × ((u ≡ tally Unknown es s) × (r ≡ tally OutOfRange es s))
from-entry es s o u r eo eu er =
    (eo ∙ sym (tested-at-entry es s), (eu ∙ sym (tallied-from-entry es s Unknown), er ∙ sym (tallied-from-entry es s OutOfRange)))

-- the code found k at the entry: it refuses, or the events pass
module _ (es : List ℕ) (s : State) (k : ℕ) (is : k ≡ entry_refusal s) where
  pub run-stops : (k ≡ 0 → ⊥) → (outcome 0 k s ≡ run_of es s) × ((0 ≡ tally Unknown es s) × (0 ≡ tally OutOfRange es s))
  run-stops n =
      let stops = entry-stops _ k s (run_past_entry 0 es s) (tally_past_entry Unknown es s) (tally_past_entry OutOfRange es s) is n in
      from-entry es s _ _ _ stops.0 stops.1.0 stops.1.1

  pub run-passes :
      (o : Outcome) (u r : ℕ) → k ≡ 0 → o ≡ run_past_entry 0 es s → u ≡ tally_past_entry Unknown es s → r ≡ tally_past_entry OutOfRange es s
      → (o ≡ run_of es s) × ((u ≡ tally Unknown es s) × (r ≡ tally OutOfRange es s))
  run-passes o u r z eo eu er =
      let passes = entry-passes _ k s o _ u _ r _ is z eo eu er in
      from-entry es s o u r passes.0 passes.1.0 passes.1.1

-- ---- a run over one event: the entry refuses first, then the event

-- what it comes to, and what its answer counts
one-refused :
    (entry later : ℕ) (a : After) (s s' : State) (n k : ℕ) → outcome n k s' ≡ unless_stopped entry 0 s (unless_stopped later 0 s (outcome 1 0 a.state))
    → (k ≡ 0 → ⊥) → record { answer = Refused k; state = s' } ≡ unless_refused (entry then later) a s
one-refused zero zero a s s' n k e z = absurd (z (ap (λ (o : Outcome). o.refusal) e))
one-refused zero (suc j) a s s' n k e z = ap (λ (o : Outcome). record { answer = Refused o.refusal; state = o.state }) e
one-refused (suc j) later a s s' n k e z = ap (λ (o : Outcome). record { answer = Refused o.refusal; state = o.state }) e

one-accepted :
    (entry later : ℕ) (a : After) (s s' : State) (n k u o : ℕ) (b : Answer)
    → outcome n k s' ≡ unless_stopped entry 0 s (unless_stopped later 0 s (outcome 1 0 a.state)) → k ≡ 0
    → u ≡ count_unless entry (count_unless later (counts_as Unknown a.answer + 0))
    → o ≡ count_unless entry (count_unless later (counts_as OutOfRange a.answer + 0)) → b ≡ a.answer
    → record { answer = commanded_by (command_answered u o) b; state = s' } ≡ unless_refused (entry then later) a s
one-accepted zero zero a s s' n k u o b e z eu eo eb =
    rw (ap (λ (x : Outcome). x.state) e, eb) (
    ap (λ (x : Answer). record { answer = x; state = a.state })
    (counted-answer a.answer u o (omega (arith, eu)) (omega (arith, eo)))
    )
one-accepted zero (suc j) a s s' n k u o b e z eu eo eb = absurd (suc-ne-zero j (sym (ap (λ (x : Outcome). x.refusal) e) ∙ z))
one-accepted (suc j) later a s s' n k u o b e z eu eo eb = absurd (suc-ne-zero j (sym (ap (λ (x : Outcome). x.refusal) e) ∙ z))

module _ (tested : Bool) (e : ℕ) (s s' : State) (n k : ℕ) (is : outcome n k s' ≡ run_from_entry tested (e ∷ []) s) where
  pub single-refused : (k ≡ 0 → ⊥) → record { answer = Refused k; state = s' } ≡ step_from_entry tested e s
  unfolding run_past_entry
  single-refused z = one-refused (entry_unless tested s) (refusal_past_entry e s) (accepted e s) s s' n k is z

  pub single-accepted :
      (u o : ℕ) (b : Answer) → k ≡ 0 → u ≡ tally_from_entry tested Unknown (e ∷ []) s → o ≡ tally_from_entry tested OutOfRange (e ∷ []) s
      → b ≡ commanded_by (command_answered u o) (answer_of (event_of e) s.chip) → record { answer = b; state = s' } ≡ step_from_entry tested e s
  unfolding run_past_entry tally_past_entry
  single-accepted u o b z eu eo eb =
      rw eb
      (one-accepted (entry_unless tested s) (refusal_past_entry e s) (accepted e s) s s' n k u o (answer_of (event_of e) s.chip) is z eu eo (answer-alone e s))

  -- the code's answer: why it was refused, or what the event came to
  pub single-told :
      (u o : ℕ) (a : Answer) → u ≡ tally_from_entry tested Unknown (e ∷ []) s → o ≡ tally_from_entry tested OutOfRange (e ∷ []) s
      → a ≡ answer_unless k (commanded_by (command_answered u o) (answer_of (event_of e) s.chip)) → record { answer = a; state = s' } ≡ step_from_entry tested e s
  single-told u o a eu eo ea = go k refl
    where
      known : (j : ℕ) → k ≡ j → a ≡ answer_unless j (commanded_by (command_answered u o) (answer_of (event_of e) s.chip))
      known j z = ea ∙ ap (λ (i : ℕ). answer_unless i (commanded_by (command_answered u o) (answer_of (event_of e) s.chip))) z

      go : (j : ℕ) → k ≡ j → record { answer = a; state = s' } ≡ step_from_entry tested e s
      go zero z = single-accepted u o a z eu eo (known zero z)
      go (suc j) z =
          ap (λ (x : Answer). record { answer = x; state = s' }) (known (suc j) z ∙ ap Refused (sym z))
          ∙ single-refused (λ (q : k ≡ 0). suc-ne-zero j (sym z ∙ q))

-- the step itself, with the entry's tests or without
pub whole-step : (e : ℕ) (s : State) → step_from_entry false e s ≡ step_of e s
unfolding step_of refusal_of refusal_past_entry
whole-step e s = refl

pub step_past : (e : ℕ) (s : State) → step_from_entry true e s ≡ step_past_entry e s
unfolding step_past_entry
step_past e s = refl

-- a run over the event, with its answer, is the step
pub told-whole :
    (e : ℕ) (s s' : State) (n k u o : ℕ) (a : Answer) → outcome n k s' ≡ run_of (e ∷ []) s → u ≡ tally Unknown (e ∷ []) s → o ≡ tally OutOfRange (e ∷ []) s
    → a ≡ answer_unless k (commanded_by (command_answered u o) (answer_of (event_of e) s.chip)) → record { answer = a; state = s' } ≡ step_of e s
told-whole e s s' n k u o a is eu eo ea =
    single-told false e s s' n k (is ∙ tested-at-entry (e ∷ []) s) u o a (eu ∙ tallied-from-entry (e ∷ []) s Unknown)
    (eo ∙ tallied-from-entry (e ∷ []) s OutOfRange) ea
    ∙ whole-step e s

pub told-past :
    (e : ℕ) (s s' : State) (n k u o : ℕ) (a : Answer) → outcome n k s' ≡ run_past_entry 0 (e ∷ []) s → u ≡ tally_past_entry Unknown (e ∷ []) s
    → o ≡ tally_past_entry OutOfRange (e ∷ []) s → a ≡ answer_unless k (commanded_by (command_answered u o) (answer_of (event_of e) s.chip))
    → record { answer = a; state = s' } ≡ step_past_entry e s
told-past e s s' n k u o a is eu eo ea = single-told true e s s' n k is u o a eu eo ea ∙ step_past e s
