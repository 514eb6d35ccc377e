-- Demand 2 over whole runs: each place of the memories names the last display byte that was stored there.
use mathlib.Core.Bool.{Bool, true, false}
use mathlib.Core.List.{List, [], ◌∷◌}
use mathlib.Core.Logic.{◌⊎◌, inl, inr}
use mathlib.Core.Path.{◌≡◌, refl, sym, ap, ◌∙◌, subst}
use Prim.Native.Nat.{ℕ, zero, suc, ◌+◌, ◌<◌, suc-le-suc}
use native.Mathlib.Decide.{dec_lt, ℕ_discrete}
use native.Mathlib.Nat.{le_of_suc-le-suc, not-suc-le-zero}
use native.Mathlib.Numerals.{one-add}
use native.Mathlib.Omega.{arith}
use lib.ListN.{get_or, set}
use lib.Seq.{get_or-set_same, get_or-set_other}
use Rattle.registers.specs.declared.Phase.{Phase}
use Rattle.registers.specs.declared.Phase.TheVariants.{Idle, AddressAwaited, Ignoring, ControlAwaited, OneByte, EndlessBytes, Reading, ReadEnded}
use Rattle.registers.specs.State.{State}
use Rattle.registers.proofs.Below.{true-false}
use Rattle.engine.specs.declared.event.Event.{Event}
use Rattle.engine.specs.declared.event.Event.TheVariants.{Byte, Start, Stop, ReadAcknowledged, ReadNotAcknowledged, Reset, Sensor, Unlisted}
use Rattle.engine.specs.Event.{event_of, is_byte, is_acknowledged}
use Rattle.engine.specs.Run.{unless_stopped, run_from}
use Rattle.phases.specs.Changes.{controlled, pulsed, sensed}
use Rattle.engine.specs.Step.{on_byte, applied, accepted, counted}
use Rattle.engine.proofs.Allowed.{accepted-fit, fit-place}
use Rattle.engine.proofs.Events.{byte-event, other-event}
use Rattle.chip.specs.Effects.{displayed}
use Rattle.chip.specs.LastWriter.{StoredAt, before, NoneStored, LastStored, stored_byte, Untouched, Written, PlaceAfter}
use Rattle.chip.specs.Phases.{awaits_data}
use Rattle.chip.specs.Promised.{After, Fit, Outcome, refusal_of, step_of, place_of, stored_of}
use Rattle.chip.proofs.Events.{display-step}
use Rattle.chip.proofs.Refusals.{accepted-step}
use Rattle.chip.proofs.Runs.{run-shift}

-- ---- one event

-- the event is no display byte
abbrev StoresNothing : Event → Phase → Type 0
StoresNothing (Byte b) p = awaits_data p ≡ false
StoresNothing Start p = Unit
StoresNothing Stop p = Unit
StoresNothing ReadAcknowledged p = Unit
StoresNothing ReadNotAcknowledged p = Unit
StoresNothing Reset p = Unit
StoresNothing (Sensor v) p = Unit
StoresNothing Unlisted p = Unit

-- both memories are as they were
abbrev Kept : After → State → Type 0
Kept a s = (a.state.memory ≡ s.memory) × (a.state.writers ≡ s.writers)

byte-stores-nothing : (p : Phase) (b : ℕ) (s : State) → awaits_data p ≡ false → Kept (on_byte p b s) s
byte-stores-nothing Idle b s q = (refl, refl)
byte-stores-nothing AddressAwaited b s q = (refl, refl)
byte-stores-nothing Ignoring b s q = (refl, refl)
byte-stores-nothing ControlAwaited b s q = (refl, refl)
byte-stores-nothing (OneByte true) b s q = absurd (true-false q)
byte-stores-nothing (OneByte false) b s q = (refl, refl)
byte-stores-nothing (EndlessBytes true) b s q = absurd (true-false q)
byte-stores-nothing (EndlessBytes false) b s q = (refl, refl)
byte-stores-nothing Reading b s q = (refl, refl)
byte-stores-nothing ReadEnded b s q = (refl, refl)

event-stores-nothing : (v : Event) (s : State) → StoresNothing v s.chip.phase → Kept (applied v s) s
unfolding applied
event-stores-nothing (Byte b) s q = byte-stores-nothing s.chip.phase b s q
event-stores-nothing Start s q = (refl, refl)
event-stores-nothing Stop s q = (refl, refl)
event-stores-nothing ReadAcknowledged s q = (refl, refl)
event-stores-nothing ReadNotAcknowledged s q = (refl, refl)
event-stores-nothing Reset s q = (refl, refl)
event-stores-nothing (Sensor v) s q = (refl, refl)
event-stores-nothing Unlisted s q = (refl, refl)

-- every accepted event adds 1 to the count
counts-byte : (p : Phase) (b : ℕ) (s : State) → (on_byte p b s).state.count ≡ s.count
unfolding controlled
counts-byte Idle b s = refl
counts-byte AddressAwaited b s = refl
counts-byte Ignoring b s = refl
counts-byte ControlAwaited b s = refl
counts-byte (OneByte true) b s = refl
counts-byte (OneByte false) b s = refl
counts-byte (EndlessBytes true) b s = refl
counts-byte (EndlessBytes false) b s = refl
counts-byte Reading b s = refl
counts-byte ReadEnded b s = refl

counts-event : (v : Event) (s : State) → (applied v s).state.count ≡ s.count
unfolding applied pulsed sensed
counts-event (Byte b) s = counts-byte s.chip.phase b s
counts-event Start s = refl
counts-event Stop s = refl
counts-event ReadAcknowledged s = refl
counts-event ReadNotAcknowledged s = refl
counts-event Reset s = refl
counts-event (Sensor v) s = refl
counts-event Unlisted s = refl

pub counts-accepted : (e : ℕ) (s : State) → (accepted e s).state.count ≡ s.count + 1
unfolding accepted
counts-accepted e s = counts-event (event_of e) (counted s)

-- an event that is no byte stores nothing
other-stores-nothing : (v : Event) (p : Phase) → is_byte v ≡ false → StoresNothing v p
other-stores-nothing (Byte b) p h = absurd (true-false h)
other-stores-nothing Start p h = tt
other-stores-nothing Stop p h = tt
other-stores-nothing ReadAcknowledged p h = tt
other-stores-nothing ReadNotAcknowledged p h = tt
other-stores-nothing Reset p h = tt
other-stores-nothing (Sensor v) p h = tt
other-stores-nothing Unlisted p h = tt

-- what an accepted event does to place k: it is stored there, or the place is as it was
record Stores (e : ℕ) (s end : State) (k : ℕ) : Type 0 where
  is_stored : StoredAt e s k
  byte : get_or end.memory k 0 ≡ stored_of s.chip.registers e
  writer : get_or end.writers k 0 ≡ s.count + 1

record Passed (e : ℕ) (s end : State) (k : ℕ) : Type 0 where
  misses : StoredAt e s k → ⊥
  byte : get_or end.memory k 0 ≡ get_or s.memory k 0
  writer : get_or end.writers k 0 ≡ get_or s.writers k 0

module _ (e : ℕ) (s : State) (k : ℕ) (h : refusal_of e s ≡ 0) (fit : Fit s) where
  nothing_stored : (StoredAt e s k → ⊥) → StoresNothing (event_of e) s.chip.phase → Passed e s (step_of e s).state k
  unfolding accepted
  nothing_stored n q =
      let same = event-stores-nothing (event_of e) (counted s) q in
      let step = accepted-step e s h in
      record {
        misses = n;
        byte = ap (λ (a : After). get_or a.state.memory k 0) step ∙ ap (λ (l : List ℕ). get_or l k 0) same.0;
        writer = ap (λ (a : After). get_or a.state.writers k 0) step ∙ ap (λ (l : List ℕ). get_or l k 0) same.1;
      }

  data-stores : e < 256 → awaits_data s.chip.phase ≡ true → Stores e s (step_of e s).state k ⊎ Passed e s (step_of e s).state k
  unfolding is_acknowledged
  data-stores b t = go (ℕ_discrete (place_of s.chip.registers) k)
    where
      step : step_of e s ≡ displayed e s
      step = display-step s e b h t

      within : place_of s.chip.registers < 1717
      within = fit-place s fit

      at-memory : (x : ℕ) → get_or (step_of e s).state.memory x 0 ≡ get_or (set s.memory (place_of s.chip.registers) (stored_of s.chip.registers e)) x 0
      at-memory x = ap (λ (a : After). get_or a.state.memory x 0) step

      at-writers : (x : ℕ) → get_or (step_of e s).state.writers x 0 ≡ get_or (set s.writers (place_of s.chip.registers) (s.count + 1)) x 0
      at-writers x = ap (λ (a : After). get_or a.state.writers x 0) step

      go : Dec (place_of s.chip.registers ≡ k) → Stores e s (step_of e s).state k ⊎ Passed e s (step_of e s).state k
      go (yes q) =
          inl
          (record {
            is_stored = record { is-byte = b; is_data = t; acknowledged = ap (λ (a : After). is_acknowledged a.answer) step; at_place = q };
            byte = subst (λ (x : ℕ). get_or (step_of e s).state.memory x 0 ≡ stored_of s.chip.registers e) q
                (at-memory _ ∙ get_or-set_same s.memory _ _ 0 (subst (λ (n : ℕ). place_of s.chip.registers < n) (sym fit.memory_long) within));
            writer = subst (λ (x : ℕ). get_or (step_of e s).state.writers x 0 ≡ s.count + 1) q
                (at-writers _ ∙ get_or-set_same s.writers _ _ 0 (subst (λ (n : ℕ). place_of s.chip.registers < n) (sym fit.writers_long) within));
          })
      go (no d) =
          inr
          (record {
            misses = λ l. d l.at_place;
            byte = at-memory k ∙ get_or-set_other s.memory _ k _ 0 (λ q. d (sym q));
            writer = at-writers k ∙ get_or-set_other s.writers _ k _ 0 (λ q. d (sym q));
          })

  effect : Stores e s (step_of e s).state k ⊎ Passed e s (step_of e s).state k
  effect = go (dec_lt e 256) (awaits_data s.chip.phase) refl
    where
      go : Dec (e < 256) → (t : Bool) → awaits_data s.chip.phase ≡ t → Stores e s (step_of e s).state k ⊎ Passed e s (step_of e s).state k
      go (no n) t et = inr (nothing_stored (λ l. n l.is-byte) (other-stores-nothing (event_of e) s.chip.phase (other-event e (omega arith))))
      go (yes b) true et = data-stores b et
      go (yes b) false et =
          inr (nothing_stored (λ l. true-false (sym l.is_data ∙ et)) (subst (λ (v : Event). StoresNothing v s.chip.phase) (sym (byte-event e b)) et))

-- ---- the run

-- how the first event and the rest of a run come together at place k
module _ (e : ℕ) (es : List ℕ) (s end : State) (n k : ℕ) (up : (step_of e s).state.count ≡ s.count + 1) where
  then-written : Written es n (step_of e s).state end k → Written (e ∷ es) (suc n) s end k
  then-written w =
      record {
        last = record { event = suc w.last.event; is_done = suc-le-suc w.last.is_done; is_stored = w.last.is_stored; is_last = later };
        byte = w.byte;
        writer = w.writer ∙ omega arith;
      }
    where
      later : (j : ℕ) → suc w.last.event < j → j < suc n → StoredAt (get_or (e ∷ es) j 0) (before (e ∷ es) j s) k → ⊥
      later zero a b l = omega arith
      later (suc j) a b l = w.last.is_last j (le_of_suc-le-suc a) (le_of_suc-le-suc b) l

  first-written : Stores e s (step_of e s).state k → Untouched es n (step_of e s).state end k → Written (e ∷ es) (suc n) s end k
  first-written l u =
      record {
        last = record { event = zero; is_done = omega arith; is_stored = l.is_stored; is_last = later };
        byte = u.byte ∙ l.byte;
        writer = u.writer ∙ l.writer ∙ omega arith;
      }
    where
      later : (j : ℕ) → zero < j → j < suc n → StoredAt (get_or (e ∷ es) j 0) (before (e ∷ es) j s) k → ⊥
      later zero a b l = omega arith
      later (suc j) a b l = u.none j (le_of_suc-le-suc b) l

  still-untouched : Passed e s (step_of e s).state k → Untouched es n (step_of e s).state end k → Untouched (e ∷ es) (suc n) s end k
  still-untouched p u = record { none = never; byte = u.byte ∙ p.byte; writer = u.writer ∙ p.writer }
    where
      never : NoneStored (e ∷ es) (suc n) s k
      never zero b l = p.misses l
      never (suc i) b l = u.none i (le_of_suc-le-suc b) l

  joined :
      Stores e s (step_of e s).state k ⊎ Passed e s (step_of e s).state k
      → Untouched es n (step_of e s).state end k ⊎ Written es n (step_of e s).state end k
      → Untouched (e ∷ es) (suc n) s end k ⊎ Written (e ∷ es) (suc n) s end k
  joined first (inr w) = inr (then-written w)
  joined (inl l) (inl u) = inr (first-written l u)
  joined (inr p) (inl u) = inl (still-untouched p u)

-- two that are both the last are the same
module _ {es : List ℕ} {n : ℕ} {s : State} {k : ℕ} (a b : LastStored es n s k) where
  pub same-last : a.event ≡ b.event
  same-last = go (dec_lt a.event b.event) (dec_lt b.event a.event)
    where
      go : Dec (a.event < b.event) → Dec (b.event < a.event) → a.event ≡ b.event
      go (yes l) r = absurd (a.is_last b.event l b.is_done b.is_stored)
      go (no l) (yes r) = absurd (b.is_last a.event r a.is_done a.is_stored)
      go (no l) (no r) = omega arith

  pub same_byte : stored_byte a ≡ stored_byte b
  same_byte = ap (λ (i : ℕ). stored_of (before es i s).chip.registers (get_or es i 0)) same-last

-- nothing was done
pub idle : (es : List ℕ) (s : State) (k : ℕ) → Untouched es 0 s s k
idle es s k = record { none = λ i b l. not-suc-le-zero b; byte = refl; writer = refl }

-- the events that are done, from a state that 1 and 2 let pass
pub from-written : (es : List ℕ) (s : State) (k : ℕ) → Fit s → PlaceAfter es (run_from 0 es s).done s (run_from 0 es s).state k
unfolding run_from
from-written [] s k fit = inl (idle [] s k)
from-written (e ∷ es) s k fit = go (refusal_of e s) refl (from-written es (accepted e s).state k (accepted-fit e s fit))
  where
    go :
        (x : ℕ) → refusal_of e s ≡ x
        → PlaceAfter es (run_from 0 es (accepted e s).state).done (accepted e s).state (run_from 0 es (accepted e s).state).state k
        → PlaceAfter (e ∷ es) (unless_stopped x 0 s (run_from 1 es (accepted e s).state)).done s (unless_stopped x 0 s (run_from 1 es (accepted e s).state)).state k
    go (suc x) q rest = inl (idle (e ∷ es) s k)
    go zero q rest =
        let o = run_from 0 es (accepted e s).state in
        let step = accepted-step e s q in
        let up : (step_of e s).state.count ≡ s.count + 1 = ap (λ (a : After). a.state.count) step ∙ counts-accepted e s in
        let then : PlaceAfter es o.done (step_of e s).state o.state k = subst (λ (a : After). PlaceAfter es o.done a.state o.state k) (sym step) rest in
        let both : PlaceAfter (e ∷ es) (suc o.done) s o.state k = joined e es s o.state o.done k up (effect e s k q fit) then in
        subst (λ (r : Outcome). PlaceAfter (e ∷ es) r.done s r.state k) (sym (run-shift 1 es (accepted e s).state))
        (subst (λ (m : ℕ). PlaceAfter (e ∷ es) m s o.state k) (sym (one-add o.done)) both)
