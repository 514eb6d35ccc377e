-- A step by a call is a step of the chip: the words that it leaves stand for the record that it leaves, as long as no event is refused.
use mathlib.Core.Bool.{Bool, true, false, cond, ◌&&◌}
use mathlib.Core.List.{List, [], ◌∷◌}
use mathlib.Core.Path.{◌≡◌, refl, sym, ap}
use Prim.Native.Nat.{ℕ, zero, suc, ◌-◌, ◌≤◌, ◌<◌, suc-le-suc}
use native.Mathlib.Omega.{arith}
use borrow.Author.Tests.{ltb-true}
use lib.Dec.{eqb, ltb}
use lib.ListN.{get_or, length}
use Rattle.registers.specs.declared.Phase.{Phase}
use Rattle.registers.specs.declared.Phase.TheVariants.{Idle, AddressAwaited, Ignoring, ControlAwaited, OneByte, EndlessBytes, Reading, ReadEnded}
use Rattle.registers.specs.State.{State, state}
use Rattle.registers.proofs.Below.{false-true}
use Rattle.engine.specs.Answer.{Answer, Refused, Nothing, Acknowledged, NotAcknowledged, Command, Read}
use Rattle.engine.specs.declared.event.Event.{Event}
use Rattle.engine.specs.declared.event.Event.TheVariants.{Byte, Start, Stop, ReadAcknowledged, ReadNotAcknowledged, Reset, Sensor, Unlisted}
use Rattle.engine.specs.Event.{event_of, number_of, is_acknowledged}
use Rattle.chip.specs.Promised.{CommandAnswer}
use Rattle.phases.specs.Changes.{controlled, pulsed, sensed}
use Rattle.engine.specs.Step.{After, acknowledge, content_of, on_byte, applied, accepted, counted, refusal_of, step_of}
use Rattle.engine.proofs.Numbers.{NoRefusal}
use Rattle.engine.proofs.Refusals.{accepts}
use Rattle.chip.specs.LastWriter.{before}
use Rattle.chip.specs.Plays.{played}
use Rattle.chip.proofs.Laws.{stays_fit}
use Rattle.record_words.specs.Words.{STATUS, stands_for, chip_of, words_of}
use Rattle.record_words.proofs.Laws.{words-chip-words, chip-words-chip, allowed-stands}
use Rattle.record_words.proofs.Stands.{stands_at}
use Rattle.host.specs.Calls.{after_step, step_call, run_for, run_call, no_record, stepped, ran}
use Rattle.host.specs.Playing.{Buffers, buffers, step_on, run_on, upon_event, after_events}

-- ---- what an accepted event gives: an answer that is no refusal, and a status that is a byte

pub record Sound (a : After) : Type 0 where
  pub answered : NoRefusal a.answer
  pub status-byte : a.state.chip.status ≤ 255

acknowledges : (t : Bool) → NoRefusal (acknowledge t)
unfolding acknowledge
acknowledges true = tt
acknowledges false = tt

content-sound : (rs : Bool) (p : Phase) (b : ℕ) (s : State) → s.chip.status ≤ 255 → Sound (content_of rs p b s)
content-sound true p b s h = record { answered = tt; status-byte = h }
content-sound false p b s h = record { answered = tt; status-byte = h }

byte-sound : (p : Phase) (b : ℕ) (s : State) → s.chip.status ≤ 255 → Sound (on_byte p b s)
unfolding controlled
byte-sound Idle b s h = record { answered = tt; status-byte = h }
byte-sound AddressAwaited b s h = record { answered = acknowledges _; status-byte = h }
byte-sound Ignoring b s h = record { answered = tt; status-byte = h }
byte-sound ControlAwaited b s h = record { answered = tt; status-byte = h }
byte-sound (OneByte rs) b s h = content-sound rs ControlAwaited b s h
byte-sound (EndlessBytes rs) b s h = content-sound rs (EndlessBytes rs) b s h
byte-sound Reading b s h = record { answered = tt; status-byte = h }
byte-sound ReadEnded b s h = record { answered = tt; status-byte = h }

-- a sensor reading is a byte
abbrev SensorByte : Event → Type 0
SensorByte (Byte b) = Unit
SensorByte Start = Unit
SensorByte Stop = Unit
SensorByte ReadAcknowledged = Unit
SensorByte ReadNotAcknowledged = Unit
SensorByte Reset = Unit
SensorByte (Sensor v) = v ≤ 255
SensorByte Unlisted = Unit

sensor-byte : (e : ℕ) → SensorByte (event_of e)
sensor-byte e = go (ltb e 256) (eqb e 256) (eqb e 257) (eqb e 258) (eqb e 259) (eqb e 260) (ltb e 512) (ltb e 768) refl
  where
    go :
        (a b c d f g h i : Bool) → ltb e 768 ≡ i
        → SensorByte
        (cond a (Byte e)
        (cond b Start
        (cond c Stop
        (cond d ReadAcknowledged
        (cond f ReadNotAcknowledged
        (cond g Reset
        (cond h Unlisted
        (cond i (Sensor (e - 512)) Unlisted))))))))
    go true b c d f g h i q = tt
    go false true c d f g h i q = tt
    go false false true d f g h i q = tt
    go false false false true f g h i q = tt
    go false false false false true g h i q = tt
    go false false false false false true h i q = tt
    go false false false false false false true i q = tt
    go false false false false false false false true q = let l = ltb-true e 768 q in omega arith
    go false false false false false false false false q = tt

either : (t : Bool) (a b : ℕ) → a ≤ 255 → b ≤ 255 → cond t a b ≤ 255
either true a b ha hb = ha
either false a b ha hb = hb

applied-sound : (v : Event) (s : State) → SensorByte v → s.chip.status ≤ 255 → Sound (applied v s)
unfolding applied pulsed sensed
applied-sound (Byte b) s v h = byte-sound s.chip.phase b s h
applied-sound Start s v h = record { answered = tt; status-byte = h }
applied-sound Stop s v h = record { answered = tt; status-byte = h }
applied-sound ReadAcknowledged s v h = record { answered = tt; status-byte = h }
applied-sound ReadNotAcknowledged s v h = record { answered = tt; status-byte = h }
applied-sound Reset s v h = record { answered = tt; status-byte = omega arith }
applied-sound (Sensor value) s v h =
    let sampled = eqb s.chip.registers.sm 1 && eqb s.chip.registers.pd 0 in
    record { answered = tt; status-byte = either sampled value s.chip.status v h }
applied-sound Unlisted s v h = record { answered = tt; status-byte = h }

step-sound : (e : ℕ) (s : State) → refusal_of e s ≡ 0 → s.chip.status ≤ 255 → Sound (step_of e s)
unfolding step_of accepted
step-sound e s r h = rw r (applied-sound (event_of e) (counted s) (sensor-byte e) h)

-- an acknowledge that is not that of a command has 257, and an answer with 257 is an acknowledge
pub acknowledged-number : (a : Answer) → is_acknowledged a ≡ true → ((x : CommandAnswer) → a ≡ Command x → ⊥) → number_of a ≡ 257
unfolding is_acknowledged
acknowledged-number (Refused k) h n = absurd (false-true h)
acknowledged-number Nothing h n = absurd (false-true h)
acknowledged-number Acknowledged h n = refl
acknowledged-number NotAcknowledged h n = absurd (false-true h)
acknowledged-number (Command x) h n = absurd (n x refl)
acknowledged-number (Read b) h n = absurd (false-true h)

pub number-acknowledged : (a : Answer) → NoRefusal a → number_of a ≡ 257 → is_acknowledged a ≡ true
unfolding is_acknowledged
number-acknowledged (Refused k) n h = absurd n
number-acknowledged Nothing n h = absurd (omega arith)
number-acknowledged Acknowledged n h = refl
number-acknowledged NotAcknowledged n h = absurd (omega arith)
number-acknowledged (Command a) n h = refl
number-acknowledged (Read b) n h = absurd (omega arith)

-- ---- a step by a call

-- the buffers that hold a state
abbrev pub buffers_of : State → Buffers
buffers_of s = buffers (words_of s.chip) s.memory s.writers s.count

abbrev pub Stands : State → Type 0
Stands s = stands_for (words_of s.chip) ≡ true

module _ (s : State) (h : Stands s) where
  stands-status : s.chip.status ≤ 255
  unfolding words_of
  stands-status = stands_at (words_of s.chip) h STATUS

  pub call-steps : (e : ℕ) → step_on e (buffers_of s) ≡ after_step (step_of e s)
  unfolding step_call
  call-steps e = rw (h, chip-words-chip s.chip)

  pub step-answers : (e : ℕ) → refusal_of e s ≡ 0 → Sound (step_of e s)
  step-answers e r = step-sound e s r stands-status

  pub stays-standing : (e : ℕ) → refusal_of e s ≡ 0 → Stands (step_of e s).state
  stays-standing e r =
      allowed-stands (step_of e s).state.chip (stays_fit e s (accepts e s r).fit).is-allowed (step-answers e r).status-byte

-- ---- events one by one, the first n of which are not refused

abbrev pub Accepted : List ℕ → ℕ → State → Type 0
Accepted es n s = (i : ℕ) → i < n → refusal_of (get_or es i 0) (before es i s) ≡ 0

pub upon-event :
    (es : List ℕ) (n i : ℕ) (s : State) → Stands s → Accepted es n s → i ≤ n → i ≤ length es
    → (upon_event es i (buffers_of s) ≡ buffers_of (before es i s)) × Stands (before es i s)
upon-event [] n i s h all l m = (refl, h)
upon-event (e ∷ es) n zero s h all l m = (refl, h)
upon-event (e ∷ es) (suc n) (suc i) s h all l m =
    let r : refusal_of e s ≡ 0 = all 0 (omega arith) in
    let on = upon-event es n i (step_of e s).state (stays-standing s h e r) (λ j k. all (suc j) (suc-le-suc k)) (omega arith) (omega arith) in
    (rw (call-steps s h e) on.0, on.1)
upon-event (e ∷ es) zero (suc i) s h all l m = absurd (omega arith)

pub after-events : (es : List ℕ) (s : State) → Stands s → Accepted es (length es) s → after_events es (buffers_of s) ≡ buffers_of (played es s)
after-events [] s h all = refl
after-events (e ∷ es) s h all =
    let r : refusal_of e s ≡ 0 = all 0 (omega arith) in
    rw (call-steps s h e) (after-events es (step_of e s).state (stays-standing s h e r) (λ j k. all (suc j) (suc-le-suc k)))

-- words that stand for a record are the buffers of the state with that record
pub as-buffers : (ws m w : List ℕ) (count : ℕ) → stands_for ws ≡ true → buffers ws m w count ≡ buffers_of (state (chip_of ws) m w count)
as-buffers ws m w count h = ap (λ (l : List ℕ). buffers l m w count) (sym (words-chip-words ws h))

pub as-stands : (ws m w : List ℕ) (count : ℕ) → stands_for ws ≡ true → Stands (state (chip_of ws) m w count)
as-stands ws m w count h = rw (words-chip-words ws h) h

pub call-runs : (es : List ℕ) (s : State) → Stands s → run_on es (buffers_of s) ≡ run_for es s
unfolding run_call
call-runs es s h = rw (h, chip-words-chip s.chip)

-- words that stand for no record: nothing was done
pub no-record-ran : (es ws m w : List ℕ) (count : ℕ) → stands_for ws ≡ false → run_call es ws m w count ≡ ran (no_record m w) 0 0 0 ws m w count
unfolding run_call
no-record-ran es ws m w count h = rw h

pub no-record-stepped :
    (e : ℕ) (ws m w : List ℕ) (count : ℕ) → stands_for ws ≡ false → step_call e ws m w count ≡ stepped (no_record m w) ws m w count
unfolding step_call
no-record-stepped e ws m w count h = rw h
