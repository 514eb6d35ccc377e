-- Bytes, START and STOP that go well with a chip alone go well with it on a bus, and leave the other chips as they were but for the phase.
use mathlib.Core.Bool.{Bool, true, false, cond, not, ◌&&◌}
use mathlib.Core.List.{List, [], ◌∷◌}
use mathlib.Core.Logic.{◌⊎◌, inl, inr}
use mathlib.Core.Path.{◌≡◌, refl, sym, ap, ◌∙◌, subst}
use Prim.Native.Nat.{ℕ, zero, suc, ◌+◌, ◌<◌, suc-le-suc}
use native.Mathlib.Decide.{dec_lt, ℕ_discrete}
use native.Mathlib.Nat.{le_of_suc-le-suc, not-suc-le-zero}
use native.Mathlib.Omega.{arith}
use lib.Dec.{eqb}
use lib.ListN.{get_or, length}
use Rattle.registers.specs.declared.Phase.{Phase}
use Rattle.registers.specs.declared.Phase.TheVariants.{Idle, AddressAwaited, Ignoring, ControlAwaited, OneByte, EndlessBytes, Reading, ReadEnded}
use Rattle.registers.specs.State.{State}
use Rattle.registers.proofs.Below.{false-true}
use Rattle.engine.specs.Event.{is_acknowledged}
use Rattle.engine.specs.Step.{After, on_byte, applied, counted, step_of}
use Rattle.engine.proofs.Refusals.{accepts}
use Rattle.chip.specs.LastWriter.{before}
use Rattle.chip.specs.Phases.{awaits_data}
use Rattle.chip.specs.Plays.{Good, played}
use Rattle.chip.specs.When.{CountsStayIn}
use Rattle.chip.proofs.Events.{by-phase, command-at}
use Rattle.chip.proofs.Refusals.{is-listed-event, accepted-when}
use Rattle.bus.specs.Bus.{Device, Bus, At, alone, is_past_phase, is_past}
use Rattle.bus.specs.Plays.{GoodOnBus, OthersKept, PlaysOnBus}
use Rattle.bus.specs.Reach.{now_in, KeptButPhase}
use Rattle.bus.specs.Refusals.{BusFit}
use Rattle.bus.specs.Step.{heard_by, device_after}
use Rattle.bus.specs.Streams.{Sent, sent, refusal_at, stepped, bus_played, bus_before, heard_as, device_with, is_on, chip_on, events_of}
use Rattle.bus.specs.When.When.{none}
use Rattle.bus.proofs.Alone.{counts-stepped, picked-step, pick-after, stays_on, stepped-fit}
use Rattle.bus.proofs.Answers.{acknowledged-exactly, command-answer}
use Rattle.bus.proofs.Every.{at_same}
use Rattle.bus.proofs.Picks.{OnBus, by_pins, with-pins}
use Rattle.bus.proofs.Reach.{at_after, byte-leaves}
use Rattle.bus.proofs.Refusals.{exactly-when, sound-fit}
use Rattle.bus.proofs.Speaking.{no-reading, others-ignoring}

-- ---- a device that is left alone

kept_on : (c d e : Device) → KeptButPhase c d → KeptButPhase d e → KeptButPhase c e
kept_on c d e a b = b ∙ ap (now_in e.chip.phase) a

-- START and STOP
at-ends : (e k n : ℕ) (d : Device) → (e ≡ 256) ⊎ (e ≡ 257) → KeptButPhase d (device_after e k n d)
unfolding heard_by applied
at-ends e k n d (inl q) = rw q
at-ends e k n d (inr q) = rw q

-- display data comes to a chip that is past its address
data-past : (q : Phase) → awaits_data q ≡ true → is_past_phase q ≡ true
data-past Idle t = absurd (false-true t)
data-past AddressAwaited t = absurd (false-true t)
data-past Ignoring t = absurd (false-true t)
data-past ControlAwaited t = absurd (false-true t)
data-past (OneByte rs) t = refl
data-past (EndlessBytes rs) t = refl
data-past Reading t = absurd (false-true t)
data-past ReadEnded t = absurd (false-true t)

-- ---- one event

module _ (p : ℕ) (x : Sent) (b : Bus) (fit : BusFit b.devices) (on : is_on p b.devices ≡ true)
    (low : x.event < 258) (good : Good x.event (chip_on p b))
  where
    abbrev mine : Device
    mine = device_with p b.devices

    stands : (i : ℕ) × At i mine b.devices
    stands = (by_pins p).stands b.devices on

    byte_step : x.event < 256 → step_of x.event (chip_on p b) ≡ on_byte mine.chip.phase x.event (counted (chip_on p b))
    byte_step byte = by-phase (chip_on p b) x.event byte good.not_refused

    -- a chip that ignores the rest acknowledges nothing
    unheard : mine.chip.phase ≡ Ignoring → is_acknowledged (on_byte mine.chip.phase x.event (counted (chip_on p b))).answer ≡ false
    unfolding is_acknowledged
    unheard e = ap (λ (q : Phase). is_acknowledged (on_byte q x.event (counted (chip_on p b))).answer) e

    -- where this one acknowledges a byte, no other is past its address
    none-past : x.event < 256 → (j : ℕ) (d : Device) → At j d b.devices → (j ≡ stands.0 → ⊥) → is_past d ≡ false
    none-past byte j d at apart = go (is_past d) refl
      where
        go : (t : Bool) → is_past d ≡ t → t ≡ false
        go false q = refl
        go true q =
            let sound = (sound-fit b.devices).0 fit in
            let ignoring = others-ignoring b.devices sound j d at q stands.0 mine stands.1 (λ e. apart (sym e)) in
            let said = ap (λ (a : After). is_acknowledged a.answer) (byte_step byte) in
            absurd (false-true (sym (unheard ignoring) ∙ sym said ∙ good.acknowledged byte))

    -- so that no other awaits display data, and only this one's counts of pixels can move
    stay-in : (j : ℕ) (d : Device) → At j d b.devices → CountsStayIn x.event (alone b.count d)
    stay-in j d at = go (ℕ_discrete j stands.0)
      where
        go : Dec (j ≡ stands.0) → CountsStayIn x.event (alone b.count d)
        go (yes e) =
            let same = at_same b.devices stands.0 d mine (subst (λ (n : ℕ). At n d b.devices) e at) stands.1 in
            subst (λ (y : Device). CountsStayIn x.event (alone b.count y)) (sym same)
            (accepted-when x.event (chip_on p b) good.not_refused).counts_stay_in
        go (no n) = λ comes. absurd (false-true (sym (none-past comes.is-byte j d at n) ∙ data-past d.chip.phase comes.is_data))

    accepted : refusal_at x b ≡ 0
    accepted =
        let ok = accepts x.event (chip_on p b) good.not_refused in
        (exactly-when x.event x.pins b 0).1
        (none
        (record {
          sound = (sound-fit b.devices).0 fit;
          listed = is-listed-event x.event ok.listed;
          named = λ l h. absurd (omega arith);
          room = ok.room;
          counts_stay_in = stay-in;
        }))

    good-on-bus : GoodOnBus p x b
    good-on-bus =
        record {
          not_refused = accepted;
          acknowledged = λ byte.
              (acknowledged-exactly x.event x.pins b accepted byte).1
              (record { place = stands.0; which = mine; stands = stands.1; so = good.acknowledged byte });
          taken = λ byte t.
              command-answer x.event x.pins b accepted byte stands.0 mine stands.1 t
              ∙ sym (ap (λ (a : After). a.answer) (byte_step byte ∙ command-at mine.chip.phase x.event (counted (chip_on p b)) t))
              ∙ good.taken byte t;
        }

    chip-after : chip_on p (stepped x b) ≡ (step_of x.event (chip_on p b)).state
    chip-after =
        sym (picked-step (OnBus p) (device_with p) (by_pins p) x b on accepted p (with-pins p b.devices on))
        ∙ ap (λ (e : ℕ). (step_of e (chip_on p b)).state) heard
      where
        heard : heard_as p x ≡ x.event
        heard = ap (λ (t : Bool). cond (t && not (eqb p x.pins)) 258 x.event) (no-reading x.event (omega arith))

    module _ (q : ℕ) (other : q ≡ p → ⊥) (on-q : is_on q b.devices ≡ true) where
      abbrev theirs : Device
      theirs = device_with q b.devices

      there : (j : ℕ) × At j theirs b.devices
      there = (by_pins q).stands b.devices on-q

      apart : there.0 ≡ stands.0 → ⊥
      apart e =
          let same = at_same b.devices stands.0 theirs mine (subst (λ (n : ℕ). At n theirs b.devices) e there.1) stands.1 in
          other (sym (with-pins q b.devices on-q) ∙ ap (λ (d : Device). d.chip.pins) same ∙ with-pins p b.devices on)

      -- what the event leaves of a device with other pins
      kept : Dec (x.event < 256) → Dec (x.event ≡ 256) → KeptButPhase theirs (device_after x.event x.pins (b.count + 1) theirs)
      kept (yes byte) end =
          byte-leaves x.event x.pins b accepted byte there.0 theirs _ there.1
          (at_after x.event x.pins b accepted there.0 theirs there.1) (none-past byte there.0 theirs there.1 apart)
      kept (no n) (yes e) = at-ends x.event x.pins (b.count + 1) theirs (inl e)
      kept (no n) (no m) = at-ends x.event x.pins (b.count + 1) theirs (inr (omega arith))

    others-after : OthersKept p b (stepped x b)
    others-after q other on-q =
        subst (KeptButPhase (device_with q b.devices)) (sym (pick-after (OnBus q) (device_with q) (by_pins q) x b on-q accepted))
        (kept q other on-q (dec_lt x.event 256) (ℕ_discrete x.event 256))

-- ---- a stream

-- bytes, START and STOP
abbrev pub AllLow : List ℕ → Type 0
AllLow [] = Unit
AllLow (e ∷ es) = (e < 258) × AllLow es

abbrev AllGood : List ℕ → State → Type 0
AllGood es s = (i : ℕ) → i < length es → Good (get_or es i 0) (before es i s)

-- what goes well with the chip alone goes well with it on a bus that 1, 2 and 12 let pass
pub plays-on-bus :
    (p : ℕ) (xs : List Sent) (b : Bus) → BusFit b.devices → is_on p b.devices ≡ true → AllLow (events_of xs)
    → ((i : ℕ) → i < length (events_of xs) → Good (get_or (events_of xs) i 0) (before (events_of xs) i (chip_on p b))) → PlaysOnBus p xs b
plays-on-bus p [] b fit on low good =
    record {
      all-good = λ i l. absurd (not-suc-le-zero l);
      same_chip = refl;
      others_kept = λ q other on-q. refl;
      count_after = omega arith;
    }
plays-on-bus p (x ∷ xs) b fit on low good =
    then
    (plays-on-bus p xs (stepped x b) (stepped-fit x b fit) still low.1
    (subst (AllGood (events_of xs)) (sym after) (λ i l. good (suc i) (suc-le-suc l))))
  where
    now : Good x.event (chip_on p b)
    now = good zero (omega arith)

    still : is_on p (stepped x b).devices ≡ true
    still = stays_on (OnBus p) (device_with p) (by_pins p) x b on

    after : chip_on p (stepped x b) ≡ (step_of x.event (chip_on p b)).state
    after = chip-after p x b fit on low.0 now

    then : PlaysOnBus p xs (stepped x b) → PlaysOnBus p (x ∷ xs) b
    then rest =
        record {
          all-good = each;
          same_chip = rest.same_chip ∙ ap (played (events_of xs)) after;
          others_kept = λ q other on-q.
              kept_on (device_with q b.devices) (device_with q (stepped x b).devices) (device_with q (bus_played xs (stepped x b)).devices)
              (others-after p x b fit on low.0 now q other on-q)
              (rest.others_kept q other (stays_on (OnBus q) (device_with q) (by_pins q) x b on-q));
          count_after = rest.count_after ∙ ap (λ (n : ℕ). n + length xs) (counts-stepped x b (accepted p x b fit on low.0 now)) ∙ omega arith;
        }
      where
        each : (i : ℕ) → i < length (x ∷ xs) → GoodOnBus p (get_or (x ∷ xs) i (sent 0 0)) (bus_before (x ∷ xs) i b)
        each zero l = good-on-bus p x b fit on low.0 now
        each (suc i) l = rest.all-good i (le_of_suc-le-suc l)
