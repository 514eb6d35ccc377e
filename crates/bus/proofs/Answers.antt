-- What the bus answers to an accepted event.
use mathlib.Core.Bool.{Bool, true, false}
use mathlib.Core.List.{List, [], ◌∷◌}
use mathlib.Core.Logic.{◌⊎◌, ◌↔◌, inl, inr}
use mathlib.Core.Path.{◌≡◌, refl, sym, ap, ◌∙◌, subst}
use Prim.Native.Nat.{ℕ, ◌+◌, ◌<◌}
use native.Mathlib.Omega.{arith}
use lib.Dec.{eqb}
use Rattle.registers.specs.declared.Phase.{Phase}
use Rattle.registers.specs.State.{State}
use Rattle.registers.proofs.Below.{false-true}
use Rattle.commands.specs.declared.answer.CommandAnswer.{CommandAnswer}
use Rattle.commands.specs.Command.{answer_to}
use Rattle.phases.specs.Changes.{read_byte}
use Rattle.phases.specs.Phases.{is_reading}
use Rattle.engine.specs.Answer.{Answer, Refused, Nothing, NotAcknowledged, Command, Read}
use Rattle.engine.specs.declared.event.Event.{Event}
use Rattle.engine.specs.Event.{event_of, is_acknowledged}
use Rattle.engine.specs.Step.{After, on_byte, applied, accepted, step_of}
use Rattle.chip.specs.Phases.{awaits_command}
use Rattle.chip.proofs.Events.{command-at, answered-command}
use Rattle.chip.proofs.Refusals.{accepted-step}
use Rattle.bus.specs.Answers.{Acknowledges, AwaitsCommand, IsRead}
use Rattle.bus.specs.Bus.{Device, Bus, At, Somewhere, alone, device_of}
use Rattle.bus.specs.Refusals.{is_sensor_reading, sent_refusal, bus_refusal}
use Rattle.bus.specs.Step.{BusAfter, misses, heard_by, device_after, unanswered, or_else, answer_of, bus_accepted, bus_step_of}
use Rattle.bus.proofs.Every.{map_same}
use Rattle.bus.proofs.Phases.{missed, not-missed, reading-is-sensor}
use Rattle.bus.proofs.Refusals.{accepted-bus-step, bus-accepts, accepted-alone}
use Rattle.bus.proofs.Speaking.{others-ignoring, reading-past, command-past, no-reading, misses-none, Says, answered-by}
use Rattle.bus.proofs.Speaking.{ToByte, no-acknowledge, to-byte, Quiet, quiet_all, one-speaks, heard-by-all, heard-byte, one-acknowledges, none-acknowledges}
use Rattle.bus.proofs.Speaking.{Silent, unanswered-silent, Unrefused, heard-unrefused, read-or, heard-read, unread-quiet, none_read}

-- ---- the laws, of an accepted event

module _ (e k : ℕ) (b : Bus) (h : bus_refusal e k b ≡ 0) where
  answer-is : (bus_step_of e k b).answer ≡ answer_of e k (b.count + 1) b.devices
  unfolding bus_accepted
  answer-is = ap (λ (x : BusAfter). x.answer) (accepted-bus-step e k b h)

  -- a device that is not missed takes the event as a chip alone with the bus's count does
  pub heard-as-alone : (i : ℕ) (d : Device) → At i d b.devices → misses e k d ≡ false → heard_by e k (b.count + 1) d ≡ step_of e (alone b.count d)
  unfolding accepted
  heard-as-alone i d a m = not-missed e k (b.count + 1) d m ∙ sym (accepted-step e (alone b.count d) (accepted-alone e k b h i d a))

  -- a byte is acknowledged exactly if some chip acknowledges it
  pub acknowledged-exactly :
      e < 256 → (is_acknowledged (bus_step_of e k b).answer ≡ true) ↔ Somewhere (Acknowledges e b.count) b.devices
  acknowledged-exactly byte = (λ t. there (ap is_acknowledged (sym answer-is) ∙ t) (answered-by e k (b.count + 1) b.devices), back)
    where
      n : ℕ
      n = b.count + 1

      same : (i : ℕ) (d : Device) → At i d b.devices → is_acknowledged (heard_by e k n d).answer ≡ is_acknowledged (step_of e (alone b.count d)).answer
      same i d a = ap (λ (x : After). is_acknowledged x.answer) (heard-as-alone i d a (misses-none e k (no-reading e (omega arith)) d))

      there :
          is_acknowledged (answer_of e k n b.devices) ≡ true
          → (answer_of e k n b.devices ≡ unanswered (event_of e)) ⊎ Somewhere (Says e k n (answer_of e k n b.devices)) b.devices
          → Somewhere (Acknowledges e b.count) b.devices
      there t (inl q) = absurd (false-true (sym (ap is_acknowledged q ∙ none-acknowledges e k n byte) ∙ t))
      there t (inr s) =
          record {
            place = s.place;
            which = s.which;
            stands = s.stands;
            so = sym (same s.place s.which s.stands) ∙ ap is_acknowledged s.so ∙ t;
          }

      back :
          Somewhere (Acknowledges e b.count) b.devices
          → is_acknowledged (bus_step_of e k b).answer ≡ true
      back s =
          ap is_acknowledged answer-is
          ∙ one-acknowledges e k n byte b.devices s.place s.which s.stands (same s.place s.which s.stands ∙ s.so)

  -- a byte that no chip acknowledges is not acknowledged, and gets no other answer
  pub not-acknowledged : e < 256 → (Somewhere (Acknowledges e b.count) b.devices → ⊥) → (bus_step_of e k b).answer ≡ NotAcknowledged
  not-acknowledged byte none = go (is_acknowledged (bus_step_of e k b).answer) refl
    where
      go : (t : Bool) → is_acknowledged (bus_step_of e k b).answer ≡ t → (bus_step_of e k b).answer ≡ NotAcknowledged
      go true q = absurd (none ((acknowledged-exactly byte).0 q))
      go false q = no-acknowledge _ (subst ToByte (sym answer-is) (to-byte e k (b.count + 1) byte b.devices)) q

  -- a command byte's answer is that of the chip that got it
  pub command-answer :
      e < 256 → (i : ℕ) (d : Device) → At i d b.devices → AwaitsCommand d
      → (bus_step_of e k b).answer ≡ Command (answer_to d.chip.registers.h e)
  command-answer byte i d a t =
      answer-is
      ∙ one-speaks e k n b.devices i d a quiet
      ∙ ap (λ (x : After). or_else x.answer (unanswered (event_of e))) (heard-byte e k n byte d ∙ command-at d.chip.phase e (alone n d) t)
    where
      n : ℕ
      n = b.count + 1

      quiet : (j : ℕ) (c : Device) → At j c b.devices → (j ≡ i → ⊥) → Quiet e k n c
      quiet j c at other r =
          let ignoring = others-ignoring b.devices (bus-accepts e k b h).sound i d a (command-past d.chip.phase t) j c at other in
          ap (λ (x : After). or_else x.answer r) (heard-byte e k n byte c ∙ ap (λ (p : Phase). on_byte p e (alone n c)) ignoring)

  -- and such an answer comes only to a byte that some chip awaits as a command
  pub command-only : (a : CommandAnswer) → (bus_step_of e k b).answer ≡ Command a → (e < 256) × Somewhere AwaitsCommand b.devices
  command-only a q = go (answered-by e k n b.devices) (sym answer-is ∙ q)
    where
      n : ℕ
      n = b.count + 1

      told :
          (i : ℕ) (d : Device) → At i d b.devices → (heard_by e k n d).answer ≡ Command a → (t : Bool) → misses e k d ≡ t
          → (e < 256) × (awaits_command d.chip.phase ≡ true)
      told i d at q true m = absurd (subst Silent (sym (ap (λ (x : After). x.answer) (missed e k n d m)) ∙ q) tt)
      told i d at q false m =
          answered-command e (alone b.count d) (accepted-alone e k b h i d at) a
          (ap (λ (x : After). x.answer) (sym (heard-as-alone i d at m)) ∙ q)

      go :
          (answer_of e k n b.devices ≡ unanswered (event_of e)) ⊎ Somewhere (Says e k n (answer_of e k n b.devices)) b.devices
          → answer_of e k n b.devices ≡ Command a → (e < 256) × Somewhere AwaitsCommand b.devices
      go (inl r) q = absurd (subst Silent (sym r ∙ q) (unanswered-silent (event_of e)))
      go (inr s) q =
          let so = told s.place s.which s.stands (s.so ∙ q) (misses e k s.which) refl in
          (so.0, record { place = s.place; which = s.which; stands = s.stands; so = so.1 })

  -- an accepted event's answer is no refusal
  pub never-refused : (r : ℕ) → (bus_step_of e k b).answer ≡ Refused r → ⊥
  never-refused r q = go (answered-by e k n b.devices) (sym answer-is ∙ q)
    where
      n : ℕ
      n = b.count + 1

      go :
          (answer_of e k n b.devices ≡ unanswered (event_of e)) ⊎ Somewhere (Says e k n (answer_of e k n b.devices)) b.devices
          → answer_of e k n b.devices ≡ Refused r → ⊥
      go (inl u) q = subst Silent (sym u ∙ q) (unanswered-silent (event_of e))
      go (inr s) q = subst Unrefused (s.so ∙ q) (heard-unrefused e k n s.which)

-- ---- reads

module _ (e k : ℕ) (b : Bus) (h : bus_refusal e k b ≡ 0) (read : IsRead e) where
  -- a read gives the reading chip's byte
  pub read_answer : (i : ℕ) (d : Device) → At i d b.devices → is_reading d.chip.phase ≡ true → (bus_step_of e k b).answer ≡ Read (read_byte d.chip)
  read_answer i d a t =
      answer-is e k b h
      ∙ one-speaks e k n b.devices i d a quiet
      ∙ ap (λ (x : Answer). or_else x (unanswered (event_of e))) (heard-read e k n read d)
      ∙ ap (or_else (Read (read_byte d.chip))) (none_read e k n read)
      ∙ read-or (read_byte d.chip) (eqb (read_byte d.chip) 255) refl
    where
      n : ℕ
      n = b.count + 1

      quiet : (j : ℕ) (c : Device) → At j c b.devices → (j ≡ i → ⊥) → Quiet e k n c
      quiet j c at other =
          let ignoring = others-ignoring b.devices (bus-accepts e k b h).sound i d a (reading-past d.chip.phase t) j c at other in
          unread-quiet e k n read c (ap is_reading ignoring)

  -- and 255 where no chip is reading
  pub read-unanswered : ((i : ℕ) (d : Device) → At i d b.devices → is_reading d.chip.phase ≡ false) → (bus_step_of e k b).answer ≡ Read 255
  read-unanswered none =
      answer-is e k b h
      ∙ quiet_all e k (b.count + 1) b.devices (λ i d a. unread-quiet e k (b.count + 1) read d (none i d a))
      ∙ none_read e k (b.count + 1) read

-- ---- START, STOP, reset pulse and sensor reading

module _ (e k : ℕ) (b : Bus) (h : bus_refusal e k b ≡ 0) where
  all_quiet : ((s : State) → (applied (event_of e) s).answer ≡ Nothing) → (bus_step_of e k b).answer ≡ unanswered (event_of e)
  all_quiet so = answer-is e k b h ∙ quiet_all e k n b.devices (λ i d a r. ap (λ (x : Answer). or_else x r) (heard d))
    where
      n : ℕ
      n = b.count + 1

      heard : (d : Device) → (heard_by e k n d).answer ≡ Nothing
      heard d = go (misses e k d) refl
        where
          go : (t : Bool) → misses e k d ≡ t → (heard_by e k n d).answer ≡ Nothing
          go true m = ap (λ (x : After). x.answer) (missed e k n d m)
          go false m = ap (λ (x : After). x.answer) (not-missed e k n d m) ∙ so (alone n d)

  -- they have no answer
  pub start-answer : e ≡ 256 → (bus_step_of e k b).answer ≡ Nothing
  unfolding applied
  start-answer q = all_quiet (λ s. rw q) ∙ rw q

  pub stop-answer : e ≡ 257 → (bus_step_of e k b).answer ≡ Nothing
  unfolding applied
  stop-answer q = all_quiet (λ s. rw q) ∙ rw q

  pub reset-answer : e ≡ 260 → (bus_step_of e k b).answer ≡ Nothing
  unfolding applied
  reset-answer q = all_quiet (λ s. rw q) ∙ rw q

  pub sensor-answer : is_sensor_reading e ≡ true → (bus_step_of e k b).answer ≡ Nothing
  unfolding applied
  sensor-answer t = all_quiet (λ s. ap (λ (v : Event). (applied v s).answer) (reading-is-sensor e t)) ∙ ap unanswered (reading-is-sensor e t)

-- ---- the number added

-- the number added is ignored but for sensor readings
pub added-number : (e k j : ℕ) (b : Bus) → is_sensor_reading e ≡ false → bus_step_of e k b ≡ bus_step_of e j b
unfolding bus_step_of bus_accepted bus_refusal sent_refusal
added-number e k j b t =
    let n = b.count + 1 in
    let same : (d : Device) → heard_by e k n d ≡ heard_by e j n d = λ d. heard-by-all e k n t d ∙ sym (heard-by-all e j n t d) in
    rw (
      answers b.devices same,
      map_same (device_after e k n) (device_after e j n) (λ d. ap (λ (x : After). device_of x.state) (same d)) b.devices,
      t,
    )
  where
    answers :
        (ds : List Device) → ((d : Device) → heard_by e k (b.count + 1) d ≡ heard_by e j (b.count + 1) d)
        → answer_of e k (b.count + 1) ds ≡ answer_of e j (b.count + 1) ds
    answers [] same = refl
    answers (d ∷ ds) same = rw (same d, answers ds same)
