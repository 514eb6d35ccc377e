-- The host's call for a bus is refused exactly when the documents say, and then changes no buffer and not the count; its number tells the bus's answer.
use mathlib.Core.Bool.{Bool, true, false, not, ◌&&◌}
use mathlib.Core.List.{List, [], ◌∷◌, map}
use mathlib.Core.Logic.{◌↔◌}
use mathlib.Core.Path.{◌≡◌, refl, sym, ap, ◌∙◌, subst}
use Prim.Native.Nat.{ℕ, zero, suc, ◌-◌, ◌^◌, ◌≤◌, ◌<◌, ◌+◌}
use native.Mathlib.Omega.{arith}
use borrow.Author.Tests.{ne_eqb, lt-leb}
use lib.Dec.{eqb, ltb}
use Rattle.registers.specs.Refusals.{refuse, ◌then◌, is_listed_event}
use Rattle.registers.proofs.Below.{false-true}
use Rattle.engine.specs.Answer.{Answer}
use Rattle.engine.specs.Event.{number_of, is_acknowledged}
use Rattle.engine.proofs.Numbers.{NoRefusal, no-refusal-number, same_answer}
use Rattle.bus.specs.Answers.{Acknowledges}
use Rattle.bus.specs.Bus.{Device, Bus, bus, Somewhere, every, AllTrue}
use Rattle.bus.specs.Refusals.{devices_refusal, is_sensor_reading, sent_refusal, counts_fit, pixels_refusal_for, bus_refusal}
use Rattle.bus.specs.Step.{bus_step_of}
use Rattle.bus.proofs.Laws as by-bus
use Rattle.bus_host.specs.Buffers.{Lent, device_in, lent_by, has_lengths, has_record, every_lent}
use Rattle.bus_host.specs.BusCall.{Called, called, no_record_for, after_bus_step, bus_call, tells_acknowledge}
use Rattle.bus_host.specs.BusCall.{pins_words_differ, phase_words_agree, lent_refusal, bus_call_refusal}
use Rattle.record_words.proofs.Laws.{chip-words-chip}
use Rattle.bus_host.proofs.Devices.{long-in, allowed-in, share_in, lent_back}
use Rattle.bus_host.proofs.Numbers.{bus-answers, acknowledge-told}

-- ---- refusals

devices-small : (a b c : Bool) → (refuse a 1 then refuse b 2 then refuse c 12) ≤ 13
devices-small true b c = omega arith
devices-small false true c = omega arith
devices-small false false true = omega arith
devices-small false false false = omega arith

event-small : (a b c : Bool) → (refuse a 3 then refuse b 13 then refuse c 4) ≤ 13
event-small true b c = omega arith
event-small false true c = omega arith
event-small false false true = omega arith
event-small false false false = omega arith

pixels-small : (t : Bool) → pixels_refusal_for t ≤ 16
pixels-small true = omega arith
pixels-small false = omega arith

then-small : (a b : ℕ) → a ≤ 16 → b ≤ 16 → (a then b) ≤ 16
then-small zero b ha hb = hb
then-small (suc a) b ha hb = ha

refusal-tells-none : (r : ℕ) → r ≤ 16 → tells_acknowledge r ≡ false
refusal-tells-none r h = simp (ne_eqb r 257 (λ q. omega arith), lt-leb 259 r (omega arith))

never-none : (t : Bool) → no_record_for t ≡ 0 → ⊥
never-none true q = omega arith
never-none false q = omega arith

-- devices in words are those devices
devices-back : (ds : List Device) → map device_in (map lent_by ds) ≡ ds
devices-back [] = refl
devices-back (d ∷ ds) = rw (chip-words-chip d.chip, devices-back ds)

module _ (e k : ℕ) (ls : List Lent) (n : ℕ) where
  refusal-in : every_lent has_record ls ≡ true → bus_refusal e k (bus (map device_in ls) n) ≡ bus_call_refusal e k ls n
  unfolding bus_refusal devices_refusal
  refusal-in h = rw (long-in ls h, allowed-in ls h, share_in ls h)

  refused-unread : every_lent has_record ls ≡ false → bus_call_refusal e k ls n ≡ no_record_for (every_lent has_lengths ls)
  refused-unread h = go (every_lent has_lengths ls) refl
    where
      go : (t : Bool) → every_lent has_lengths ls ≡ t → bus_call_refusal e k ls n ≡ no_record_for t
      go true q = rw (q, h)
      go false q = rw q

  sent-small : sent_refusal e k n ≤ 13
  unfolding sent_refusal
  sent-small = event-small (not (is_listed_event e)) (is_sensor_reading e && ltb 3 k) (eqb n (2 ^ 64 - 1))

  -- the numbers of refusals end below those of answers
  pub refusal-small : bus_call_refusal e k ls n ≤ 16
  refusal-small =
      then-small (lent_refusal ls) (sent_refusal e k n then pixels_refusal_for (every (counts_fit e) (map device_in ls)))
      (omega
      (arith, devices-small (not (every_lent has_lengths ls)) (not (every_lent has_record ls)) (not (pins_words_differ ls && phase_words_agree ls))))
      (then-small (sent_refusal e k n) _ (omega (arith, sent-small)) (pixels-small (every (counts_fit e) (map device_in ls))))

  -- a refused call changes none of the buffers, nor the count
  pub bus-refused : (r : ℕ) → bus_call_refusal e k ls n ≡ suc r → bus_call e k ls n ≡ called (suc r) ls n
  unfolding bus_call bus_step_of
  bus-refused r q = go (every_lent has_record ls) refl
    where
      go : (t : Bool) → every_lent has_record ls ≡ t → bus_call e k ls n ≡ called (suc r) ls n
      go true h = rw (h, refusal-in h ∙ q, lent_back ls h)
      go false h = rw (h, sym (refused-unread h) ∙ q)

  accepted-in : bus_call_refusal e k ls n ≡ 0 → every_lent has_record ls ≡ true
  accepted-in q = go (every_lent has_record ls) refl
    where
      go : (t : Bool) → every_lent has_record ls ≡ t → every_lent has_record ls ≡ true
      go true h = h
      go false h = absurd (never-none (every_lent has_lengths ls) (sym (refused-unread h) ∙ q))

  -- a call that is not refused does what the bus does
  pub bus-accepted : bus_call_refusal e k ls n ≡ 0 → bus_call e k ls n ≡ after_bus_step (bus_step_of e k (bus (map device_in ls) n))
  unfolding bus_call
  bus-accepted q = rw (accepted-in q)

  bus-accepts : bus_call_refusal e k ls n ≡ 0 → bus_refusal e k (bus (map device_in ls) n) ≡ 0
  bus-accepts q = refusal-in (accepted-in q) ∙ q

  answered : bus_call_refusal e k ls n ≡ 0 → (bus_call e k ls n).number ≡ number_of (bus_step_of e k (bus (map device_in ls) n)).answer
  answered q = ap (λ (c : Called). c.number) (bus-accepted q)

  sound : bus_call_refusal e k ls n ≡ 0 → NoRefusal (bus_step_of e k (bus (map device_in ls) n)).answer
  sound q = bus-answers e k (bus (map device_in ls) n) (bus-accepts q)

  given : (x : ℕ) → bus_call_refusal e k ls n ≡ suc x → (bus_call e k ls n).number ≡ suc x
  given x q = ap (λ (c : Called). c.number) (bus-refused x q)

  -- a number below 256 is given exactly where it is the first refusal in its order
  pub refused-exactly : (r : ℕ) → suc r < 256 → ((bus_call e k ls n).number ≡ suc r) ↔ (bus_call_refusal e k ls n ≡ suc r)
  refused-exactly r small = (there (bus_call_refusal e k ls n) refl, given r)
    where
      there : (x : ℕ) → bus_call_refusal e k ls n ≡ x → (bus_call e k ls n).number ≡ suc r → bus_call_refusal e k ls n ≡ suc r
      there zero q h = absurd (omega (arith, sym (answered q) ∙ h, no-refusal-number (bus_step_of e k (bus (map device_in ls) n)).answer (sound q)))
      there (suc x) q h = q ∙ sym (given x q) ∙ h

  -- every other number exactly where the event is accepted and the bus has the answer of that number: 257 for an acknowledge that is no command's, 258 for
  -- no acknowledge, 259 to 261 for a command that is taken, unknown or out of range, 512 and more for a byte read, 256 for none of these
  pub answered-exactly :
      (a : Answer) → NoRefusal a
      → ((bus_call e k ls n).number ≡ number_of a) ↔ ((bus_call_refusal e k ls n ≡ 0) × ((bus_step_of e k (bus (map device_in ls) n)).answer ≡ a))
  answered-exactly a na = (there (bus_call_refusal e k ls n) refl, λ (q, h). answered q ∙ ap number_of h)
    where
      there :
          (x : ℕ) → bus_call_refusal e k ls n ≡ x → (bus_call e k ls n).number ≡ number_of a
          → (bus_call_refusal e k ls n ≡ 0) × ((bus_step_of e k (bus (map device_in ls) n)).answer ≡ a)
      there zero q h = (q, same_answer _ a (sound q) na (sym (answered q) ∙ h))
      there (suc x) q h = absurd (omega (arith, refusal-small, q, sym (given x q) ∙ h, no-refusal-number a na))

  -- a byte's number tells of an acknowledge exactly where the call is not refused and some chip, were it alone, acknowledges the byte
  pub acknowledged-exactly :
      e < 256
      → (tells_acknowledge (bus_call e k ls n).number ≡ true) ↔ ((bus_call_refusal e k ls n ≡ 0) × Somewhere (Acknowledges e n) (map device_in ls))
  acknowledged-exactly byte = (there (bus_call_refusal e k ls n) refl, λ (q, some). told q ∙ (by-some (bus-accepts q)).1 some)
    where
      b : Bus
      b = bus (map device_in ls) n

      by-some : bus_refusal e k b ≡ 0 → (is_acknowledged (bus_step_of e k b).answer ≡ true) ↔ Somewhere (Acknowledges e n) (map device_in ls)
      by-some h = by-bus.acknowledged-exactly e k b h byte

      told : bus_call_refusal e k ls n ≡ 0 → tells_acknowledge (bus_call e k ls n).number ≡ is_acknowledged (bus_step_of e k b).answer
      told q = ap tells_acknowledge (answered q) ∙ sym (acknowledge-told (bus_step_of e k b).answer (sound q))

      there :
          (x : ℕ) → bus_call_refusal e k ls n ≡ x → tells_acknowledge (bus_call e k ls n).number ≡ true
          → (bus_call_refusal e k ls n ≡ 0) × Somewhere (Acknowledges e n) (map device_in ls)
      there zero q h = (q, (by-some (bus-accepts q)).0 (sym (told q) ∙ h))
      there (suc x) q h = absurd (false-true (sym (refusal-tells-none (suc x) (rw q at refusal-small)) ∙ sym (ap tells_acknowledge (given x q)) ∙ h))

  -- a byte that is not refused, and that no chip acknowledges, gives 258
  pub not-acknowledged : e < 256 → bus_call_refusal e k ls n ≡ 0 → (Somewhere (Acknowledges e n) (map device_in ls) → ⊥) → (bus_call e k ls n).number ≡ 258
  not-acknowledged byte q none = answered q ∙ ap number_of (by-bus.not-acknowledged e k (bus (map device_in ls) n) (bus-accepts q) byte none)

  -- a call that is not refused adds 1 to the count
  pub bus-adds : bus_call_refusal e k ls n ≡ 0 → (bus_call e k ls n).count ≡ n + 1
  bus-adds q = ap (λ (c : Called). c.count) (bus-accepted q) ∙ by-bus.count_law e k (bus (map device_in ls) n) (bus-accepts q)

  -- ---- the counts of pixels

  -- true before a call, true after it, whatever is lent and whether it is refused or not
  pub bus-stays-true : AllTrue (map device_in ls) → AllTrue (map device_in (bus_call e k ls n).buffers)
  unfolding bus_call
  bus-stays-true t = go (every_lent has_record ls) refl
    where
      go : (r : Bool) → every_lent has_record ls ≡ r → AllTrue (map device_in (bus_call e k ls n).buffers)
      go true h =
          rw h
          (subst AllTrue (sym (devices-back (bus_step_of e k (bus (map device_in ls) n)).bus.devices)) (by-bus.stays-true e k (bus (map device_in ls) n) t))
      go false h = rw h t

  -- and never a reason for 16
  pub bus-never-16 : AllTrue (map device_in ls) → (bus_call e k ls n).number ≡ 16 → ⊥
  bus-never-16 t q = go (every_lent has_record ls) refl
    where
      sixteen : bus_call_refusal e k ls n ≡ 16
      sixteen = (refused-exactly 15 (omega arith)).0 q

      one-or-two : (r : Bool) → no_record_for r ≡ 16 → ⊥
      one-or-two true z = omega arith
      one-or-two false z = omega arith

      go : (r : Bool) → every_lent has_record ls ≡ r → ⊥
      go true h = by-bus.true-never-16 e k (bus (map device_in ls) n) t (refusal-in h ∙ sixteen)
      go false h = one-or-two (every_lent has_lengths ls) (sym (refused-unread h) ∙ sixteen)
