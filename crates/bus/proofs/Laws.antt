-- What is promised of chips on one bus, event by event, in one place: read this file first. The work stands in the files beside it.
use mathlib.Core.Bool.{true, false}
use mathlib.Core.List.{List, [], ◌∷◌, map}
use mathlib.Core.Logic.{◌↔◌}
use mathlib.Core.Path.{◌≡◌, refl, subst}
use Prim.Native.Nat.{ℕ, zero, suc, ◌+◌, ◌-◌, ◌^◌, ◌<◌, ◌≤◌}
use lib.ListN.{length}
use Rattle.registers.specs.declared.Phase.TheVariants.{Idle, AddressAwaited}
use Rattle.registers.specs.State.{places}
use Rattle.commands.specs.declared.answer.CommandAnswer.{CommandAnswer}
use Rattle.commands.specs.Command.{answer_to}
use Rattle.phases.specs.Changes.{read_byte, sensed}
use Rattle.phases.specs.Phases.{is_reading}
use Rattle.engine.specs.Answer.{Refused, Nothing, NotAcknowledged, Command, Read}
use Rattle.engine.specs.Event.{is_acknowledged}
use Rattle.engine.specs.Step.{After, step_of}
use Rattle.chip.specs.When.{ListedEvent}
use Rattle.bus.specs.Answers.{Acknowledges, AwaitsCommand, IsRead}
use Rattle.bus.specs.Bus.{Device, Bus, bus, AllTrue, fresh_devices, At, Somewhere, alone, device_of, is_past}
use Rattle.bus.specs.Reach.{with_chip, now_in, pulsed_device, sensed_at, KeptButPhase, HasPins}
use Rattle.bus.specs.Refusals.{is_sensor_reading, bus_refusal}
use Rattle.bus.specs.Step.{bus_after, misses, device_after, bus_step_of}
use Rattle.bus.specs.When.{Sound, PinsNamed, When}
use Rattle.bus.specs.Streams.{sent}
use Rattle.bus.proofs.Alone.{stepped-true}
use Rattle.bus.proofs.Answers as Answers
use Rattle.bus.proofs.Fits as Fits
use Rattle.bus.proofs.Reach as Reach
use Rattle.bus.proofs.Refusals as Refusals
use Rattle.bus.proofs.Speaking as Speaking

module _ (e k : ℕ) (b : Bus) where
  -- ---- refusals

  -- each number comes exactly when the table says, 1, 2, 12, 3, 13, 4 and 16 in this order, and no other
  pub exactly-when : (r : ℕ) → (bus_refusal e k b ≡ r) ↔ When e k b r
  exactly-when = Refusals.exactly-when e k b

  -- 13 is for sensor readings alone
  pub pins-of-readings : is_sensor_reading e ≡ false → bus_refusal e k b ≡ 13 → ⊥
  pins-of-readings = Refusals.pins-of-readings e k b

  -- a refused event gives its number, and changes nothing
  pub refused : (r : ℕ) → bus_refusal e k b ≡ suc r → bus_step_of e k b ≡ bus_after (Refused (suc r)) b.devices b.count
  refused = Refusals.refused-changes-nothing e k b

  -- what 1, 2 and 12 let pass stays so after every event
  pub stays-sound : Sound b.devices → Sound (bus_step_of e k b).bus.devices
  stays-sound sound = go (bus_refusal e k b) refl
    where
      go : (r : ℕ) → bus_refusal e k b ≡ r → Sound (bus_step_of e k b).bus.devices
      go zero h =
          let fit = Fits.stays_fit e k (b.count + 1) b.devices ((Refusals.sound-fit b.devices).1 sound) in
          rw (Reach.devices-after e k b h) ((Refusals.sound-fit (map (device_after e k (b.count + 1)) b.devices)).0 fit)
      go (suc r) h = rw (Refusals.refused-changes-nothing e k b r h) sound

  -- true counts of pixels stay true after every event, and are never a reason for 16
  pub stays-true : AllTrue b.devices → AllTrue (bus_step_of e k b).bus.devices
  stays-true t = stepped-true (sent e k) b t

  pub true-never-16 : AllTrue b.devices → bus_refusal e k b ≡ 16 → ⊥
  true-never-16 = Refusals.true-never-16 e k b

  -- the number added is ignored but for sensor readings
  pub added-number : (j : ℕ) → is_sensor_reading e ≡ false → bus_step_of e k b ≡ bus_step_of e j b
  added-number j = Answers.added-number e k j b

  -- ---- an event that is not refused

  module _ (h : bus_refusal e k b ≡ 0) where
    -- it adds 1 to the bus's count
    pub count_law : (bus_step_of e k b).bus.count ≡ b.count + 1
    count_law = Reach.count_after e k b h

    -- a chip on the bus takes it as a chip of its own with the bus's count takes it, but for a sensor reading that names other pins
    pub as-alone :
        (i : ℕ) (d : Device) → At i d b.devices → misses e k d ≡ false
        → At i (device_of (step_of e (alone b.count d)).state) (bus_step_of e k b).bus.devices
    as-alone i d a m =
        let heard = Answers.heard-as-alone e k b h i d a m in
        subst (λ (x : After). At i (device_of x.state) (bus_step_of e k b).bus.devices) heard (Reach.at_after e k b h i d a)

    -- its answer is no refusal
    pub never-refused : (r : ℕ) → (bus_step_of e k b).answer ≡ Refused r → ⊥
    never-refused = Answers.never-refused e k b h

    -- at most one chip is past its address
    pub one-past : (i j : ℕ) (c d : Device) → At i c b.devices → At j d b.devices → is_past c ≡ true → is_past d ≡ true → i ≡ j
    one-past = Speaking.one-past-place b.devices (Refusals.bus-accepts e k b h).sound

    -- ---- a byte

    module _ (byte : e < 256) where
      -- it is acknowledged exactly if some chip acknowledges it
      pub acknowledged-exactly : (is_acknowledged (bus_step_of e k b).answer ≡ true) ↔ Somewhere (Acknowledges e b.count) b.devices
      acknowledged-exactly = Answers.acknowledged-exactly e k b h byte

      -- else it is not acknowledged, and gets no other answer
      pub not-acknowledged : (Somewhere (Acknowledges e b.count) b.devices → ⊥) → (bus_step_of e k b).answer ≡ NotAcknowledged
      not-acknowledged = Answers.not-acknowledged e k b h byte

      -- a command's answer is that of the chip that got it
      pub command-answer :
          (i : ℕ) (d : Device) → At i d b.devices → AwaitsCommand d → (bus_step_of e k b).answer ≡ Command (answer_to d.chip.registers.h e)
      command-answer = Answers.command-answer e k b h byte

      -- two places where more than the phase changed are one: a write reaches one chip
      pub one-reached :
          (i j : ℕ) (c c-after d d-after : Device) → At i c b.devices → At j d b.devices
          → At i c-after (bus_step_of e k b).bus.devices → At j d-after (bus_step_of e k b).bus.devices
          → (KeptButPhase c c-after → ⊥) → (KeptButPhase d d-after → ⊥) → i ≡ j
      one-reached = Reach.one-reached e k b h byte

    -- an answer to a command comes only to a byte that some chip awaits as a command
    pub command-only : (a : CommandAnswer) → (bus_step_of e k b).answer ≡ Command a → (e < 256) × Somewhere AwaitsCommand b.devices
    command-only = Answers.command-only e k b h

    -- ---- a read

    module _ (read : IsRead e) where
      -- it gives the reading chip's byte
      pub read_answer :
          (i : ℕ) (d : Device) → At i d b.devices → is_reading d.chip.phase ≡ true
          → (bus_step_of e k b).answer ≡ Read (read_byte d.chip)
      read_answer = Answers.read_answer e k b h read

      -- else 255
      pub read-unanswered : ((i : ℕ) (d : Device) → At i d b.devices → is_reading d.chip.phase ≡ false) → (bus_step_of e k b).answer ≡ Read 255
      read-unanswered = Answers.read-unanswered e k b h read

    -- ---- a sensor reading

    module _ (sensor : is_sensor_reading e ≡ true) where
      -- it is one for the chip whose pins it names
      pub sensor-law : bus_step_of e k b ≡ bus_after Nothing (map (sensed_at k (e - 512)) b.devices) (b.count + 1)
      sensor-law = Reach.sensor-reaches e k b h sensor

      -- the chip whose pins it names takes it
      pub sensor-taken :
          (i : ℕ) (d : Device) → At i d b.devices → HasPins k d → At i (with_chip (sensed (e - 512) d.chip) d) (bus_step_of e k b).bus.devices
      sensor-taken = Reach.sensor-taken e k b h sensor

      -- every other stays as it is
      pub sensor-leaves : (i : ℕ) (d : Device) → At i d b.devices → (HasPins k d → ⊥) → At i d (bus_step_of e k b).bus.devices
      sensor-leaves = Reach.sensor-leaves e k b h sensor

-- ---- reset pulse, START and STOP reach every chip

module _ (k : ℕ) (b : Bus) where
  pub reset-law : bus_refusal 260 k b ≡ 0 → bus_step_of 260 k b ≡ bus_after Nothing (map pulsed_device b.devices) (b.count + 1)
  reset-law = Reach.reset-reaches k b

  pub start-law : bus_refusal 256 k b ≡ 0 → bus_step_of 256 k b ≡ bus_after Nothing (map (now_in AddressAwaited) b.devices) (b.count + 1)
  start-law = Reach.start-reaches k b

  pub stop-law : bus_refusal 257 k b ≡ 0 → bus_step_of 257 k b ≡ bus_after Nothing (map (now_in Idle) b.devices) (b.count + 1)
  stop-law = Reach.stop-reaches k b

-- ---- four chips

-- four chips as a reset leaves them, with the pins 0 to 3 and memories 1,717 long, take every listed event while the count has room
pub fresh-accepts :
    (memories writers : ℕ → List ℕ) → ((pins : ℕ) → (length (memories pins) ≡ places) × (length (writers pins) ≡ places))
    → (e k n : ℕ) → ListedEvent e → PinsNamed e k → (n ≡ 2 ^ 64 - 1 → ⊥) → bus_refusal e k (bus (fresh_devices memories writers) n) ≡ 0
fresh-accepts = Refusals.fresh-accepts

-- four that 1, 2 and 12 let pass have the pins 0, 1, 2 and 3
pub four-pins : (a b c d : Device) → Sound (a ∷ b ∷ c ∷ d ∷ []) → (p : ℕ) → p ≤ 3 → Somewhere (HasPins p) (a ∷ b ∷ c ∷ d ∷ [])
four-pins = Reach.four-pins

-- so that a sensor reading which is not refused finds its chip
pub sensor-found :
    (e k n : ℕ) (a b c d : Device) → bus_refusal e k (bus (a ∷ b ∷ c ∷ d ∷ []) n) ≡ 0 → is_sensor_reading e ≡ true
    → Somewhere (HasPins k) (a ∷ b ∷ c ∷ d ∷ [])
sensor-found = Reach.sensor-found
