-- How far an accepted event reaches: a reset pulse, START and STOP every device, a sensor reading the one with its pins, a byte at most one.
use mathlib.Core.Bool.{Bool, true, false, cond, not, ◌&&◌}
use mathlib.Core.List.{List, [], ◌∷◌, map}
use mathlib.Core.Path.{◌≡◌, refl, sym, ap, ◌∙◌, subst}
use Prim.Native.Nat.{ℕ, ◌+◌, ◌-◌, ◌<◌, ◌≤◌}
use native.Mathlib.Decide.{ℕ_discrete}
use native.Mathlib.Omega.{arith}
use borrow.Author.Tests.{eq-eqb, ne_eqb}
use lib.Dec.{eqb}
use Rattle.registers.specs.declared.Phase.{Phase}
use Rattle.registers.specs.declared.Phase.TheVariants.{Idle, AddressAwaited, Ignoring, ControlAwaited, OneByte, EndlessBytes, Reading, ReadEnded}
use Rattle.registers.proofs.Below.{false-true}
use Rattle.registers.proofs.Within.{allowed-pins}
use Rattle.phases.specs.Changes.{sensed}
use Rattle.engine.specs.Answer.{Nothing}
use Rattle.engine.specs.declared.event.Event.{Event}
use Rattle.engine.specs.Event.{event_of}
use Rattle.engine.specs.Step.{After, nothing_stored, on_byte, applied}
use Rattle.bus.specs.Bus.{Device, Bus, bus, At, Somewhere, alone, device_of, is_past_phase, is_past}
use Rattle.bus.specs.Reach.{with_chip, now_in, pulsed_device, sensed_at, KeptButPhase, HasPins}
use Rattle.bus.specs.Refusals.{is_sensor_reading, bus_refusal}
use Rattle.bus.specs.Step.{BusAfter, bus_after, heard_by, device_after, answer_of, bus_accepted, bus_step_of}
use Rattle.bus.specs.When.{Sound}
use Rattle.bus.proofs.Answers.{start-answer, stop-answer, reset-answer, sensor-answer}
use Rattle.bus.proofs.Every.{at_map, at_same, map_same}
use Rattle.bus.proofs.Phases.{is-reading, reading-is-sensor}
use Rattle.bus.proofs.Refusals.{accepted-bus-step, bus-accepts}
use Rattle.bus.proofs.Speaking.{one-past-place, heard-byte}

-- ---- any accepted event

module _ (e k : ℕ) (b : Bus) (h : bus_refusal e k b ≡ 0) where
  pub devices-after : (bus_step_of e k b).bus.devices ≡ map (device_after e k (b.count + 1)) b.devices
  unfolding bus_accepted
  devices-after = ap (λ (x : BusAfter). x.bus.devices) (accepted-bus-step e k b h)

  -- it adds 1 to the bus's count, and that is its number for every chip
  pub count_after : (bus_step_of e k b).bus.count ≡ b.count + 1
  unfolding bus_accepted
  count_after = ap (λ (x : BusAfter). x.bus.count) (accepted-bus-step e k b h)

  -- each device stays at its place
  pub at_after : (i : ℕ) (d : Device) → At i d b.devices → At i (device_after e k (b.count + 1) d) (bus_step_of e k b).bus.devices
  at_after i d a = rw devices-after (at_map (device_after e k (b.count + 1)) b.devices i d a)

  -- an event that makes f of each device, with no answer
  reaches :
      (f : Device → Device) → (bus_step_of e k b).answer ≡ Nothing → ((d : Device) → device_after e k (b.count + 1) d ≡ f d)
      → bus_step_of e k b ≡ bus_after Nothing (map f b.devices) (b.count + 1)
  unfolding bus_accepted
  reaches f answer each =
      let whole = accepted-bus-step e k b h in
      let none : answer_of e k (b.count + 1) b.devices ≡ Nothing = ap (λ (x : BusAfter). x.answer) (sym whole) ∙ answer in
      whole ∙ rw (none, map_same (device_after e k (b.count + 1)) f each b.devices)

-- ---- events that reach all

module _ (k : ℕ) (b : Bus) where
  -- a reset pulse is one for every chip, and leaves every memory
  pub reset-reaches : bus_refusal 260 k b ≡ 0 → bus_step_of 260 k b ≡ bus_after Nothing (map pulsed_device b.devices) (b.count + 1)
  unfolding heard_by applied
  reset-reaches h = reaches 260 k b h pulsed_device (reset-answer 260 k b h refl) (λ d. refl)

  -- after a START every chip awaits an address, after a STOP every chip is idle
  pub start-reaches : bus_refusal 256 k b ≡ 0 → bus_step_of 256 k b ≡ bus_after Nothing (map (now_in AddressAwaited) b.devices) (b.count + 1)
  unfolding heard_by applied
  start-reaches h = reaches 256 k b h (now_in AddressAwaited) (start-answer 256 k b h refl) (λ d. refl)

  pub stop-reaches : bus_refusal 257 k b ≡ 0 → bus_step_of 257 k b ≡ bus_after Nothing (map (now_in Idle) b.devices) (b.count + 1)
  unfolding heard_by applied
  stop-reaches h = reaches 257 k b h (now_in Idle) (stop-answer 257 k b h refl) (λ d. refl)

-- ---- a sensor reading

module _ (e k : ℕ) (b : Bus) (h : bus_refusal e k b ≡ 0) (t : is_sensor_reading e ≡ true) where
  sensed-after : (n : ℕ) (d : Device) → device_after e k n d ≡ sensed_at k (e - 512) d
  unfolding heard_by applied
  sensed-after n d = ap (λ (x : Bool). after (x && not (eqb d.chip.pins k))) t ∙ go (eqb d.chip.pins k)
    where
      after : Bool → Device
      after missed = device_of (cond missed (nothing_stored Nothing d.chip (alone n d)) (applied (event_of e) (alone n d))).state

      go : (s : Bool) → after (not s) ≡ cond s (with_chip (sensed (e - 512) d.chip) d) d
      go true = ap (λ (v : Event). device_of (applied v (alone n d)).state) (reading-is-sensor e t)
      go false = refl

  -- it is one for the chip whose pins it names
  pub sensor-reaches : bus_step_of e k b ≡ bus_after Nothing (map (sensed_at k (e - 512)) b.devices) (b.count + 1)
  sensor-reaches = reaches e k b h (sensed_at k (e - 512)) (sensor-answer e k b h t) (sensed-after (b.count + 1))

  pub sensor-taken :
      (i : ℕ) (d : Device) → At i d b.devices → HasPins k d → At i (with_chip (sensed (e - 512) d.chip) d) (bus_step_of e k b).bus.devices
  sensor-taken i d a p =
      let taken : sensed_at k (e - 512) d ≡ with_chip (sensed (e - 512) d.chip) d = rw (eq-eqb d.chip.pins k p) in
      subst (λ (x : Device). At i x (bus_step_of e k b).bus.devices) (sensed-after (b.count + 1) d ∙ taken) (at_after e k b h i d a)

  -- and leaves all of every other
  pub sensor-leaves : (i : ℕ) (d : Device) → At i d b.devices → (HasPins k d → ⊥) → At i d (bus_step_of e k b).bus.devices
  sensor-leaves i d a p =
      let left : sensed_at k (e - 512) d ≡ d = rw (ne_eqb d.chip.pins k p) in
      subst (λ (x : Device). At i x (bus_step_of e k b).bus.devices) (sensed-after (b.count + 1) d ∙ left) (at_after e k b h i d a)

-- ---- a byte

-- a chip that is not past its address moves on in its phase alone
byte-kept : (p : Phase) (b n : ℕ) (d : Device) → d.chip.phase ≡ p → is_past_phase p ≡ false → KeptButPhase d (device_of (on_byte p b (alone n d)).state)
byte-kept Idle b n d q t = refl
byte-kept AddressAwaited b n d q t = refl
byte-kept Ignoring b n d q t = refl
byte-kept ControlAwaited b n d q t = absurd (false-true (sym t))
byte-kept (OneByte rs) b n d q t = absurd (false-true (sym t))
byte-kept (EndlessBytes rs) b n d q t = absurd (false-true (sym t))
byte-kept Reading b n d q t = refl
byte-kept ReadEnded b n d q t = refl

module _ (e k : ℕ) (b : Bus) (h : bus_refusal e k b ≡ 0) (byte : e < 256) where
  -- a byte leaves all but the phase of a chip that is not past its address
  pub byte-leaves : (i : ℕ) (d after : Device) → At i d b.devices → At i after (bus_step_of e k b).bus.devices → is_past d ≡ false → KeptButPhase d after
  byte-leaves i d after a s t =
      let is = at_same (bus_step_of e k b).bus.devices i (device_after e k (b.count + 1) d) after (at_after e k b h i d a) s in
      let kept = byte-kept d.chip.phase e (b.count + 1) d refl t in
      subst (KeptButPhase d) is (subst (λ (x : After). KeptButPhase d (device_of x.state)) (sym (heard-byte e k (b.count + 1) byte d)) kept)

  -- so a byte reaches at most one: two places where more than the phase changed are one place
  pub one-reached :
      (i j : ℕ) (c c-after d d-after : Device) → At i c b.devices → At j d b.devices
      → At i c-after (bus_step_of e k b).bus.devices → At j d-after (bus_step_of e k b).bus.devices
      → (KeptButPhase c c-after → ⊥) → (KeptButPhase d d-after → ⊥) → i ≡ j
  one-reached i j c c-after d d-after a s x y m n =
      one-past-place b.devices (bus-accepts e k b h).sound i j c d a s (changed i c c-after a x m) (changed j d d-after s y n)
    where
      changed :
          (i : ℕ) (d after : Device) → At i d b.devices → At i after (bus_step_of e k b).bus.devices → (KeptButPhase d after → ⊥) → is_past d ≡ true
      changed i d after a s m = go (is_past d) refl
        where
          go : (t : Bool) → is_past d ≡ t → t ≡ true
          go true q = refl
          go false q = absurd (m (byte-leaves i d after a s q))

-- ---- the pins of four

abbrev Differ : ℕ → ℕ → Type 0
Differ x y = x ≡ y → ⊥

-- four different numbers are not all up to 2, nor five up to 3
four-numbers : (a b c d : ℕ) → a ≤ 2 → b ≤ 2 → c ≤ 2 → d ≤ 2 → Differ a b → Differ a c → Differ a d → Differ b c → Differ b d → Differ c d → ⊥
four-numbers a b c d la lb lc ld ab ac ad bc bd cd = omega arith

up_to : (a b : ℕ) → a ≡ 3 → b ≤ 3 → Differ a b → b ≤ 2
up_to a b q l n = omega arith

module _ (a b c d p : ℕ) (la : a ≤ 3) (lb : b ≤ 3) (lc : c ≤ 3) (ld : d ≤ 3) (lp : p ≤ 3) where
  five-numbers :
      Differ a b → Differ a c → Differ a d → Differ b c → Differ b d → Differ c d → Differ a p → Differ b p → Differ c p → Differ d p → ⊥
  five-numbers ab ac ad bc bd cd ap bp cp dp = go (ℕ_discrete a 3) (ℕ_discrete b 3) (ℕ_discrete c 3) (ℕ_discrete d 3)
    where
      under : (x : ℕ) → x ≤ 3 → Differ x 3 → x ≤ 2
      under x l n = omega arith

      go : Dec (a ≡ 3) → Dec (b ≡ 3) → Dec (c ≡ 3) → Dec (d ≡ 3) → ⊥
      go (yes q) _ _ _ = four-numbers b c d p (up_to a b q lb ab) (up_to a c q lc ac) (up_to a d q ld ad) (up_to a p q lp ap) bc bd bp cd cp dp
      go (no na) (yes q) _ _ = four-numbers a c d p (under a la na) (up_to b c q lc bc) (up_to b d q ld bd) (up_to b p q lp bp) ac ad ap cd cp dp
      go (no na) (no nb) (yes q) _ = four-numbers a b d p (under a la na) (under b lb nb) (up_to c d q ld cd) (up_to c p q lp cp) ab ad ap bd bp dp
      go (no na) (no nb) (no nc) (yes q) = four-numbers a b c p (under a la na) (under b lb nb) (under c lc nc) (up_to d p q lp dp) ab ac ap bc bp cp
      go (no na) (no nb) (no nc) (no nd) = four-numbers a b c d (under a la na) (under b lb nb) (under c lc nc) (under d ld nd) ab ac ad bc bd cd

-- four that 1, 2 and 12 let pass have the pins 0, 1, 2 and 3, so that an accepted sensor reading finds its chip
pub four-pins :
    (a b c d : Device) → Sound (a ∷ b ∷ c ∷ d ∷ []) → (p : ℕ) → p ≤ 3 → Somewhere (HasPins p) (a ∷ b ∷ c ∷ d ∷ [])
four-pins a b c d sound p l =
    go (ℕ_discrete a.chip.pins p) (ℕ_discrete b.chip.pins p) (ℕ_discrete c.chip.pins p) (ℕ_discrete d.chip.pins p)
  where
    ds : List Device
    ds = a ∷ b ∷ c ∷ d ∷ []

    none : (a.chip.pins ≡ p → ⊥) → (b.chip.pins ≡ p → ⊥) → (c.chip.pins ≡ p → ⊥) → (d.chip.pins ≡ p → ⊥) → ⊥
    none na nb nc nd =
        let own = sound.sharing.own_pins in
        let bound : (i : ℕ) (x : Device) → At i x ds → x.chip.pins ≤ 3 = λ i x s. allowed-pins x.chip (sound.allowed i x s) in
        five-numbers a.chip.pins b.chip.pins c.chip.pins d.chip.pins p
        (bound 0 a refl) (bound 1 b refl) (bound 2 c refl) (bound 3 d refl) l
        (own 0 1 a b (omega arith) refl refl) (own 0 2 a c (omega arith) refl refl) (own 0 3 a d (omega arith) refl refl)
        (own 1 2 b c (omega arith) refl refl) (own 1 3 b d (omega arith) refl refl) (own 2 3 c d (omega arith) refl refl) na nb nc nd

    go : Dec (a.chip.pins ≡ p) → Dec (b.chip.pins ≡ p) → Dec (c.chip.pins ≡ p) → Dec (d.chip.pins ≡ p) → Somewhere (HasPins p) ds
    go (yes q) _ _ _ = record { place = 0; which = a; stands = refl; so = q }
    go (no na) (yes q) _ _ = record { place = 1; which = b; stands = refl; so = q }
    go (no na) (no nb) (yes q) _ = record { place = 2; which = c; stands = refl; so = q }
    go (no na) (no nb) (no nc) (yes q) = record { place = 3; which = d; stands = refl; so = q }
    go (no na) (no nb) (no nc) (no nd) = absurd (none na nb nc nd)

pub sensor-found :
    (e k n : ℕ) (a b c d : Device) → bus_refusal e k (bus (a ∷ b ∷ c ∷ d ∷ []) n) ≡ 0 → is_sensor_reading e ≡ true
    → Somewhere (HasPins k) (a ∷ b ∷ c ∷ d ∷ [])
sensor-found e k n a b c d h t =
    let accepts = bus-accepts e k (bus (a ∷ b ∷ c ∷ d ∷ []) n) h in
    let reading = is-reading e t in
    four-pins a b c d accepts.sound k (accepts.named reading.0 (omega (arith, reading.1)))
