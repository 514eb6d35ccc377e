-- A chip on a bus goes the way of a chip alone that is sent what it hears. So every law of a chip alone is one of a chip on a bus.
use mathlib.Core.Bool.{Bool, true, false, cond}
use mathlib.Core.List.{List, [], ◌∷◌, map}
use mathlib.Core.Logic.{inl}
use mathlib.Core.Path.{◌≡◌, refl, sym, ap, ◌∙◌, subst}
use Prim.Native.Nat.{ℕ, zero, suc, ◌+◌, ◌<◌}
use native.Mathlib.Nat.{le_of_suc-le-suc, not-suc-le-zero}
use native.Mathlib.Omega.{arith}
use lib.ListN.{get_or, length, length-map}
use Rattle.registers.specs.State.{State}
use Rattle.engine.specs.Answer.{Nothing}
use Rattle.engine.specs.Event.{event_of}
use Rattle.engine.specs.Step.{After, nothing_stored, applied, accepted, refusal_of, step_of}
use Rattle.chip.specs.LastWriter.{before}
use Rattle.chip.specs.Plays.{played}
use Rattle.chip.specs.When.{none}
use Rattle.chip.proofs.LastWriter.{counts-accepted}
use Rattle.chip.proofs.Refusals.{accepted-step, when-so}
use Rattle.bus.specs.Bus.{Device, Bus, At, alone, device_of, AllTrue}
use Rattle.bus.specs.Refusals.{BusFit}
use Rattle.bus.specs.Step.{misses, heard_by, device_after, BusAfter, bus_accepted, unless_refused, bus_step_of}
use Rattle.bus.specs.Streams.{Sent, refusal_at, stepped, bus_played, accepted_of, unless_refusal, heard_as, heard_of, device_with, is_on, device_at, chip_on}
use Rattle.bus.proofs.Counts.{all-true-after}
use Rattle.bus.proofs.Fits.{fits-alone, stays_fit}
use Rattle.bus.proofs.Phases.{device-pins}
use Rattle.bus.proofs.Picks.{Picks, still-on, OnBus, by_pins, with-pins, HasPlace, by_place}
use Rattle.bus.proofs.Reach as Reach
use Rattle.bus.proofs.Refusals.{refused-changes-nothing, bus-accepts, accepted-bus-fit, accepted-alone}

-- ---- one event of the bus

pub counts-stepped : (x : Sent) (b : Bus) → refusal_at x b ≡ 0 → (stepped x b).count ≡ b.count + 1
counts-stepped x b h = Reach.count_after x.event x.pins b h

pub refused-stepped : (x : Sent) (b : Bus) (r : ℕ) → refusal_at x b ≡ suc r → stepped x b ≡ b
refused-stepped x b r h = ap (λ (a : BusAfter). a.bus) (refused-changes-nothing x.event x.pins b r h)

-- a chip alone that hears an accepted event accepts it, and comes to the same
module _ (x : Sent) (b : Bus) (h : refusal_at x b ≡ 0) (i : ℕ) (d : Device) (at : At i d b.devices) where
  abbrev now : State
  now = alone b.count d

  takes-read : refusal_of 258 now ≡ 0
  takes-read =
      let fit = fits-alone b.count b.devices (accepted-bus-fit x.event x.pins b h) i d at in
      when-so 258 now 0
      (none (record {
        fit = fit;
        listed = inl (omega arith);
        room = (bus-accepts x.event x.pins b h).room;
        counts_stay_in = λ comes. absurd (omega (arith, comes.is-byte));
      }))

  takes-event : refusal_of x.event now ≡ 0
  takes-event = accepted-alone x.event x.pins b h i d at

  heard-none : refusal_of (heard_as d.chip.pins x) now ≡ 0
  heard-none = go (misses x.event x.pins d)
    where
      go : (t : Bool) → refusal_of (cond t 258 x.event) now ≡ 0
      go true = takes-read
      go false = takes-event

  heard-step : (step_of (heard_as d.chip.pins x) now).state ≡ alone (b.count + 1) (device_after x.event x.pins (b.count + 1) d)
  unfolding heard_by accepted applied
  heard-step = go (misses x.event x.pins d)
    where
      whole : (step_of x.event now).state ≡ alone (b.count + 1) (device_of (accepted x.event now).state)
      whole =
          ap (λ (a : After). a.state) (accepted-step x.event now takes-event)
          ∙ ap (λ (m : ℕ). alone m (device_of (accepted x.event now).state)) (counts-accepted x.event now)

      go :
          (t : Bool) → (step_of (cond t 258 x.event) now).state
          ≡ alone (b.count + 1)
          (device_of (cond t (nothing_stored Nothing d.chip (alone (b.count + 1) d)) (applied (event_of x.event) (alone (b.count + 1) d))).state)
      go true = ap (λ (a : After). a.state) (accepted-step 258 now takes-read)
      go false = whole

-- which pins there are stays as it was
on-stepped : (p : ℕ) (x : Sent) (b : Bus) → is_on p (stepped x b).devices ≡ is_on p b.devices
unfolding bus_step_of bus_accepted
on-stepped p x b = go (refusal_at x b)
  where
    go : (r : ℕ) → is_on p (unless_refused r (bus_accepted x.event x.pins b) b).bus.devices ≡ is_on p b.devices
    go zero = still-on p (device_after x.event x.pins (b.count + 1)) (device-pins x.event x.pins (b.count + 1)) b.devices
    go (suc r) = refl

-- ---- a stream, for a device that is picked from the list

module _ (On : List Device → Type 0) (pick : List Device → Device) (picks : Picks On pick) where
  abbrev picked : Bus → State
  picked b = alone b.count (pick b.devices)

  module _ (x : Sent) (b : Bus) (on : On b.devices) where
    abbrev after : Device → Device
    after = device_after x.event x.pins (b.count + 1)

    pub stays_on : On (stepped x b).devices
    unfolding bus_step_of bus_accepted
    stays_on = go (refusal_at x b)
      where
        go : (r : ℕ) → On (unless_refused r (bus_accepted x.event x.pins b) b).bus.devices
        go zero = picks.stays after (device-pins x.event x.pins (b.count + 1)) b.devices on
        go (suc r) = on

    pub pins-stay : (pick (stepped x b).devices).chip.pins ≡ (pick b.devices).chip.pins
    unfolding bus_step_of bus_accepted
    pins-stay = go (refusal_at x b)
      where
        go : (r : ℕ) → (pick (unless_refused r (bus_accepted x.event x.pins b) b).bus.devices).chip.pins ≡ (pick b.devices).chip.pins
        go zero =
            ap (λ (d : Device). d.chip.pins) (picks.becomes after (device-pins x.event x.pins (b.count + 1)) b.devices on)
            ∙ device-pins x.event x.pins (b.count + 1) (pick b.devices)
        go (suc r) = refl

    module _ (h : refusal_at x b ≡ 0) where
      picked-accepts : (p : ℕ) → (pick b.devices).chip.pins ≡ p → refusal_of (heard_as p x) (picked b) ≡ 0
      picked-accepts p e =
          let there = picks.stands b.devices on in
          subst (λ (q : ℕ). refusal_of (heard_as q x) (picked b) ≡ 0) e (heard-none x b h there.0 (pick b.devices) there.1)

      pub pick-after : pick (stepped x b).devices ≡ after (pick b.devices)
      pick-after =
          ap pick (Reach.devices-after x.event x.pins b h)
          ∙ picks.becomes after (device-pins x.event x.pins (b.count + 1)) b.devices on

      picked-after : picked (stepped x b) ≡ alone (b.count + 1) (after (pick b.devices))
      picked-after = λ i. alone (counts-stepped x b h i) (pick-after i)

      pub picked-step : (p : ℕ) → (pick b.devices).chip.pins ≡ p → (step_of (heard_as p x) (picked b)).state ≡ picked (stepped x b)
      picked-step p e =
          let there = picks.stands b.devices on in
          subst (λ (q : ℕ). (step_of (heard_as q x) (picked b)).state ≡ picked (stepped x b)) e
          (heard-step x b h there.0 (pick b.devices) there.1 ∙ sym picked-after)

  -- the chip alone, sent what the picked one hears, comes to the same state
  pub goes-alone :
      (xs : List Sent) (b : Bus) (p : ℕ) → On b.devices → (pick b.devices).chip.pins ≡ p
      → played (heard_of p xs b) (alone b.count (pick b.devices)) ≡ alone (bus_played xs b).count (pick (bus_played xs b).devices)
  goes-alone [] b p on e = refl
  goes-alone (x ∷ xs) b p on e =
      go (refusal_at x b) refl ∙ goes-alone xs (stepped x b) p (stays_on x b on) (pins-stay x b on ∙ e)
    where
      rest : List Sent
      rest = accepted_of xs (stepped x b)

      go :
          (r : ℕ) → refusal_at x b ≡ r
          → played (map (heard_as p) (unless_refusal r x rest)) (picked b) ≡ played (map (heard_as p) rest) (picked (stepped x b))
      go zero h = ap (played (map (heard_as p) rest)) (picked-step x b on h p e)
      go (suc r) h = ap (λ (a : Bus). played (map (heard_as p) rest) (picked a)) (sym (refused-stepped x b r h))

  -- and refuses nothing of it
  pub hears-all :
      (xs : List Sent) (b : Bus) (p : ℕ) → On b.devices → (pick b.devices).chip.pins ≡ p → (i : ℕ) → i < length (heard_of p xs b)
      → refusal_of (get_or (heard_of p xs b) i 0) (before (heard_of p xs b) i (alone b.count (pick b.devices))) ≡ 0
  hears-all [] b p on e = λ i l. absurd (not-suc-le-zero l)
  hears-all (x ∷ xs) b p on e = go (refusal_at x b) refl (hears-all xs (stepped x b) p (stays_on x b on) (pins-stay x b on ∙ e))
    where
      rest : List Sent
      rest = accepted_of xs (stepped x b)

      Accepts : List ℕ → State → Type 0
      Accepts es s = (i : ℕ) → i < length es → refusal_of (get_or es i 0) (before es i s) ≡ 0

      first : (e : ℕ) (es : List ℕ) (s : State) → refusal_of e s ≡ 0 → Accepts es (step_of e s).state → Accepts (e ∷ es) s
      first e es s now more zero l = now
      first e es s now more (suc i) l = more i (le_of_suc-le-suc l)

      go :
          (r : ℕ) → refusal_at x b ≡ r → Accepts (map (heard_as p) rest) (picked (stepped x b))
          → Accepts (map (heard_as p) (unless_refusal r x rest)) (picked b)
      go zero h more =
          first (heard_as p x) (map (heard_as p) rest) (picked b) (picked-accepts x b on h p e)
          (subst (Accepts (map (heard_as p) rest)) (sym (picked-step x b on h p e)) more)
      go (suc r) h more = subst (λ (a : Bus). Accepts (map (heard_as p) rest) (picked a)) (refused-stepped x b r h) more

  -- no event changes its pins
  pub pins-after : (xs : List Sent) (b : Bus) → On b.devices → (pick (bus_played xs b).devices).chip.pins ≡ (pick b.devices).chip.pins
  pins-after [] b on = refl
  pins-after (x ∷ xs) b on = pins-after xs (stepped x b) (stays_on x b on) ∙ pins-stay x b on

-- ---- by pins, and by place

-- the device with pins p after a stream is where a chip of its own comes to that is sent what it hears, its count the bus's
pub own-way :
    (p : ℕ) (xs : List Sent) (b : Bus) → is_on p b.devices ≡ true
    → chip_on p (bus_played xs b) ≡ played (heard_of p xs b) (chip_on p b)
own-way p xs b on = sym (goes-alone (OnBus p) (device_with p) (by_pins p) xs b p on (with-pins p b.devices on))

-- a device by its place in the list, likewise
pub own-way-at :
    (i : ℕ) (xs : List Sent) (b : Bus) → i < length b.devices
    → alone (bus_played xs b).count (device_at i (bus_played xs b).devices)
    ≡ played (heard_of (device_at i b.devices).chip.pins xs b) (alone b.count (device_at i b.devices))
own-way-at i xs b on = sym (goes-alone (HasPlace i) (device_at i) (by_place i) xs b _ on refl)

-- of what it hears, a chip of its own refuses nothing
pub own-way-accepted :
    (p : ℕ) (xs : List Sent) (b : Bus) → is_on p b.devices ≡ true → (i : ℕ) → i < length (heard_of p xs b)
    → refusal_of (get_or (heard_of p xs b) i 0) (before (heard_of p xs b) i (chip_on p b)) ≡ 0
own-way-accepted p xs b on = hears-all (OnBus p) (device_with p) (by_pins p) xs b p on (with-pins p b.devices on)

-- ---- the bus

-- the count after a stream: one more for each accepted event
pub count_after : (xs : List Sent) (b : Bus) → (bus_played xs b).count ≡ b.count + length (accepted_of xs b)
count_after [] b = omega arith
count_after (x ∷ xs) b = count_after xs (stepped x b) ∙ go (refusal_at x b) refl
  where
    rest : List Sent
    rest = accepted_of xs (stepped x b)

    go : (r : ℕ) → refusal_at x b ≡ r → (stepped x b).count + length rest ≡ b.count + length (unless_refusal r x rest)
    go zero h = ap (λ (n : ℕ). n + length rest) (counts-stepped x b h) ∙ omega arith
    go (suc r) h = ap (λ (a : Bus). a.count + length rest) (refused-stepped x b r h)

-- a device that is on the bus stays, and no other comes
pub on-after : (p : ℕ) (xs : List Sent) (b : Bus) → is_on p (bus_played xs b).devices ≡ is_on p b.devices
on-after p [] b = refl
on-after p (x ∷ xs) b = on-after p xs (stepped x b) ∙ on-stepped p x b

-- as many devices
as-many-stepped : (x : Sent) (b : Bus) → length (stepped x b).devices ≡ length b.devices
unfolding bus_step_of bus_accepted
as-many-stepped x b = go (refusal_at x b)
  where
    go : (r : ℕ) → length (unless_refused r (bus_accepted x.event x.pins b) b).bus.devices ≡ length b.devices
    go zero = length-map b.devices (device_after x.event x.pins (b.count + 1))
    go (suc r) = refl

pub as-many-after : (xs : List Sent) (b : Bus) → length (bus_played xs b).devices ≡ length b.devices
as-many-after [] b = refl
as-many-after (x ∷ xs) b = as-many-after xs (stepped x b) ∙ as-many-stepped x b

-- what 1, 2 and 12 let pass stays so
pub stepped-fit : (x : Sent) (b : Bus) → BusFit b.devices → BusFit (stepped x b).devices
unfolding bus_step_of bus_accepted
stepped-fit x b fit = go (refusal_at x b)
  where
    go : (r : ℕ) → BusFit (unless_refused r (bus_accepted x.event x.pins b) b).bus.devices
    go zero = stays_fit x.event x.pins (b.count + 1) b.devices fit
    go (suc r) = fit

pub played-fit : (xs : List Sent) (b : Bus) → BusFit b.devices → BusFit (bus_played xs b).devices
played-fit [] b fit = fit
played-fit (x ∷ xs) b fit = played-fit xs (stepped x b) (stepped-fit x b fit)

-- true counts stay true: an event that is accepted finds devices that pass, and a refused one changes none
pub stepped-true : (x : Sent) (b : Bus) → AllTrue b.devices → AllTrue (stepped x b).devices
stepped-true x b t = go (refusal_at x b) refl
  where
    go : (r : ℕ) → refusal_at x b ≡ r → AllTrue (stepped x b).devices
    go zero h =
        let fit = accepted-bus-fit x.event x.pins b h in
        subst AllTrue (sym (Reach.devices-after x.event x.pins b h))
        (all-true-after x.event x.pins (b.count + 1) b.devices fit.long fit.allowed t)
    go (suc r) h = subst (λ (a : Bus). AllTrue a.devices) (sym (refused-stepped x b r h)) t

pub played-true : (xs : List Sent) (b : Bus) → AllTrue b.devices → AllTrue (bus_played xs b).devices
played-true [] b t = t
played-true (x ∷ xs) b t = played-true xs (stepped x b) (stepped-true x b t)
