-- Two streams that differ only in data bytes for one chip, each in its place, leave the other chips alike.
use mathlib.Core.Bool.{Bool, true, false}
use mathlib.Core.List.{List, [], ◌∷◌}
use mathlib.Core.Logic.{◌⊎◌, inl, inr}
use mathlib.Core.Path.{◌≡◌, refl, sym, ap, ◌∙◌, subst}
use Prim.Native.Nat.{ℕ, zero, suc, ◌+◌, ◌-◌, ◌^◌, ◌<◌}
use borrow.Author.Tests.{lt-leb}
use native.Mathlib.Omega.{arith}
use lib.ListN.{length}
use Rattle.registers.specs.declared.Phase.{Phase}
use Rattle.registers.specs.declared.Phase.TheVariants.{Ignoring}
use Rattle.engine.specs.declared.event.Event.{Event}
use Rattle.engine.specs.Event.{event_of}
use Rattle.engine.specs.Step.{After, on_byte, applied}
use Rattle.engine.proofs.Events.{byte-event}
use Rattle.bus.specs.Apart.{Turn, turn_after, turn_at, Alike, AllAlike, SameBut}
use Rattle.bus.specs.Apart.Alike.{same, data_bytes}
use Rattle.registers.specs.Refusals.{◌then◌}
use Rattle.bus.specs.Bus.{Device, Bus, alone, device_of, AllTrue}
use Rattle.bus.specs.Refusals.{devices_refusal, sent_refusal, bus_refusal, BusFit}
use Rattle.bus.specs.Step.{misses, device_after}
use Rattle.bus.specs.Streams.{Sent, refusal_at, stepped, bus_played, device_with, is_on, device_at}
use Rattle.bus.proofs.Alone.{counts-stepped, refused-stepped, stays_on, pins-stay, pick-after, pins-after, stepped-fit, stepped-true, on-after, as-many-after}
use Rattle.bus.proofs.Counts.{all_take}
use Rattle.bus.proofs.Phases.{not-missed, device-phase}
use Rattle.bus.proofs.Picks.{Picks, OnBus, by_pins, with-pins, with_none, HasPlace, by_place}
use Rattle.bus.proofs.Refusals.{bus-accepts}
use Rattle.bus.proofs.Turns.{Hears, hears-on, refused-turn, bytes-refused, hears-first}

-- ---- refusals

-- on a bus that 1, 2 and 12 let pass, with true counts of pixels, the event alone decides whether it is refused
fit-refusal : (x : Sent) (b : Bus) → BusFit b.devices → AllTrue b.devices → refusal_at x b ≡ sent_refusal x.event x.pins b.count
unfolding bus_refusal devices_refusal
fit-refusal x b fit t =
    rw (fit.long, fit.allowed, fit.pins-differ, fit.phases-agree, all_take x.event b.devices fit.long fit.allowed t)
    (then-none (sent_refusal x.event x.pins b.count))
  where
    then-none : (n : ℕ) → n then 0 ≡ n
    then-none zero = refl
    then-none (suc n) = refl

alike-sent : (t : Turn) (x y : Sent) (n : ℕ) → Alike t x y → sent_refusal x.event x.pins n ≡ sent_refusal y.event y.pins n
alike-sent t x y n (same e) = ap (λ (z : Sent). sent_refusal z.event z.pins n) e
alike-sent t x y n (data_bytes td hx hy) = bytes-refused x.event y.event x.pins y.pins n hx hy

-- two buses on which the same events are refused
record Level (a b : Bus) : Type 0 where
  fit-first : BusFit a.devices
  fit-second : BusFit b.devices
  true-first : AllTrue a.devices
  true-second : AllTrue b.devices
  same_count : a.count ≡ b.count

module _ (t : Turn) (x y : Sent) (a b : Bus) (level : Level a b) (alike : Alike t x y) where
  alike-refused : refusal_at x a ≡ refusal_at y b
  alike-refused =
      fit-refusal x a level.fit-first level.true-first
      ∙ alike-sent t x y a.count alike
      ∙ ap (sent_refusal y.event y.pins) level.same_count
      ∙ sym (fit-refusal y b level.fit-second level.true-second)

  still-level : Level (stepped x a) (stepped y b)
  still-level =
      record {
        fit-first = stepped-fit x a level.fit-first;
        fit-second = stepped-fit y b level.fit-second;
        true-first = stepped-true x a level.true-first;
        true-second = stepped-true y b level.true-second;
        same_count = go (refusal_at x a) refl;
      }
    where
      go : (r : ℕ) → refusal_at x a ≡ r → (stepped x a).count ≡ (stepped y b).count
      go zero h = counts-stepped x a h ∙ ap (λ (n : ℕ). n + 1) level.same_count ∙ sym (counts-stepped y b (sym alike-refused ∙ h))
      go (suc r) h =
          ap (λ (c : Bus). c.count) (refused-stepped x a r h)
          ∙ level.same_count
          ∙ ap (λ (c : Bus). c.count) (sym (refused-stepped y b r (sym alike-refused ∙ h)))

same-counts : (p : ℕ) (t : Turn) (xs ys : List Sent) (a b : Bus) → AllAlike p t xs ys → Level a b → (bus_played xs a).count ≡ (bus_played ys b).count
same-counts p t [] [] a b alike level = level.same_count
same-counts p t [] (y ∷ ys) a b alike level = absurd alike
same-counts p t (x ∷ xs) [] a b alike level = absurd alike
same-counts p t (x ∷ xs) (y ∷ ys) a b alike level =
    same-counts p (turn_after p (event_of x.event) t) xs ys (stepped x a) (stepped y b) alike.1 (still-level t x y a b level alike.0)

-- ---- a device that is not spoken to

-- a byte that a chip ignores leaves it as it was
ignored : (b k n : ℕ) (d : Device) → b < 256 → d.chip.phase ≡ Ignoring → device_after b k n d ≡ d
unfolding applied
ignored b k n d l e =
    let taken : misses b k d ≡ false = simp (lt-leb 512 b (omega arith)) in
    ap (λ (a : After). device_of a.state) (not-missed b k n d taken)
    ∙ ap (λ (v : Event). device_of (applied v (alone n d)).state) (byte-event b l)
    ∙ ap (λ (q : Phase). device_of (on_byte q b (alone n d)).state) e

-- where the turn finds it, or nothing is accepted any more
abbrev Stands : Turn → ℕ → Phase → Type 0
Stands t n q = Hears t q ⊎ (n ≡ 2 ^ 64 - 1)

module _ (p : ℕ) (On : List Device → Type 0) (pick : List Device → Device) (picks : Picks On pick) where
  -- two buses with the same device at the place that is looked at, not the one with pins p
  record Beside (t : Turn) (a b : Bus) : Type 0 where
    level : Level a b
    on-first : On a.devices
    on-second : On b.devices
    same-device : pick a.devices ≡ pick b.devices
    apart : (pick a.devices).chip.pins ≡ p → ⊥
    stands : Stands t a.count (pick a.devices).chip.phase

  module _ (t : Turn) (x y : Sent) (a b : Bus) (beside : Beside t a b) (alike : Alike t x y) where
    abbrev next : Turn
    next = turn_after p (event_of x.event) t

    second : refusal_at x a ≡ refusal_at y b
    second = alike-refused t x y a b beside.level alike

    -- accepted: the count is not full, so the turn finds it
    module _ (h : refusal_at x a ≡ 0) where
      hears : Hears t (pick a.devices).chip.phase
      hears = go beside.stands
        where
          go : Stands t a.count (pick a.devices).chip.phase → Hears t (pick a.devices).chip.phase
          go (inl s) = s
          go (inr f) = absurd ((bus-accepts x.event x.pins a h).room f)

      hears-next : Stands next (stepped x a).count (pick (stepped x a).devices).chip.phase
      hears-next =
          let device = pick a.devices in
          let phase =
          ap (λ (d : Device). d.chip.phase) (pick-after On pick picks x a beside.on-first h)
          ∙ device-phase x.event x.pins (a.count + 1) device
          in
          inl (subst (Hears next) (sym phase) (hears-on p device.chip.pins beside.apart (event_of x.event) t device.chip.phase hears))

      alike-after :
          Alike t x y
          → device_after x.event x.pins (a.count + 1) (pick a.devices) ≡ device_after y.event y.pins (a.count + 1) (pick a.devices)
      alike-after (same e) = ap (λ (z : Sent). device_after z.event z.pins (a.count + 1) (pick a.devices)) e
      alike-after (data_bytes td hx hy) =
          let quiet : (pick a.devices).chip.phase ≡ Ignoring = subst (λ (u : Turn). Hears u (pick a.devices).chip.phase) td hears in
          ignored x.event x.pins (a.count + 1) (pick a.devices) hx quiet
          ∙ sym (ignored y.event y.pins (a.count + 1) (pick a.devices) hy quiet)

      same_after : pick (stepped x a).devices ≡ pick (stepped y b).devices
      same_after =
          pick-after On pick picks x a beside.on-first h
          ∙ alike-after alike
          ∙ ap (λ (d : Device). device_after y.event y.pins (a.count + 1) d) beside.same-device
          ∙ ap (λ (n : ℕ). device_after y.event y.pins (n + 1) (pick b.devices)) beside.level.same_count
          ∙ sym (pick-after On pick picks y b beside.on-second (sym second ∙ h))

    -- refused: both buses stay
    module _ (r : ℕ) (h : refusal_at x a ≡ suc r) where
      same_left : pick (stepped x a).devices ≡ pick (stepped y b).devices
      same_left =
          ap (λ (c : Bus). pick c.devices) (refused-stepped x a r h)
          ∙ beside.same-device
          ∙ ap (λ (c : Bus). pick c.devices) (sym (refused-stepped y b r (sym second ∙ h)))

      stands-left : Stands next (stepped x a).count (pick (stepped x a).devices).chip.phase
      stands-left =
          subst (λ (c : Bus). Stands next c.count (pick c.devices).chip.phase) (sym (refused-stepped x a r h)) (go beside.stands turn)
        where
          turn : (next ≡ t) ⊎ (a.count ≡ 2 ^ 64 - 1)
          turn = refused-turn x.event x.pins a.count r p t (sym (fit-refusal x a beside.level.fit-first beside.level.true-first) ∙ h)

          go :
              Stands t a.count (pick a.devices).chip.phase → (next ≡ t) ⊎ (a.count ≡ 2 ^ 64 - 1)
              → Stands next a.count (pick a.devices).chip.phase
          go (inr f) u = inr f
          go (inl s) (inr f) = inr f
          go (inl s) (inl e) = inl (subst (λ (u : Turn). Hears u (pick a.devices).chip.phase) (sym e) s)

    still-beside : Beside next (stepped x a) (stepped y b)
    still-beside =
        record {
          level = still-level t x y a b beside.level alike;
          on-first = stays_on On pick picks x a beside.on-first;
          on-second = stays_on On pick picks y b beside.on-second;
          same-device = device (refusal_at x a) refl;
          apart = λ e. beside.apart (sym (pins-stay On pick picks x a beside.on-first) ∙ e);
          stands = turn (refusal_at x a) refl;
        }
      where
        device : (r : ℕ) → refusal_at x a ≡ r → pick (stepped x a).devices ≡ pick (stepped y b).devices
        device zero h = same_after h
        device (suc r) h = same_left r h

        turn : (r : ℕ) → refusal_at x a ≡ r → Stands next (stepped x a).count (pick (stepped x a).devices).chip.phase
        turn zero h = hears-next h
        turn (suc r) h = stands-left r h

  same_way :
      (t : Turn) (xs ys : List Sent) (a b : Bus) → AllAlike p t xs ys → Beside t a b → pick (bus_played xs a).devices ≡ pick (bus_played ys b).devices
  same_way t [] [] a b alike beside = beside.same-device
  same_way t [] (y ∷ ys) a b alike beside = absurd alike
  same_way t (x ∷ xs) [] a b alike beside = absurd alike
  same_way t (x ∷ xs) (y ∷ ys) a b alike beside =
      same_way (turn_after p (event_of x.event) t) xs ys (stepped x a) (stepped y b) alike.1 (still-beside t x y a b beside alike.0)

  -- on one bus
  same-pick :
      (xs ys : List Sent) (b : Bus) → BusFit b.devices → AllTrue b.devices → On b.devices → ((pick b.devices).chip.pins ≡ p → ⊥)
      → AllAlike p (turn_at p b.devices) xs ys → pick (bus_played xs b).devices ≡ pick (bus_played ys b).devices
  same-pick xs ys b fit t on apart alike =
      same_way (turn_at p b.devices) xs ys b b alike
      (record {
        level = record { fit-first = fit; fit-second = fit; true-first = t; true-second = t; same_count = refl };
        on-first = on;
        on-second = on;
        same-device = refl;
        apart = apart;
        stands = let there = picks.stands b.devices on in inl (hears-first p b.devices fit there.0 (pick b.devices) there.1 apart);
      })

-- ---- the bus

-- on every bus that 1, 2 and 12 let pass, with true counts of pixels, for two streams that differ at most in data bytes sent to the write address of
-- p: the counts are the same, and so are the devices with other pins, whole, by pins and by place. So is their glass, which registers and memory give
pub non-interference :
    (p : ℕ) (xs ys : List Sent) (b : Bus) → BusFit b.devices → AllTrue b.devices → AllAlike p (turn_at p b.devices) xs ys → SameBut p (bus_played xs b) (bus_played ys b)
non-interference p xs ys b fit t alike =
    record {
      count = same-counts p (turn_at p b.devices) xs ys b b alike (record { fit-first = fit; fit-second = fit; true-first = t; true-second = t; same_count = refl });
      by_pins = λ q apart. with-these q apart (is_on q b.devices) refl;
      as_many = as-many-after xs b ∙ sym (as-many-after ys b);
      by_place = at-this;
    }
  where
    with-these :
        (q : ℕ) → (q ≡ p → ⊥) → (there : Bool) → is_on q b.devices ≡ there → device_with q (bus_played xs b).devices ≡ device_with q (bus_played ys b).devices
    with-these q apart true on =
        same-pick p (OnBus q) (device_with q) (by_pins q) xs ys b fit t on (λ e. apart (sym (with-pins q b.devices on) ∙ e)) alike
    with-these q apart false off =
        with_none q (bus_played xs b).devices (on-after q xs b ∙ off) ∙ sym (with_none q (bus_played ys b).devices (on-after q ys b ∙ off))

    at-this :
        (i : ℕ) → i < length (bus_played xs b).devices → ((device_at i (bus_played xs b).devices).chip.pins ≡ p → ⊥)
        → device_at i (bus_played xs b).devices ≡ device_at i (bus_played ys b).devices
    at-this i l apart =
        let on : i < length b.devices = subst (λ (n : ℕ). i < n) (as-many-after xs b) l in
        same-pick p (HasPlace i) (device_at i) (by_place i) xs ys b fit t on
        (λ e. apart (pins-after (HasPlace i) (device_at i) (by_place i) xs b on ∙ e)) alike
