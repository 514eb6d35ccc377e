-- Exactly when each refusal of a bus event comes, and what it means that there is none.
use mathlib.Core.Bool.{Bool, true, false, not, ◌&&◌, ◌||◌}
use mathlib.Core.List.{List, [], ◌∷◌}
use mathlib.Core.Logic.{◌⊎◌, ◌↔◌, inl, inr}
use mathlib.Core.Path.{◌≡◌, refl, sym, ap, ◌∙◌, subst}
use Prim.Native.Nat.{ℕ, zero, suc, ◌-◌, ◌^◌, ◌≤◌}
use native.Mathlib.Omega.{arith}
use borrow.Author.Tests.{eqb-true, eqb-false, eq-eqb, ne_eqb, leb-true, le-leb, ltb-true, ltb-false, lt-ltb, not-true}
use lib.Dec.{eqb, leb, ltb}
use lib.ListN.{length}
use Rattle.registers.specs.declared.Phase.{Phase}
use Rattle.registers.specs.declared.Phase.TheVariants.{Idle, AddressAwaited, Ignoring, ControlAwaited, OneByte, EndlessBytes, Reading, ReadEnded}
use Rattle.registers.specs.Record.{allowed, allowed_counts}
use Rattle.registers.specs.Refusals.{refuse, ◌then◌, is_listed_event}
use Rattle.registers.specs.State.{places}
use Rattle.registers.proofs.Below.{false-true, true-false, or-true}
use Rattle.registers.proofs.Within.{both_left, both_right}
use Rattle.engine.specs.Answer.{Refused}
use Rattle.engine.specs.Step.{refusal_of}
use Rattle.pixel_counts.specs.Counts.{counts_of}
use Rattle.pixel_counts.proofs.Laws.{counts-allowed}
use Rattle.chip.specs.When as ChipWhen
use Rattle.chip.specs.When.{ListedEvent, CountsStayIn, CountGoesOut}
use Rattle.chip.proofs.Refusals as Chip
use Rattle.chip.proofs.Refusals.{listed-true, listed-false, is-listed-event}
use Rattle.bus.specs.Bus.{Device, Bus, bus, AllTrue, fresh, fresh_devices, At, Somewhere, alone, every, how_many, is_ignoring_phase, is_idle, awaits_address}
use Rattle.bus.specs.Bus.{is_ignoring, is_past, has_other_pins, pins_differ, one_past, phases_agree}
use Rattle.bus.specs.Refusals.{is_long, is_allowed, can_share, devices_refusal, is_sensor_reading, sent_refusal, counts_fit, bus_refusal, BusFit}
use Rattle.bus.specs.Step.{bus_after, bus_accepted, bus_step_of}
use Rattle.bus.specs.When.{AllLong, AllAllowed, OwnPins, AllIn, OthersIgnore, Sharing, Sound, PinsNamed, Accepts, When}
use Rattle.bus.specs.When.{none, not_long, not_allowed, not_sharing, not_listed, no_such_pins, count_full, goes_out}
use Rattle.bus.proofs.Every.{joined, either, or_left, or_right, not_so, every-at, at_every, some-not, one_place, place-one}
use Rattle.bus.proofs.Counts.{all_take, fresh-true}
use Rattle.bus.proofs.Fits.{fits-alone, idle-is, awaiting-is, is_settled}
use Rattle.bus.proofs.Phases.{is-reading}

-- ---- each test in words

all-long : (ds : List Device) → (every is_long ds ≡ true) ↔ AllLong ds
all-long ds = (there, λ h. at_every is_long ds (λ i d a. joined _ _ (eq-eqb _ _ (h i d a).0) (eq-eqb _ _ (h i d a).1)))
  where
    there : every is_long ds ≡ true → AllLong ds
    there t i d a =
        let long = every-at is_long ds t i d a in (
          eqb-true _ _ (both_left (eqb (length d.memory) places) (eqb (length d.writers) places) long),
          eqb-true _ _ (both_right (eqb (length d.memory) places) (eqb (length d.writers) places) long),
        )

all-allowed : (ds : List Device) → (every is_allowed ds ≡ true) ↔ AllAllowed ds
all-allowed ds = (every-at is_allowed ds, at_every is_allowed ds)

pins-own : (ds : List Device) → pins_differ ds ≡ true → OwnPins ds
pins-own [] t i j c d l a b = absurd a
pins-own (x ∷ ds) t zero zero c d l a b = absurd (omega arith)
pins-own (x ∷ ds) t zero (suc j) c d l a b =
    λ q. eqb-false _ _ (not-true _ (every-at (has_other_pins x.chip.pins) ds others j d b)) (sym q ∙ ap (λ (y : Device). y.chip.pins) (sym a))
  where
    others : every (has_other_pins x.chip.pins) ds ≡ true
    others = both_left (every (has_other_pins x.chip.pins) ds) (pins_differ ds) t
pins-own (x ∷ ds) t (suc i) zero c d l a b = absurd (omega arith)
pins-own (x ∷ ds) t (suc i) (suc j) c d l a b =
    pins-own ds (both_right (every (has_other_pins x.chip.pins) ds) (pins_differ ds) t) i j c d (omega arith) a b

own_pins : (ds : List Device) → OwnPins ds → pins_differ ds ≡ true
own_pins [] h = refl
own_pins (x ∷ ds) h =
    joined _ _
    (at_every (has_other_pins x.chip.pins) ds (λ j d b. ap not (ne_eqb _ _ (λ q. h 0 (suc j) x d (omega arith) refl b (sym q)))))
    (own_pins ds (λ i j c d l a b. h (suc i) (suc j) c d (omega arith) a b))

all-idle : (ds : List Device) → (every is_idle ds ≡ true) ↔ AllIn Idle ds
all-idle ds = (λ t i d a. idle-is d.chip.phase (every-at is_idle ds t i d a), λ h. at_every is_idle ds (λ i d a. rw (h i d a)))

all-await : (ds : List Device) → (every awaits_address ds ≡ true) ↔ AllIn AddressAwaited ds
all-await ds = (λ t i d a. awaiting-is d.chip.phase (every-at awaits_address ds t i d a), λ h. at_every awaits_address ds (λ i d a. rw (h i d a)))

ignoring-is : (p : Phase) → is_ignoring_phase p ≡ true → p ≡ Ignoring
ignoring-is Idle e = absurd (false-true e)
ignoring-is AddressAwaited e = absurd (false-true e)
ignoring-is Ignoring e = refl
ignoring-is ControlAwaited e = absurd (false-true e)
ignoring-is (OneByte rs) e = absurd (false-true e)
ignoring-is (EndlessBytes rs) e = absurd (false-true e)
ignoring-is Reading e = absurd (false-true e)
ignoring-is ReadEnded e = absurd (false-true e)

others-ignore : (ds : List Device) → (one_past ds ≡ true) ↔ OthersIgnore ds
others-ignore ds = (there, back)
  where
    told : (d : Device) → (is_ignoring d ≡ true) ⊎ (is_past d ≡ true) → (d.chip.phase ≡ Ignoring) ⊎ (is_past d ≡ true)
    told d (inl i) = inl (ignoring-is d.chip.phase i)
    told d (inr p) = inr p

    untold : (d : Device) → (d.chip.phase ≡ Ignoring) ⊎ (is_past d ≡ true) → is_settled d ≡ true
    untold d (inl i) = or_left _ _ (ap is_ignoring_phase i)
    untold d (inr p) = or_right (is_ignoring d) _ p

    there : one_past ds ≡ true → OthersIgnore ds
    there t =
        record {
          ignoring_or_past = λ i d a. told d (either (is_ignoring d) (is_past d) (every-at is_settled ds (both_left (every is_settled ds) _ t) i d a));
          one-past = one_place is_past ds (leb-true (how_many is_past ds) 1 (both_right (every is_settled ds) (leb (how_many is_past ds) 1) t));
        }

    back : OthersIgnore ds → one_past ds ≡ true
    back h = joined _ _ (at_every is_settled ds (λ i d a. untold d (h.ignoring_or_past i d a))) (le-leb _ _ (place-one is_past ds h.one-past))

-- which devices can share a bus
pub shares : (ds : List Device) → (can_share ds ≡ true) ↔ Sharing ds
shares ds = (there, back)
  where
    told :
        (every is_idle ds ≡ true) ⊎ (every awaits_address ds || one_past ds ≡ true)
        → AllIn Idle ds ⊎ (AllIn AddressAwaited ds ⊎ OthersIgnore ds)
    told (inl t) = inl ((all-idle ds).0 t)
    told (inr t) = inr (later (either (every awaits_address ds) (one_past ds) t))
      where
        later : (every awaits_address ds ≡ true) ⊎ (one_past ds ≡ true) → AllIn AddressAwaited ds ⊎ OthersIgnore ds
        later (inl t) = inl ((all-await ds).0 t)
        later (inr t) = inr ((others-ignore ds).0 t)

    untold : AllIn Idle ds ⊎ (AllIn AddressAwaited ds ⊎ OthersIgnore ds) → phases_agree ds ≡ true
    untold (inl h) = or_left _ _ ((all-idle ds).1 h)
    untold (inr (inl h)) = or_right (every is_idle ds) _ (or_left _ _ ((all-await ds).1 h))
    untold (inr (inr h)) = or_right (every is_idle ds) _ (or_right (every awaits_address ds) _ ((others-ignore ds).1 h))

    there : can_share ds ≡ true → Sharing ds
    there t =
        record {
          own_pins = pins-own ds (both_left (pins_differ ds) (phases_agree ds) t);
          together = told (either (every is_idle ds) _ (both_right (pins_differ ds) (phases_agree ds) t));
        }

    back : Sharing ds → can_share ds ≡ true
    back h = joined _ _ (own_pins ds h.own_pins) (untold h.together)

-- what the tests of 1, 2 and 12 let pass, in words and back
pub sound-fit : (ds : List Device) → BusFit ds ↔ Sound ds
sound-fit ds = (there, back)
  where
    there : BusFit ds → Sound ds
    there fit =
        record {
          long = (all-long ds).0 fit.long;
          allowed = (all-allowed ds).0 fit.allowed;
          sharing = (shares ds).0 (joined _ _ fit.pins-differ fit.phases-agree);
        }

    back : Sound ds → BusFit ds
    back h =
        let t = (shares ds).1 h.sharing in
        record {
          long = (all-long ds).1 h.long;
          allowed = (all-allowed ds).1 h.allowed;
          pins-differ = both_left (pins_differ ds) (phases_agree ds) t;
          phases-agree = both_right (pins_differ ds) (phases_agree ds) t;
        }

-- a sensor reading and the pins that it names
abbrev names_none : ℕ → ℕ → Bool
names_none e k = is_sensor_reading e && ltb 3 k

is-sensor : (e : ℕ) → 512 ≤ e → e ≤ 767 → is_sensor_reading e ≡ true
is-sensor e h l = joined _ _ (le-leb 512 e h) (le-leb e 767 l)

pins-named : (e k : ℕ) → names_none e k ≡ false → PinsNamed e k
pins-named e k t h l = ltb-false 3 k (ap (λ (x : Bool). x && ltb 3 k) (sym (is-sensor e h l)) ∙ t)

named-pins : (e k : ℕ) → PinsNamed e k → names_none e k ≡ false
named-pins e k h =
    not_so (names_none e k) (λ t. let so = is-reading e (both_left (is_sensor_reading e) (ltb 3 k) t) in
    let high = ltb-true 3 k (both_right (is_sensor_reading e) (ltb 3 k) t) in
    let low = h so.0 (omega (arith, so.1)) in
    omega arith)

-- ---- 16

module _ (e n : ℕ) (ds : List Device) where
  pub all-stay-in : (every (counts_fit e) ds ≡ true) ↔ ((i : ℕ) (d : Device) → At i d ds → CountsStayIn e (alone n d))
  all-stay-in = (
    λ t i d a. Chip.pixels-passed e (alone n d) (eqb-true _ _ (every-at (counts_fit e) ds t i d a)),
    λ h. at_every (counts_fit e) ds (λ i d a. eq-eqb _ _ (Chip.pixels-pass e (alone n d) (h i d a))),
  )

  some-goes-out : (every (counts_fit e) ds ≡ false) ↔ Somewhere (λ (d : Device). CountGoesOut e (alone n d)) ds
  some-goes-out = (there, back)
    where
      there : every (counts_fit e) ds ≡ false → Somewhere (λ (d : Device). CountGoesOut e (alone n d)) ds
      there f =
          let one = some-not (counts_fit e) ds f in
          record { place = one.place; which = one.which; stands = one.stands; so = Chip.pixels-stopped e (alone n one.which) (eqb-false _ _ one.so) }

      back : Somewhere (λ (d : Device). CountGoesOut e (alone n d)) ds → every (counts_fit e) ds ≡ false
      back one =
          not_so (every (counts_fit e) ds) (λ t.
          Chip.pixels-stop e (alone n one.which) one.so (eqb-true _ _ (every-at (counts_fit e) ds t one.place one.which one.stands)))

-- ---- exactly when

module _ (e k n : ℕ) (ds : List Device) where
  sound-by :
      every is_long ds ≡ true → every is_allowed ds ≡ true → can_share ds ≡ true → Sound ds
  sound-by l a c = record { long = (all-long ds).0 l; allowed = (all-allowed ds).0 a; sharing = (shares ds).0 c }

  -- the order of the tests, and what each outcome says
  decided :
      (l a c t s f u : Bool) → every is_long ds ≡ l → every is_allowed ds ≡ a → can_share ds ≡ c → is_listed_event e ≡ t
      → names_none e k ≡ s → eqb n (2 ^ 64 - 1) ≡ f → every (counts_fit e) ds ≡ u
      → When e k (bus ds n)
      ((refuse (not l) 1 then refuse (not a) 2 then refuse (not c) 12) then (refuse (not t) 3 then refuse s 13 then refuse f 4) then refuse (not u) 16)
  decided false a c t s f u el ea ec et es ef eu = not_long (λ h. true-false (sym ((all-long ds).1 h) ∙ el))
  decided true false c t s f u el ea ec et es ef eu = not_allowed ((all-long ds).0 el) (λ h. true-false (sym ((all-allowed ds).1 h) ∙ ea))
  decided true true false t s f u el ea ec et es ef eu =
      not_sharing ((all-long ds).0 el) ((all-allowed ds).0 ea) (λ h. true-false (sym ((shares ds).1 h) ∙ ec))
  decided true true true false s f u el ea ec et es ef eu = not_listed (sound-by el ea ec) (λ h. true-false (sym (listed-true e h) ∙ et))
  decided true true true true true f u el ea ec et es ef eu =
      let so = is-reading e (both_left (is_sensor_reading e) (ltb 3 k) es) in
      no_such_pins (sound-by el ea ec) so.0 (omega (arith, so.1)) (ltb-true 3 k (both_right (is_sensor_reading e) (ltb 3 k) es))
  decided true true true true false true u el ea ec et es ef eu =
      count_full (sound-by el ea ec) (is-listed-event e et) (pins-named e k es) (eqb-true n (2 ^ 64 - 1) ef)
  decided true true true true false false false el ea ec et es ef eu =
      goes_out (sound-by el ea ec) (eqb-false n (2 ^ 64 - 1) ef) ((some-goes-out e n ds).0 eu)
  decided true true true true false false true el ea ec et es ef eu =
      none (record {
        sound = sound-by el ea ec;
        listed = is-listed-event e et;
        named = pins-named e k es;
        room = eqb-false n (2 ^ 64 - 1) ef;
        counts_stay_in = (all-stay-in e n ds).0 eu;
      })

  refusal-when : When e k (bus ds n) (bus_refusal e k (bus ds n))
  unfolding bus_refusal devices_refusal sent_refusal
  refusal-when =
      decided (every is_long ds) (every is_allowed ds) (can_share ds) (is_listed_event e) (names_none e k)
      (eqb n (2 ^ 64 - 1)) (every (counts_fit e) ds) refl refl refl refl refl refl refl

  when-so : (r : ℕ) → When e k (bus ds n) r → bus_refusal e k (bus ds n) ≡ r
  unfolding bus_refusal devices_refusal sent_refusal
  when-so r (none h) =
      simp (
        (all-long ds).1 h.sound.long,
        (all-allowed ds).1 h.sound.allowed,
        (shares ds).1 h.sound.sharing,
        listed-true e h.listed,
        named-pins e k h.named,
        ne_eqb n (2 ^ 64 - 1) h.room,
        (all-stay-in e n ds).1 h.counts_stay_in,
      )
  when-so r (not_long w) = simp (not_so (every is_long ds) (λ t. w ((all-long ds).0 t)))
  when-so r (not_allowed l w) = simp ((all-long ds).1 l, not_so (every is_allowed ds) (λ t. w ((all-allowed ds).0 t)))
  when-so r (not_sharing l a w) = simp ((all-long ds).1 l, (all-allowed ds).1 a, not_so (can_share ds) (λ t. w ((shares ds).0 t)))
  when-so r (not_listed h w) = simp ((all-long ds).1 h.long, (all-allowed ds).1 h.allowed, (shares ds).1 h.sharing, listed-false e w)
  when-so r (no_such_pins h low high above) =
      simp (
        (all-long ds).1 h.long,
        (all-allowed ds).1 h.allowed,
        (shares ds).1 h.sharing,
        is-sensor e low high,
        or-true (leb e 260),
        lt-ltb 3 k above,
      )
  when-so r (count_full h l p f) =
      simp (
        (all-long ds).1 h.long,
        (all-allowed ds).1 h.allowed,
        (shares ds).1 h.sharing,
        listed-true e l,
        named-pins e k p,
        eq-eqb n (2 ^ 64 - 1) f,
      )
  when-so r (goes_out h room one) =
      simp (
        (all-long ds).1 h.long,
        (all-allowed ds).1 h.allowed,
        (shares ds).1 h.sharing,
        listed-true e (inl (omega (arith, one.so.comes.is-byte))),
        named-pins e k (λ low high. absurd (omega (arith, one.so.comes.is-byte))),
        ne_eqb n (2 ^ 64 - 1) room,
        (some-goes-out e n ds).1 one,
      )

-- each number comes exactly when the table says, and none but these
pub exactly-when : (e k : ℕ) (b : Bus) (r : ℕ) → (bus_refusal e k b ≡ r) ↔ When e k b r
exactly-when e k b r = (λ q. subst (λ (n : ℕ). When e k b n) q (refusal-when e k b.count b.devices), when-so e k b.count b.devices r)

-- a refused event gives its number, and changes nothing
pub refused-changes-nothing : (e k : ℕ) (b : Bus) (r : ℕ) → bus_refusal e k b ≡ suc r → bus_step_of e k b ≡ bus_after (Refused (suc r)) b.devices b.count
unfolding bus_step_of
refused-changes-nothing e k b r h = rw h

-- 13 is for sensor readings alone
pub pins-of-readings : (e k : ℕ) (b : Bus) → is_sensor_reading e ≡ false → bus_refusal e k b ≡ 13 → ⊥
pins-of-readings e k b t h = go ((exactly-when e k b 13).0 h)
  where
    go : When e k b 13 → ⊥
    go (no_such_pins s low high above) = true-false (sym (is-sensor e low high) ∙ t)

-- 16 never comes where the counts of pixels are true
pub true-never-16 : (e k : ℕ) (b : Bus) → AllTrue b.devices → bus_refusal e k b ≡ 16 → ⊥
true-never-16 e k b t h = go ((exactly-when e k b 16).0 h)
  where
    go : When e k b 16 → ⊥
    go (goes_out sound room one) =
        let fit = (sound-fit b.devices).1 sound in
        true-false (sym (all_take e b.devices fit.long fit.allowed t) ∙ (some-goes-out e b.count b.devices).1 one)

-- ---- an accepted event

module _ (e k : ℕ) (b : Bus) (h : bus_refusal e k b ≡ 0) where
  pub accepted-bus-step : bus_step_of e k b ≡ bus_accepted e k b
  unfolding bus_step_of
  accepted-bus-step = rw h

  -- its devices are fit, its number listed, the pins named and the count not full
  pub bus-accepts : Accepts e k b
  bus-accepts = go ((exactly-when e k b 0).0 h)
    where
      go : When e k b 0 → Accepts e k b
      go (none accepts) = accepts

  pub accepted-bus-fit : BusFit b.devices
  accepted-bus-fit = (sound-fit b.devices).1 bus-accepts.sound

  -- what the bus accepts, each chip alone with the bus's count accepts
  pub accepted-alone : (i : ℕ) (d : Device) → At i d b.devices → refusal_of e (alone b.count d) ≡ 0
  accepted-alone i d a =
      let fit = fits-alone b.count b.devices accepted-bus-fit i d a in
      Chip.when-so e (alone b.count d) 0
      (ChipWhen.none (record { fit = fit; listed = bus-accepts.listed; room = bus-accepts.room; counts_stay_in = bus-accepts.counts_stay_in i d a }))

-- ---- four chips after a reset

module _ (memories writers : ℕ → List ℕ) (long : (pins : ℕ) → (length (memories pins) ≡ places) × (length (writers pins) ≡ places)) where
  -- 1, 2 and 12 let them pass
  pub fresh-sound : Sound (fresh_devices memories writers)
  unfolding allowed
  fresh-sound =
      let ds = fresh_devices memories writers in
      let each : (pins : ℕ) → is_long (fresh pins (memories pins) (writers pins)) ≡ true
      = λ pins. joined _ _ (eq-eqb _ _ (long pins).0) (eq-eqb _ _ (long pins).1)
      in
      let fine : (pins : ℕ) → allowed_counts (counts_of (memories pins)) ≡ true = λ pins. counts-allowed (memories pins) in
      (sound-fit ds).0 (record {
        long = rw (each 0, each 1, each 2, each 3);
        allowed = rw (fine 0, fine 1, fine 2, fine 3);
        pins-differ = refl;
        phases-agree = refl;
      })

  -- and the bus takes every listed event
  pub fresh-accepts : (e k n : ℕ) → ListedEvent e → PinsNamed e k → (n ≡ 2 ^ 64 - 1 → ⊥) → bus_refusal e k (bus (fresh_devices memories writers) n) ≡ 0
  fresh-accepts e k n listed named room =
      let fits = (sound-fit (fresh_devices memories writers)).1 fresh-sound in
      (exactly-when e k (bus (fresh_devices memories writers) n) 0).1 (none (record {
        sound = fresh-sound;
        listed = listed;
        named = named;
        room = room;
        counts_stay_in = (all-stay-in e n (fresh_devices memories writers)).0 (all_take e (fresh_devices memories writers) fits.long fits.allowed (fresh-true memories writers));
      }))
