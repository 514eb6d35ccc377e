-- What 1, 2 and 12 let pass stays so after every event.
use mathlib.Core.Bool.{Bool, true, false, cond, not, ◌&&◌, ◌||◌}
use mathlib.Core.List.{List, [], ◌∷◌, map}
use mathlib.Core.Logic.{◌⊎◌, inl, inr}
use mathlib.Core.Path.{◌≡◌, refl, sym, ap, ◌∙◌, subst}
use Prim.Native.Nat.{ℕ, ◌+◌, ◌-◌, ◌/◌, ◌%◌, ◌≤◌}
use native.Mathlib.Omega.{arith}
use borrow.Author.Tests.{eqb-true, eq-eqb, le-leb, leb-true, not-true}
use lib.Dec.{eqb, leb}
use lib.ListN.{length}
use Rattle.registers.specs.declared.Phase.{Phase}
use Rattle.registers.specs.declared.Phase.TheVariants.{Idle, AddressAwaited, Ignoring, ControlAwaited, OneByte, EndlessBytes, Reading, ReadEnded}
use Rattle.registers.specs.State.{places}
use Rattle.registers.proofs.Below.{false-true}
use Rattle.registers.proofs.Within.{both_left, both_right}
use Rattle.phases.specs.Phases.{rs_of, is_addressed, phase_after_address, phase_after_control, phase_after_last_read}
use Rattle.engine.specs.Answer.{Nothing}
use Rattle.engine.specs.declared.event.Event.{Event}
use Rattle.engine.specs.declared.event.Event.TheVariants.{Byte, Start, Stop, ReadAcknowledged, ReadNotAcknowledged, Reset, Sensor, Unlisted}
use Rattle.engine.specs.Event.{event_of}
use Rattle.engine.specs.Step.{Fit, nothing_stored, applied}
use Rattle.engine.proofs.Allowed.{applied_fit}
use Rattle.bus.specs.Bus.{Device, At, alone, device_of, every, how_many, is_idle_phase, is_awaiting_phase, is_ignoring_phase, is_past_phase, is_idle}
use Rattle.bus.specs.Bus.{awaits_address, is_past, has_pins, has_other_pins, pins_differ, one_past, phases_agree}
use Rattle.bus.specs.Refusals.{is_long, is_allowed, BusFit}
use Rattle.bus.specs.Step.{misses, heard_by, device_after}
use Rattle.bus.proofs.Every.{joined, either, or_left, or_right, every-at, every_map, every-same, as_many, no_more}
use Rattle.bus.proofs.Phases.{phase_after_byte, phase_after, device-phase, device-pins}

-- ---- 1 and 2

-- a device that 1 and 2 let pass fits alone, and the other way round
pub fit-device : (n : ℕ) (d : Device) → is_long d ≡ true → is_allowed d ≡ true → Fit (alone n d)
fit-device n d l a =
    record {
      memory_long = eqb-true _ _ (both_left (eqb (length d.memory) places) (eqb (length d.writers) places) l);
      writers_long = eqb-true _ _ (both_right (eqb (length d.memory) places) (eqb (length d.writers) places) l);
      is-allowed = a;
    }

pub fit-long : (n : ℕ) (d : Device) → Fit (alone n d) → is_long d ≡ true
fit-long n d fit = joined _ _ (eq-eqb _ _ fit.memory_long) (eq-eqb _ _ fit.writers_long)

-- whatever count stands beside it
pub beside : (m n : ℕ) (d : Device) → Fit (alone m d) → Fit (alone n d)
beside m n d fit = record { memory_long = fit.memory_long; writers_long = fit.writers_long; is-allowed = fit.is-allowed }

-- each device of a bus that is fit is fit alone
pub fits-alone : (n : ℕ) (ds : List Device) → BusFit ds → (i : ℕ) (d : Device) → At i d ds → Fit (alone n d)
fits-alone n ds fit i d a = fit-device n d (every-at is_long ds fit.long i d a) (every-at is_allowed ds fit.allowed i d a)

module _ (e k n : ℕ) where
  -- a device that is fit stays so
  pub device-fit : (m j : ℕ) (d : Device) → Fit (alone m d) → Fit (alone j (device_after e k n d))
  unfolding heard_by
  device-fit m j d fit = go (misses e k d)
    where
      go : (t : Bool) → Fit (alone j (device_of (cond t (nothing_stored Nothing d.chip (alone n d)) (applied (event_of e) (alone n d))).state))
      go true = beside m j d fit
      go false =
          let now = applied_fit (event_of e) (alone n d) (beside m n d fit) in
          record { memory_long = now.memory_long; writers_long = now.writers_long; is-allowed = now.is-allowed }

  still-fit :
      (ds : List Device) → every is_long ds ≡ true → every is_allowed ds ≡ true
      → (every is_long (map (device_after e k n) ds) ≡ true) × (every is_allowed (map (device_after e k n) ds) ≡ true)
  still-fit [] l a = (refl, refl)
  still-fit (d ∷ ds) l a =
      let now = device-fit 0 0 d (fit-device 0 d (both_left (is_long d) (every is_long ds) l) (both_left (is_allowed d) (every is_allowed ds) a)) in
      let rest = still-fit ds (both_right (is_long d) (every is_long ds) l) (both_right (is_allowed d) (every is_allowed ds) a) in
      (joined _ _ (fit-long 0 (device_after e k n d) now) rest.0, joined _ _ now.is-allowed rest.1)

-- ---- 12: pins

pins-same : (h : Device → Device) → ((d : Device) → (h d).chip.pins ≡ d.chip.pins) → (ds : List Device) → pins_differ (map h ds) ≡ pins_differ ds
pins-same h kept [] = refl
pins-same h kept (d ∷ ds) =
    rw (pins-same h kept ds, kept d)
    (ap (λ (t : Bool). t && pins_differ ds)
    (every-same (has_other_pins d.chip.pins) (has_other_pins d.chip.pins) h (λ x. ap (λ (p : ℕ). not (eqb p d.chip.pins)) (kept x)) ds))

-- none of those with other pins has these, so of devices with different pins at most one has them
none-with : (p : ℕ) (ds : List Device) → every (has_other_pins p) ds ≡ true → how_many (has_pins p) ds ≡ 0
none-with p [] t = refl
none-with p (d ∷ ds) t =
    let rest = none-with p ds (both_right (has_other_pins p d) (every (has_other_pins p) ds) t) in
    rw (not-true (has_pins p d) (both_left (has_other_pins p d) (every (has_other_pins p) ds) t)) (omega arith)

pub one-with : (p : ℕ) (ds : List Device) → pins_differ ds ≡ true → how_many (has_pins p) ds ≤ 1
one-with p [] u = omega arith
one-with p (d ∷ ds) u = go (has_pins p d) refl (one-with p ds (both_right (every (has_other_pins d.chip.pins) ds) (pins_differ ds) u))
  where
    others : every (has_other_pins d.chip.pins) ds ≡ true
    others = both_left (every (has_other_pins d.chip.pins) ds) (pins_differ ds) u

    go : (t : Bool) → has_pins p d ≡ t → how_many (has_pins p) ds ≤ 1 → cond t 1 0 + how_many (has_pins p) ds ≤ 1
    go true q rest = omega (arith, none-with p ds (subst (λ (x : ℕ). every (has_other_pins x) ds ≡ true) (eqb-true _ _ q) others))
    go false q rest = omega arith

-- ---- 12: phases, in the four ways in which they are told apart

record SameWay (p q : Phase) : Type 0 where
  idle : is_idle_phase p ≡ is_idle_phase q
  awaiting : is_awaiting_phase p ≡ is_awaiting_phase q
  ignoring : is_ignoring_phase p ≡ is_ignoring_phase q
  past : is_past_phase p ≡ is_past_phase q

stays : (p : Phase) → SameWay p p
stays p = record { idle = refl; awaiting = refl; ignoring = refl; past = refl }

-- the end of a read leaves the chip past its address
last-read : (p : Phase) → SameWay (phase_after_last_read p) p
unfolding phase_after_last_read
last-read Idle = stays Idle
last-read AddressAwaited = stays AddressAwaited
last-read Ignoring = stays Ignoring
last-read ControlAwaited = stays ControlAwaited
last-read (OneByte rs) = stays (OneByte rs)
last-read (EndlessBytes rs) = stays (EndlessBytes rs)
last-read Reading = record { idle = refl; awaiting = refl; ignoring = refl; past = refl }
last-read ReadEnded = stays ReadEnded

pub idle-is : (p : Phase) → is_idle_phase p ≡ true → p ≡ Idle
idle-is Idle e = refl
idle-is AddressAwaited e = absurd (false-true e)
idle-is Ignoring e = absurd (false-true e)
idle-is ControlAwaited e = absurd (false-true e)
idle-is (OneByte rs) e = absurd (false-true e)
idle-is (EndlessBytes rs) e = absurd (false-true e)
idle-is Reading e = absurd (false-true e)
idle-is ReadEnded e = absurd (false-true e)

pub awaiting-is : (p : Phase) → is_awaiting_phase p ≡ true → p ≡ AddressAwaited
awaiting-is Idle e = absurd (false-true e)
awaiting-is AddressAwaited e = refl
awaiting-is Ignoring e = absurd (false-true e)
awaiting-is ControlAwaited e = absurd (false-true e)
awaiting-is (OneByte rs) e = absurd (false-true e)
awaiting-is (EndlessBytes rs) e = absurd (false-true e)
awaiting-is Reading e = absurd (false-true e)
awaiting-is ReadEnded e = absurd (false-true e)

-- ignoring, or past its address
abbrev is_settled_phase : Phase → Bool
is_settled_phase p = is_ignoring_phase p || is_past_phase p

abbrev pub is_settled : Device → Bool
is_settled d = is_settled_phase d.chip.phase

-- an address byte settles every chip, and brings those past their address whose pins it names
address-settles : (t : Bool) (b : ℕ) → is_settled_phase (phase_after_address t b) ≡ true
unfolding phase_after_address
address-settles true b = go (eqb (b % 2) 0)
  where
    go : (t : Bool) → is_settled_phase (cond t ControlAwaited Reading) ≡ true
    go true = refl
    go false = refl
address-settles false b = refl

address-past : (pins b : ℕ) → is_past_phase (phase_after_address (is_addressed pins b) b) ≡ true → eqb pins (b / 2 - 60) ≡ true
unfolding is_addressed phase_after_address
address-past pins b t = go (eqb (b / 2) (60 + pins)) refl t
  where
    go :
        (m : Bool) → eqb (b / 2) (60 + pins) ≡ m → is_past_phase (cond m (cond (eqb (b % 2) 0) ControlAwaited Reading) Ignoring) ≡ true
        → eqb pins (b / 2 - 60) ≡ true
    go true q t = let named = eqb-true (b / 2) (60 + pins) q in eq-eqb pins (b / 2 - 60) (omega arith)
    go false q t = absurd (false-true t)

-- a later byte leaves a settled chip settled, and brings none past its address
control-past : (t rs : Bool) → is_past_phase (cond t (OneByte rs) (EndlessBytes rs)) ≡ true
control-past true rs = refl
control-past false rs = refl

byte-settled : (b pins : ℕ) (p : Phase) → is_settled_phase p ≡ true → is_settled_phase (phase_after_byte b pins p) ≡ true
byte-settled b pins Idle t = absurd (false-true t)
byte-settled b pins AddressAwaited t = absurd (false-true t)
byte-settled b pins Ignoring t = refl
byte-settled b pins ControlAwaited t = or_right (is_ignoring_phase (phase_after_control b)) _ (control-past (eqb (b / 128) 1) (rs_of b))
byte-settled b pins (OneByte rs) t = refl
byte-settled b pins (EndlessBytes rs) t = refl
byte-settled b pins Reading t = refl
byte-settled b pins ReadEnded t = refl

byte_past : (b pins : ℕ) (p : Phase) → is_settled_phase p ≡ true → is_past_phase (phase_after_byte b pins p) ≡ true → is_past_phase p ≡ true
byte_past b pins Idle s t = absurd (false-true s)
byte_past b pins AddressAwaited s t = absurd (false-true s)
byte_past b pins Ignoring s t = t
byte_past b pins ControlAwaited s t = refl
byte_past b pins (OneByte rs) s t = refl
byte_past b pins (EndlessBytes rs) s t = refl
byte_past b pins Reading s t = refl
byte_past b pins ReadEnded s t = refl

-- ---- 12: each event, where the devices move as event v moves them

module _ (h : Device → Device) (ds : List Device) where
  as-idle : every is_idle (map h ds) ≡ true → phases_agree (map h ds) ≡ true
  as-idle t = or_left _ _ t

  as-awaiting : every awaits_address (map h ds) ≡ true → phases_agree (map h ds) ≡ true
  as-awaiting t = or_right (every is_idle (map h ds)) _ (or_left _ _ t)

  as_one : every is_settled (map h ds) ≡ true → how_many is_past (map h ds) ≤ 1 → phases_agree (map h ds) ≡ true
  as_one t l = or_right (every is_idle (map h ds)) _ (or_right (every awaits_address (map h ds)) _ (joined _ _ t (le-leb _ _ l)))

  -- all in one phase
  all_in :
      (p : Phase) (f : Phase → Bool) → f p ≡ true → ((d : Device) → (h d).chip.phase ≡ p)
      → every (λ (d : Device). f d.chip.phase) (map h ds) ≡ true
  all_in p f t moved = every-same (λ (d : Device). true) (λ (d : Device). f d.chip.phase) h (λ d. ap f (moved d) ∙ t) ds ∙ any ds
    where
      any : (ds : List Device) → every (λ (d : Device). true) ds ≡ true
      any [] = refl
      any (d ∷ ds) = any ds

  unmoved : ((d : Device) → SameWay (h d).chip.phase d.chip.phase) → phases_agree ds ≡ true → phases_agree (map h ds) ≡ true
  unmoved same t =
      rw (
        every-same is_idle is_idle h (λ d. (same d).idle) ds,
        every-same awaits_address awaits_address h (λ d. (same d).awaiting) ds,
        every-same is_settled is_settled h (λ d. rw ((same d).ignoring, (same d).past)) ds,
        as_many is_past is_past h (λ d. (same d).past) ds,
      ) t

  byte-agrees :
      (b : ℕ) → ((d : Device) → (h d).chip.phase ≡ phase_after_byte b d.chip.pins d.chip.phase) → pins_differ ds ≡ true
      → (every is_idle ds ≡ true) ⊎ ((every awaits_address ds ≡ true) ⊎ (one_past ds ≡ true)) → phases_agree (map h ds) ≡ true
  byte-agrees b moved u (inl t) =
      as-idle (every_map is_idle is_idle h (λ d i. ap is_idle_phase (moved d ∙ ap (phase_after_byte b d.chip.pins) (idle-is d.chip.phase i))) ds t)
  byte-agrees b moved u (inr (inl t)) =
      as_one (every_map awaits_address is_settled h (λ d w. ap is_settled_phase (addressed d w) ∙ address-settles _ b) ds t)
      (omega (
        arith,
        one-with (b / 2 - 60) ds u,
        no_more (has_pins (b / 2 - 60)) is_past h awaits_address (λ d w q. address-past d.chip.pins b (ap is_past_phase (sym (addressed d w)) ∙ q)) ds t,
      ))
    where
      addressed : (d : Device) → awaits_address d ≡ true → (h d).chip.phase ≡ phase_after_address (is_addressed d.chip.pins b) b
      addressed d w = moved d ∙ ap (phase_after_byte b d.chip.pins) (awaiting-is d.chip.phase w)
  byte-agrees b moved u (inr (inr t)) =
      as_one (every_map is_settled is_settled h (λ d s. ap is_settled_phase (moved d) ∙ byte-settled b d.chip.pins d.chip.phase s) ds settled)
      (omega (
        arith,
        leb-true (how_many is_past ds) 1 (both_right (every is_settled ds) (leb (how_many is_past ds) 1) t),
        no_more is_past is_past h is_settled (λ d s q. byte_past b d.chip.pins d.chip.phase s (ap is_past_phase (sym (moved d)) ∙ q)) ds settled,
      ))
    where
      settled : every is_settled ds ≡ true
      settled = both_left (every is_settled ds) (leb (how_many is_past ds) 1) t

  still-agree :
      (v : Event) → ((d : Device) → (h d).chip.phase ≡ phase_after v d.chip.pins d.chip.phase) → pins_differ ds ≡ true → phases_agree ds ≡ true
      → phases_agree (map h ds) ≡ true
  still-agree (Byte b) moved u t = byte-agrees b moved u (ways (either (every is_idle ds) (every awaits_address ds || one_past ds) t))
    where
      ways :
          (every is_idle ds ≡ true) ⊎ (every awaits_address ds || one_past ds ≡ true)
          → (every is_idle ds ≡ true) ⊎ ((every awaits_address ds ≡ true) ⊎ (one_past ds ≡ true))
      ways (inl i) = inl i
      ways (inr r) = inr (either (every awaits_address ds) (one_past ds) r)
  still-agree Start moved u t = as-awaiting (all_in AddressAwaited is_awaiting_phase refl moved)
  still-agree Stop moved u t = as-idle (all_in Idle is_idle_phase refl moved)
  still-agree ReadAcknowledged moved u t = unmoved (λ d. rw (moved d) (stays d.chip.phase)) t
  still-agree ReadNotAcknowledged moved u t = unmoved (λ d. rw (moved d) (last-read d.chip.phase)) t
  still-agree Reset moved u t = as-idle (all_in Idle is_idle_phase refl moved)
  still-agree (Sensor v) moved u t = unmoved (λ d. rw (moved d) (stays d.chip.phase)) t
  still-agree Unlisted moved u t = unmoved (λ d. rw (moved d) (stays d.chip.phase)) t

-- ---- all of it

-- what 1, 2 and 12 let pass stays so after every event
pub stays_fit : (e k n : ℕ) (ds : List Device) → BusFit ds → BusFit (map (device_after e k n) ds)
stays_fit e k n ds fit =
    let one_by_one = still-fit e k n ds fit.long fit.allowed in
    record {
      long = one_by_one.0;
      allowed = one_by_one.1;
      pins-differ = pins-same (device_after e k n) (device-pins e k n) ds ∙ fit.pins-differ;
      phases-agree = still-agree (device_after e k n) ds (event_of e) (device-phase e k n) fit.pins-differ fit.phases-agree;
    }
