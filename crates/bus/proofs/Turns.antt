-- Where the turn of one chip finds the others: awaiting an address, or ignoring the bytes that are its data.
use mathlib.Core.Bool.{Bool, true, false, cond, not, ◌&&◌, ◌||◌}
use mathlib.Core.List.{List}
use mathlib.Core.Logic.{◌⊎◌, inl, inr}
use mathlib.Core.Path.{◌≡◌, refl, sym, ap, ◌∙◌, subst}
use Prim.Native.Nat.{ℕ, suc, ◌+◌, ◌/◌, ◌-◌, ◌^◌, ◌<◌}
use native.Mathlib.Nat.{suc-ne-zero}
use native.Mathlib.Omega.{arith}
use borrow.Author.Tests.{eqb-true, ne_eqb, leb-false, le-leb, lt-leb}
use lib.Dec.{eqb, leb, ltb}
use Rattle.registers.specs.declared.Phase.{Phase}
use Rattle.registers.specs.declared.Phase.TheVariants.{Idle, AddressAwaited, Ignoring, ControlAwaited, OneByte, EndlessBytes, Reading, ReadEnded}
use Rattle.registers.specs.Refusals.{refuse, ◌then◌, is_listed_event}
use Rattle.registers.proofs.Below.{true-false, false-true}
use Rattle.phases.specs.Phases.{is_addressed, phase_after_address, phase_after_last_read}
use Rattle.engine.specs.declared.event.Event.{Event}
use Rattle.engine.specs.declared.event.Event.TheVariants.{Byte, Start, Stop, ReadAcknowledged, ReadNotAcknowledged, Reset, Sensor, Unlisted}
use Rattle.engine.specs.Event.{event_of}
use Rattle.engine.proofs.Events.{between-event, high-event}
use Rattle.chip.specs.Plays.{write_address}
use Rattle.bus.specs.Apart.{Turn, after_byte, turn_after, turn_of, turn_at}
use Rattle.bus.specs.Apart.Turn.{address, data_byte, other}
use Rattle.bus.specs.Bus.{Device, At, is_past_phase, is_past}
use Rattle.bus.specs.Refusals.{is_sensor_reading, sent_refusal, BusFit}
use Rattle.bus.specs.Streams.{device_with, is_on}
use Rattle.bus.specs.When.{AllIn, OthersIgnore}
use Rattle.bus.proofs.Every.{at_same}
use Rattle.bus.proofs.Phases.{phase_after_byte, phase_after, reading-is-sensor}
use Rattle.bus.proofs.Picks.{by_pins, with-pins, with_none}
use Rattle.bus.proofs.Refusals.{sound-fit}

-- ---- where the turn of the chip with pins p finds another chip

abbrev pub Hears : Turn → Phase → Type 0
Hears address q = q ≡ AddressAwaited
Hears data_byte q = q ≡ Ignoring
Hears other q = Unit

module _ (p pins : ℕ) (apart : pins ≡ p → ⊥) where
  unaddressed : (b : ℕ) → b ≡ write_address p → phase_after_address (is_addressed pins b) b ≡ Ignoring
  unfolding is_addressed phase_after_address
  unaddressed b e = simp (ne_eqb (b / 2) (60 + pins) (λ q. apart (omega arith)))

  hears-address : (b : ℕ) (t : Bool) → eqb b (write_address p) ≡ t → Hears (cond t data_byte other) (phase_after_address (is_addressed pins b) b)
  hears-address b true q = unaddressed b (eqb-true b (write_address p) q)
  hears-address b false q = tt

  hears-byte : (b : ℕ) (t : Turn) (q : Phase) → Hears t q → Hears (after_byte p b t) (phase_after_byte b pins q)
  hears-byte b address q h =
      subst (λ (x : Phase). Hears (after_byte p b address) (phase_after_byte b pins x)) (sym h) (hears-address b (eqb b (write_address p)) refl)
  hears-byte b data_byte q h = ap (phase_after_byte b pins) h
  hears-byte b other q h = tt

  hears-last-read : (t : Turn) (q : Phase) → Hears t q → Hears t (phase_after_last_read q)
  unfolding phase_after_last_read
  hears-last-read address q h = ap phase_after_last_read h
  hears-last-read data_byte q h = ap phase_after_last_read h
  hears-last-read other q h = tt

  -- it stays so
  pub hears-on : (v : Event) (t : Turn) (q : Phase) → Hears t q → Hears (turn_after p v t) (phase_after v pins q)
  hears-on (Byte b) t q h = hears-byte b t q h
  hears-on Start t q h = refl
  hears-on Stop t q h = tt
  hears-on ReadAcknowledged t q h = h
  hears-on ReadNotAcknowledged t q h = hears-last-read t q h
  hears-on Reset t q h = tt
  hears-on (Sensor v) t q h = h
  hears-on Unlisted t q h = h

-- ---- refused events

unlisted : (e : ℕ) → is_listed_event e ≡ false → event_of e ≡ Unlisted
unlisted e h = go (leb e 260) (leb 512 e) (leb e 767) refl refl refl h
  where
    go : (a b c : Bool) → leb e 260 ≡ a → leb 512 e ≡ b → leb e 767 ≡ c → a || (b && c) ≡ false → event_of e ≡ Unlisted
    go true b c ea eb ec h = absurd (true-false h)
    go false true true ea eb ec h = absurd (true-false h)
    go false true false ea eb ec h = high-event e (omega (arith, leb-false e 767 ec))
    go false false c ea eb ec h = between-event e (omega (arith, leb-false e 260 ea)) (omega (arith, leb-false 512 e eb))

-- an event that is refused says nothing of the turn, unless the count is full
pub refused-turn : (e k n r : ℕ) (p : ℕ) (t : Turn) → sent_refusal e k n ≡ suc r → (turn_after p (event_of e) t ≡ t) ⊎ (n ≡ 2 ^ 64 - 1)
unfolding sent_refusal
refused-turn e k n r p t h = go (is_listed_event e) (is_sensor_reading e) (ltb 3 k) (eqb n (2 ^ 64 - 1)) refl refl refl h
  where
    go :
        (l s high f : Bool) → is_listed_event e ≡ l → is_sensor_reading e ≡ s → eqb n (2 ^ 64 - 1) ≡ f
        → refuse (not l) 3 then refuse (s && high) 13 then refuse f 4 ≡ suc r → (turn_after p (event_of e) t ≡ t) ⊎ (n ≡ 2 ^ 64 - 1)
    go false s high f el es ef h = inl (ap (λ (v : Event). turn_after p v t) (unlisted e el))
    go true true true f el es ef h = inl (ap (λ (v : Event). turn_after p v t) (reading-is-sensor e es))
    go true true false true el es ef h = inr (eqb-true n (2 ^ 64 - 1) ef)
    go true true false false el es ef h = absurd (suc-ne-zero r (sym h))
    go true false high true el es ef h = inr (eqb-true n (2 ^ 64 - 1) ef)
    go true false high false el es ef h = absurd (suc-ne-zero r (sym h))

-- two bytes are refused alike
pub bytes-refused : (b c k l n : ℕ) → b < 256 → c < 256 → sent_refusal b k n ≡ sent_refusal c l n
unfolding sent_refusal
bytes-refused b c k l n hb hc =
    simp (le-leb b 260 (omega arith), le-leb c 260 (omega arith), lt-leb 512 b (omega arith), lt-leb 512 c (omega arith))

-- ---- at the start

-- a phase past the address is no awaiting of it
past-hears : (q : Phase) → is_past_phase q ≡ true → Hears (turn_of q) Ignoring
past-hears Idle t = absurd (false-true t)
past-hears AddressAwaited t = absurd (false-true t)
past-hears Ignoring t = absurd (false-true t)
past-hears ControlAwaited t = refl
past-hears (OneByte rs) t = refl
past-hears (EndlessBytes rs) t = refl
past-hears Reading t = tt
past-hears ReadEnded t = tt

module _ (p : ℕ) (ds : List Device) (fit : BusFit ds) (i : ℕ) (d : Device) (at : At i d ds) (apart : d.chip.pins ≡ p → ⊥) where
  beside : (j : ℕ) → At j (device_with p ds) ds → (device_with p ds).chip.pins ≡ p → Hears (turn_at p ds) d.chip.phase
  beside j there pins = go ((sound-fit ds).0 fit).sharing.together
    where
      turn : (q : Phase) → (device_with p ds).chip.phase ≡ q → Hears (turn_of q) d.chip.phase → Hears (turn_at p ds) d.chip.phase
      turn q e h = subst (λ (x : Phase). Hears (turn_of x) d.chip.phase) (sym e) h

      one : i ≡ j → d ≡ device_with p ds
      one e = at_same ds i d (device_with p ds) at (subst (λ (n : ℕ). At n (device_with p ds) ds) (sym e) there)

      others :
          OthersIgnore ds → (d.chip.phase ≡ Ignoring) ⊎ (is_past d ≡ true)
          → ((device_with p ds).chip.phase ≡ Ignoring) ⊎ (is_past (device_with p ds) ≡ true) → Hears (turn_at p ds) d.chip.phase
      others o mine (inl e) = turn Ignoring e tt
      others o (inl e) (inr t) = subst (Hears (turn_at p ds)) (sym e) (past-hears (device_with p ds).chip.phase t)
      others o (inr s) (inr t) =
          absurd (apart (ap (λ (x : Device). x.chip.pins) (one (o.one-past i j d (device_with p ds) at there s t)) ∙ pins))

      go : AllIn Idle ds ⊎ (AllIn AddressAwaited ds ⊎ OthersIgnore ds) → Hears (turn_at p ds) d.chip.phase
      go (inl all) = turn Idle (all j (device_with p ds) there) tt
      go (inr (inl all)) = turn AddressAwaited (all j (device_with p ds) there) (all i d at)
      go (inr (inr o)) = others o (o.ignoring_or_past i d at) (o.ignoring_or_past j (device_with p ds) there)

  -- a device with other pins, on a bus that 1, 2 and 12 let pass
  pub hears-first : Hears (turn_at p ds) d.chip.phase
  hears-first = go (is_on p ds) refl
    where
      go : (t : Bool) → is_on p ds ≡ t → Hears (turn_at p ds) d.chip.phase
      go true on = let there = (by_pins p).stands ds on in beside there.0 there.1 (with-pins p ds on)
      go false off = subst (λ (x : Device). Hears (turn_of x.chip.phase) d.chip.phase) (sym (with_none p ds off)) tt
