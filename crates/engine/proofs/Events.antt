-- The kind of an event by its number: a byte, a sensor reading, or one that is not listed.
use mathlib.Core.Bool.{Bool, true, false, cond}
use mathlib.Core.Path.{◌≡◌, refl, ap, ◌∙◌}
use Prim.Native.Nat.{ℕ, ◌+◌, ◌-◌, ◌<◌, ◌≤◌}
use native.Mathlib.Omega.{arith}
use borrow.Author.Tests.{lt-ltb, le-ltb, ne_eqb}
use lib.Dec.{ltb, eqb}
use Rattle.engine.specs.declared.event.Event.TheVariants.{Byte, Start, Stop, ReadAcknowledged, ReadNotAcknowledged, Reset, Sensor, Unlisted}
use Rattle.engine.specs.Event.{event_of, is_byte}

pub byte-event : (b : ℕ) → b < 256 → event_of b ≡ Byte b
byte-event b h = simp (lt-ltb b 256 h)

-- the tests that fail above 260
past-reset : (e : ℕ) → 260 < e → event_of e ≡ cond (ltb e 512) Unlisted (cond (ltb e 768) (Sensor (e - 512)) Unlisted)
past-reset e h =
    simp (
      le-ltb e 256 (omega arith),
      ne_eqb e 256 (λ q. omega arith),
      ne_eqb e 257 (λ q. omega arith),
      ne_eqb e 258 (λ q. omega arith),
      ne_eqb e 259 (λ q. omega arith),
      ne_eqb e 260 (λ q. omega arith),
    )

pub between-event : (e : ℕ) → 260 < e → e < 512 → event_of e ≡ Unlisted
between-event e h l = past-reset e h ∙ simp (lt-ltb e 512 l)

pub reading-event : (e : ℕ) → 512 ≤ e → e < 768 → event_of e ≡ Sensor (e - 512)
reading-event e h l = past-reset e (omega arith) ∙ simp (le-ltb e 512 h, lt-ltb e 768 l)

pub high-event : (e : ℕ) → 768 ≤ e → event_of e ≡ Unlisted
high-event e h = past-reset e (omega arith) ∙ simp (le-ltb e 512 (omega arith), le-ltb e 768 h)

pub sensor-event : (v : ℕ) → v < 256 → event_of (512 + v) ≡ Sensor v
sensor-event v h = reading-event (512 + v) (omega arith) (omega arith) ∙ ap Sensor (omega arith)

-- the events that are no bytes, by the tests that tell them
other-kinds :
    (a b c d f g h : Bool) (x : ℕ)
    → is_byte (cond a Start (cond b Stop (cond c ReadAcknowledged (cond d ReadNotAcknowledged (cond f Reset (cond g Unlisted (cond h (Sensor x) Unlisted))))))) ≡ false
other-kinds true b c d f g h x = refl
other-kinds false true c d f g h x = refl
other-kinds false false true d f g h x = refl
other-kinds false false false true f g h x = refl
other-kinds false false false false true g h x = refl
other-kinds false false false false false true h x = refl
other-kinds false false false false false false true x = refl
other-kinds false false false false false false false x = refl

pub other-event : (e : ℕ) → 256 ≤ e → is_byte (event_of e) ≡ false
other-event e h = rw (le-ltb e 256 h) (other-kinds (eqb e 256) (eqb e 257) (eqb e 258) (eqb e 259) (eqb e 260) (ltb e 512) (ltb e 768) (e - 512))
