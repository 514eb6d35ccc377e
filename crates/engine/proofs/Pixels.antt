-- The pixels by value over an event: true counts stay true and refuse nothing; counts of any kind change by a display byte alone.
use mathlib.Core.Bool.{Bool, true, false, cond, ◌&&◌}
use mathlib.Core.Path.{◌≡◌, refl, sym, ap, ◌∙◌, subst}
use Prim.Native.Nat.{ℕ, ◌<◌}
use native.Mathlib.Decide.{dec_lt}
use native.Mathlib.Omega.{arith}
use borrow.Author.Tests.{lt-ltb, le-ltb, ltb-true}
use lib.Dec.{ltb}
use lib.ListN.{get_or, length, set}
use Rattle.registers.specs.declared.Phase.{Phase}
use Rattle.registers.specs.declared.Phase.TheVariants.{Idle, AddressAwaited, Ignoring, ControlAwaited, OneByte, EndlessBytes, Reading, ReadEnded}
use Rattle.registers.specs.declared.PixelCounts.{PixelCounts}
use Rattle.registers.specs.Record.{phase_rs}
use Rattle.registers.specs.Refusals.{refuse}
use Rattle.registers.specs.State.{State}
use Rattle.registers.proofs.Below.{false-true}
use Rattle.registers.proofs.Within.{both_left, both_right}
use Rattle.pixel_counts.specs.Counts.{counts_of, TrueCounts}
use Rattle.pixel_counts.specs.Mending.{mendable, mended}
use Rattle.pixel_counts.proofs.Laws.{true-mendable, stays-true}
use Rattle.display.specs.Display.{place_of, stored_of, pixels_fit, pixels_after}
use Rattle.phases.specs.Changes.{controlled, pulsed, sensed}
use Rattle.engine.specs.declared.event.Event.{Event}
use Rattle.engine.specs.declared.event.Event.TheVariants.{Byte, Start, Stop, ReadAcknowledged, ReadNotAcknowledged, Reset, Sensor, Unlisted}
use Rattle.engine.specs.Event.{event_of, is_byte}
use Rattle.engine.specs.Step.{Fit, is_display_byte, pixel_refusal, pixels_upon, content_of, on_byte, applied, accepted, counted}
use Rattle.engine.proofs.Allowed.{fit-place}
use Rattle.engine.proofs.Events.{byte-event, other-event}

-- ---- true counts

module _ (s : State) (fit : Fit s) (is_true : TrueCounts s) where
  there : place_of s.chip.registers < length s.memory
  there = subst (λ (n : ℕ). place_of s.chip.registers < n) (sym fit.memory_long) (fit-place s fit)

  -- they can be mended at every display byte
  pub true-fit : (b : ℕ) → pixels_fit s.chip.registers s.chip.pixels s.memory b ≡ true
  unfolding pixels_fit
  true-fit b =
      ap (λ (n : PixelCounts). mendable n (place_of s.chip.registers) (get_or s.memory (place_of s.chip.registers) 0) (stored_of s.chip.registers b))
      is_true
      ∙ true-mendable s.memory (place_of s.chip.registers) (stored_of s.chip.registers b) there (fit-place s fit)

  -- so that 16 never comes
  pub true-refusal : (e : ℕ) → pixel_refusal e s.chip s.memory ≡ 0
  unfolding pixel_refusal
  true-refusal e = simp (true-fit e) (none (is_display_byte e s.chip.phase))
    where
      none : (t : Bool) → refuse (t && false) 16 ≡ 0
      none true = refl
      none false = refl

  -- and are true after it
  pub true-after :
      (b : ℕ) → pixels_after s.chip.registers s.chip.pixels s.memory b
      ≡ counts_of (set s.memory (place_of s.chip.registers) (stored_of s.chip.registers b))
  unfolding pixels_after
  true-after b =
      ap (λ (n : PixelCounts). mended n (place_of s.chip.registers) (get_or s.memory (place_of s.chip.registers) 0) (stored_of s.chip.registers b))
      is_true
      ∙ stays-true s.memory (place_of s.chip.registers) (stored_of s.chip.registers b) there (fit-place s fit)

content-true : (rs : Bool) (p : Phase) (b : ℕ) (s : State) → Fit s → TrueCounts s → TrueCounts (content_of rs p b s).state
content-true false p b s fit t = t
content-true true p b s fit t = true-after s fit t b

byte-true : (p : Phase) (b : ℕ) (s : State) → Fit s → TrueCounts s → TrueCounts (on_byte p b s).state
unfolding controlled
byte-true Idle b s fit t = t
byte-true AddressAwaited b s fit t = t
byte-true Ignoring b s fit t = t
byte-true ControlAwaited b s fit t = t
byte-true (OneByte rs) b s fit t = content-true rs ControlAwaited b s fit t
byte-true (EndlessBytes rs) b s fit t = content-true rs (EndlessBytes rs) b s fit t
byte-true Reading b s fit t = t
byte-true ReadEnded b s fit t = t

pub applied-true : (v : Event) (s : State) → Fit s → TrueCounts s → TrueCounts (applied v s).state
unfolding applied pulsed sensed
applied-true (Byte b) s fit t = byte-true s.chip.phase b s fit t
applied-true Start s fit t = t
applied-true Stop s fit t = t
applied-true ReadAcknowledged s fit t = t
applied-true ReadNotAcknowledged s fit t = t
applied-true Reset s fit t = t
applied-true (Sensor value) s fit t = t
applied-true Unlisted s fit t = t

pub accepted-true : (e : ℕ) (s : State) → Fit s → TrueCounts s → TrueCounts (accepted e s).state
unfolding accepted
accepted-true e s fit t =
    applied-true (event_of e) (counted s) (record { memory_long = fit.memory_long; writers_long = fit.writers_long; is-allowed = fit.is-allowed }) t

-- ---- counts of any kind, where no display byte comes

pub byte-kept : (p : Phase) (b : ℕ) (s : State) → phase_rs p ≡ false → (on_byte p b s).state.chip.pixels ≡ s.chip.pixels
unfolding controlled
byte-kept Idle b s f = refl
byte-kept AddressAwaited b s f = refl
byte-kept Ignoring b s f = refl
byte-kept ControlAwaited b s f = refl
byte-kept (OneByte true) b s f = absurd (false-true (sym f))
byte-kept (OneByte false) b s f = refl
byte-kept (EndlessBytes true) b s f = absurd (false-true (sym f))
byte-kept (EndlessBytes false) b s f = refl
byte-kept Reading b s f = refl
byte-kept ReadEnded b s f = refl

-- the reset pulse among them
pub applied-kept : (v : Event) (s : State) → is_byte v && phase_rs s.chip.phase ≡ false → (applied v s).state.chip.pixels ≡ s.chip.pixels
unfolding applied pulsed sensed
applied-kept (Byte b) s f = byte-kept s.chip.phase b s f
applied-kept Start s f = refl
applied-kept Stop s f = refl
applied-kept ReadAcknowledged s f = refl
applied-kept ReadNotAcknowledged s f = refl
applied-kept Reset s f = refl
applied-kept (Sensor value) s f = refl
applied-kept Unlisted s f = refl

pub accepted-kept : (e : ℕ) (s : State) → is_display_byte e s.chip.phase ≡ false → (accepted e s).state.chip.pixels ≡ s.chip.pixels
unfolding accepted
accepted-kept e s f =
    applied-kept (event_of e) (counted s) (ap (λ (t : Bool). t && phase_rs s.chip.phase) (byte-number (dec_lt e 256)) ∙ f)
  where
    byte-number : Dec (e < 256) → is_byte (event_of e) ≡ ltb e 256
    byte-number (yes l) = ap is_byte (byte-event e l) ∙ sym (lt-ltb e 256 l)
    byte-number (no n) = other-event e (omega arith) ∙ sym (le-ltb e 256 (omega arith))

-- ---- all of it: a display byte mends them, no other event changes them

byte-upon : (p : Phase) (b : ℕ) (s : State) → phase_rs p ≡ true → (on_byte p b s).state.chip.pixels ≡ pixels_after s.chip.registers s.chip.pixels s.memory b
byte-upon Idle b s t = absurd (false-true t)
byte-upon AddressAwaited b s t = absurd (false-true t)
byte-upon Ignoring b s t = absurd (false-true t)
byte-upon ControlAwaited b s t = absurd (false-true t)
byte-upon (OneByte true) b s t = refl
byte-upon (OneByte false) b s t = absurd (false-true t)
byte-upon (EndlessBytes true) b s t = refl
byte-upon (EndlessBytes false) b s t = absurd (false-true t)
byte-upon Reading b s t = absurd (false-true t)
byte-upon ReadEnded b s t = absurd (false-true t)

pub pixels-upon : (e : ℕ) (s : State) → (accepted e s).state.chip.pixels ≡ pixels_upon e s.chip s.memory
unfolding accepted applied
pixels-upon e s = go (is_display_byte e s.chip.phase) refl
  where
    mends : is_display_byte e s.chip.phase ≡ true → (accepted e s).state.chip.pixels ≡ pixels_after s.chip.registers s.chip.pixels s.memory e
    mends t =
        ap (λ (v : Event). (applied v (counted s)).state.chip.pixels) (byte-event e (ltb-true e 256 (both_left (ltb e 256) (phase_rs s.chip.phase) t)))
        ∙ byte-upon s.chip.phase e (counted s) (both_right (ltb e 256) (phase_rs s.chip.phase) t)

    go :
        (t : Bool) → is_display_byte e s.chip.phase ≡ t
        → (accepted e s).state.chip.pixels ≡ cond t (pixels_after s.chip.registers s.chip.pixels s.memory e) s.chip.pixels
    go true q = mends q
    go false q = accepted-kept e s q
