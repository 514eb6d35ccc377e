-- An allowed record stays allowed after any accepted event, and the lent memories keep their length.
use mathlib.Core.Path.{◌≡◌, refl, ◌∙◌}
use mathlib.Core.Bool.{Bool, true, false}
use mathlib.Core.List.{List}
use Prim.Native.Nat.{ℕ, ◌<◌}
use lib.ListN.{length-set}
use Rattle.registers.specs.declared.Registers.{Registers}
use Rattle.registers.specs.declared.Chip.{Chip}
use Rattle.registers.specs.declared.Phase.{Phase}
use Rattle.registers.specs.declared.Phase.TheVariants.{Idle, AddressAwaited, Ignoring, ControlAwaited, OneByte, EndlessBytes, Reading, ReadEnded}
use Rattle.registers.specs.Record.{allowed, allowed_registers, with_registers, with_pixels, in_phase}
use Rattle.registers.specs.State.{State, state}
use Rattle.registers.proofs.Within.{allowed-registers, allowed-pins, allowed-counts, allowed-parts}
use Rattle.commands.proofs.Allowed.{command-allowed}
use Rattle.pixel_counts.proofs.Laws as Pixels
use Rattle.display.specs.Display.{place_of, stored_of, pixels_after}
use Rattle.display.proofs.Address.{place-bound, next-allowed}
use Rattle.phases.specs.Changes.{controlled, pulsed, sensed}
use Rattle.engine.specs.declared.event.Event.{Event}
use Rattle.engine.specs.declared.event.Event.TheVariants.{Byte, Start, Stop, ReadAcknowledged, ReadNotAcknowledged, Reset, Sensor, Unlisted}
use Rattle.engine.specs.Event.{event_of}
use Rattle.engine.specs.Step.{Fit, content_of, on_byte, applied, accepted, counted}

-- the display address of what 1 and 2 let pass is within the memories
pub fit-place : (s : State) → Fit s → place_of s.chip.registers < 1717
fit-place s fit = place-bound s.chip.registers (allowed-registers s.chip fit.is-allowed)

with-registers-allowed :
    (c : Chip) (p : Phase) (r : Registers) → allowed c ≡ true → allowed_registers r ≡ true → allowed (with_registers (in_phase c p) r) ≡ true
with-registers-allowed c p r h hr = allowed-parts (with_registers (in_phase c p) r) hr (allowed-pins c h) (allowed-counts c h)

-- the counts stay allowed too, since one that could not be mended would stay as it is
mended-allowed :
    (c : Chip) (p : Phase) (r : Registers) (m : List ℕ) (b : ℕ) → allowed c ≡ true → allowed_registers r ≡ true
    → allowed (with_pixels (with_registers (in_phase c p) r) (pixels_after c.registers c.pixels m b)) ≡ true
unfolding pixels_after
mended-allowed c p r m b h hr =
    allowed-parts (with_pixels (with_registers (in_phase c p) r) _) hr (allowed-pins c h) (Pixels.mended-allowed c.pixels _ _ _ (allowed-counts c h))

content-fit : (rs : Bool) (p : Phase) (b : ℕ) (s : State) → Fit s → Fit (content_of rs p b s).state
content-fit false p b s fit =
    let before = allowed-registers s.chip fit.is-allowed in
    record {
      memory_long = fit.memory_long;
      writers_long = fit.writers_long;
      is-allowed = with-registers-allowed s.chip p _ fit.is-allowed (command-allowed b s.chip.registers before);
    }
content-fit true p b s fit =
    let before = allowed-registers s.chip fit.is-allowed in
    record {
      memory_long = length-set s.memory (place_of s.chip.registers) (stored_of s.chip.registers b) ∙ fit.memory_long;
      writers_long = length-set s.writers (place_of s.chip.registers) s.count ∙ fit.writers_long;
      is-allowed = mended-allowed s.chip p _ s.memory b fit.is-allowed (next-allowed s.chip.registers before);
    }

-- another record with the same registers and pins
same-fit : (s : State) (c : Chip) → allowed c ≡ allowed s.chip → Fit s → Fit (state c s.memory s.writers s.count)
same-fit s c e fit = record { memory_long = fit.memory_long; writers_long = fit.writers_long; is-allowed = e ∙ fit.is-allowed }

byte-fit : (p : Phase) (b : ℕ) (s : State) → Fit s → Fit (on_byte p b s).state
unfolding allowed controlled
byte-fit Idle b s fit = same-fit s s.chip refl fit
byte-fit AddressAwaited b s fit = same-fit s _ refl fit
byte-fit Ignoring b s fit = same-fit s s.chip refl fit
byte-fit ControlAwaited b s fit = same-fit s _ refl fit
byte-fit (OneByte rs) b s fit = content-fit rs ControlAwaited b s fit
byte-fit (EndlessBytes rs) b s fit = content-fit rs (EndlessBytes rs) b s fit
byte-fit Reading b s fit = same-fit s _ refl fit
byte-fit ReadEnded b s fit = same-fit s _ refl fit

pub applied_fit : (v : Event) (s : State) → Fit s → Fit (applied v s).state
unfolding applied allowed pulsed sensed
applied_fit (Byte b) s fit = byte-fit s.chip.phase b s fit
applied_fit Start s fit = same-fit s _ refl fit
applied_fit Stop s fit = same-fit s _ refl fit
applied_fit ReadAcknowledged s fit = same-fit s _ refl fit
applied_fit ReadNotAcknowledged s fit = same-fit s _ refl fit
applied_fit Reset s fit =
    record {
      memory_long = fit.memory_long;
      writers_long = fit.writers_long;
      is-allowed = allowed-parts (pulsed s.chip) refl (allowed-pins s.chip fit.is-allowed) (allowed-counts s.chip fit.is-allowed);
    }
applied_fit (Sensor value) s fit = same-fit s _ refl fit
applied_fit Unlisted s fit = same-fit s _ refl fit

pub accepted-fit : (e : ℕ) (s : State) → Fit s → Fit (accepted e s).state
unfolding accepted
accepted-fit e s fit =
    applied_fit (event_of e) (counted s) (record { memory_long = fit.memory_long; writers_long = fit.writers_long; is-allowed = fit.is-allowed })
