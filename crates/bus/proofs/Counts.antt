-- True counts of pixels on a bus: no event is refused by 16, and they are true after every event.
use mathlib.Core.Bool.{Bool, true, false, cond}
use mathlib.Core.List.{List, [], ◌∷◌, map}
use mathlib.Core.Path.{◌≡◌, refl}
use Prim.Native.Nat.{ℕ}
use borrow.Author.Tests.{eq-eqb}
use Rattle.registers.proofs.Within.{both_left, both_right}
use Rattle.engine.specs.Answer.{Nothing}
use Rattle.engine.specs.Event.{event_of}
use Rattle.engine.specs.Step.{nothing_stored, applied}
use Rattle.engine.proofs.Pixels.{true-refusal, applied-true}
use Rattle.bus.specs.Bus.{Device, alone, device_of, every, CountsTrue, AllTrue, fresh_devices}
use Rattle.bus.specs.Refusals.{is_long, is_allowed, counts_fit}
use Rattle.bus.specs.Step.{misses, heard_by, device_after}
use Rattle.bus.proofs.Every.{joined}
use Rattle.bus.proofs.Fits.{fit-device}

-- 16 never comes
pub all_take :
    (e : ℕ) (ds : List Device) → every is_long ds ≡ true → every is_allowed ds ≡ true → AllTrue ds → every (counts_fit e) ds ≡ true
all_take e [] l a t = refl
all_take e (d ∷ ds) l a t =
    let fit = fit-device 0 d (both_left (is_long d) (every is_long ds) l) (both_left (is_allowed d) (every is_allowed ds) a) in
    joined _ _ (eq-eqb _ _ (true-refusal (alone 0 d) fit t.0 e))
    (all_take e ds (both_right (is_long d) (every is_long ds) l) (both_right (is_allowed d) (every is_allowed ds) a) t.1)

module _ (e k n : ℕ) where
  true-after : (d : Device) → is_long d ≡ true → is_allowed d ≡ true → CountsTrue d → CountsTrue (device_after e k n d)
  unfolding heard_by
  true-after d l a t = go (misses e k d)
    where
      go : (m : Bool) → CountsTrue (device_of (cond m (nothing_stored Nothing d.chip (alone n d)) (applied (event_of e) (alone n d))).state)
      go true = t
      go false = applied-true (event_of e) (alone n d) (fit-device n d l a) t

  -- true counts stay true
  pub all-true-after :
      (ds : List Device) → every is_long ds ≡ true → every is_allowed ds ≡ true → AllTrue ds → AllTrue (map (device_after e k n) ds)
  all-true-after [] l a t = tt
  all-true-after (d ∷ ds) l a t = (
    true-after d (both_left (is_long d) (every is_long ds) l) (both_left (is_allowed d) (every is_allowed ds) a) t.0,
    all-true-after ds (both_right (is_long d) (every is_long ds) l) (both_right (is_allowed d) (every is_allowed ds) a) t.1,
  )

-- chips as a reset and a counting start leave them
pub fresh-true : (memories writers : ℕ → List ℕ) → AllTrue (fresh_devices memories writers)
fresh-true memories writers = (refl, (refl, (refl, (refl, tt))))
