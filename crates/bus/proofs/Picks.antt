-- One device of a list, by its pins or by its place, and the one that it becomes with an event.
use mathlib.Core.Bool.{Bool, true, false, cond, ◌||◌}
use mathlib.Core.List.{List, [], ◌∷◌, map}
use mathlib.Core.Path.{◌≡◌, refl, sym, ap, ◌∙◌}
use Prim.Native.Nat.{ℕ, zero, suc, ◌<◌}
use native.Mathlib.Nat.{le_of_suc-le-suc, not-suc-le-zero}
use borrow.Author.Tests.{eqb-true, eq-eqb}
use lib.Dec.{eqb}
use lib.ListN.{length, length-map}
use Rattle.registers.proofs.Below.{false-true}
use Rattle.bus.specs.Bus.{Device, At, has_pins}
use Rattle.bus.specs.Streams.{device_with, is_on, no_device, device_at}
use Rattle.bus.proofs.Every.{or_left, or_right}

abbrev pub KeepsPins : (Device → Device) → Type 0
KeepsPins h = (d : Device) → (h d).chip.pins ≡ d.chip.pins

-- a pick from the lists that have what is picked
pub record Picks (On : List Device → Type 0) (pick : List Device → Device) : Type 0 where
  pub stands : (ds : List Device) → On ds → (i : ℕ) × At i (pick ds) ds
  pub stays : (h : Device → Device) → KeepsPins h → (ds : List Device) → On ds → On (map h ds)
  pub becomes : (h : Device → Device) → KeepsPins h → (ds : List Device) → On ds → pick (map h ds) ≡ h (pick ds)

-- ---- by its pins

module _ (p : ℕ) where
  abbrev pub OnBus : List Device → Type 0
  OnBus ds = is_on p ds ≡ true

  -- a device with these pins anywhere is one that is found
  pub found : (ds : List Device) (i : ℕ) (d : Device) → At i d ds → d.chip.pins ≡ p → OnBus ds
  found [] i d a e = absurd a
  found (x ∷ ds) zero d a e = or_left _ _ (eq-eqb _ _ (ap (λ (y : Device). y.chip.pins) a ∙ e))
  found (x ∷ ds) (suc i) d a e = or_right (has_pins p x) _ (found ds i d a e)

  with-stands : (ds : List Device) → OnBus ds → (i : ℕ) × At i (device_with p ds) ds
  with-stands [] on = absurd (false-true on)
  with-stands (d ∷ ds) on = go (has_pins p d) on (with-stands ds)
    where
      go : (t : Bool) → t || is_on p ds ≡ true → (OnBus ds → (i : ℕ) × At i (device_with p ds) ds) → (i : ℕ) × At i (cond t d (device_with p ds)) (d ∷ ds)
      go true on rest = (zero, refl)
      go false on rest = let there = rest on in (suc there.0, there.1)

  module _ (h : Device → Device) (keeps : KeepsPins h) where
    same-pins : (d : Device) → has_pins p (h d) ≡ has_pins p d
    same-pins d = ap (λ (n : ℕ). eqb n p) (keeps d)

    pub still-on : (ds : List Device) → is_on p (map h ds) ≡ is_on p ds
    still-on [] = refl
    still-on (d ∷ ds) = rw (same-pins d, still-on ds)

    pub with-becomes : (ds : List Device) → OnBus ds → device_with p (map h ds) ≡ h (device_with p ds)
    with-becomes [] on = absurd (false-true on)
    with-becomes (d ∷ ds) on = ap (λ (t : Bool). cond t (h d) (device_with p (map h ds))) (same-pins d) ∙ go (has_pins p d) on (with-becomes ds)
      where
        go :
            (t : Bool) → t || is_on p ds ≡ true → (OnBus ds → device_with p (map h ds) ≡ h (device_with p ds))
            → cond t (h d) (device_with p (map h ds)) ≡ h (cond t d (device_with p ds))
        go true on rest = refl
        go false on rest = rest on

  pub by_pins : Picks OnBus (device_with p)
  by_pins = record { stands = with-stands; stays = λ h keeps ds on. still-on h keeps ds ∙ on; becomes = with-becomes }

  -- it has them
  pub with-pins : (ds : List Device) → is_on p ds ≡ true → (device_with p ds).chip.pins ≡ p
  with-pins [] on = absurd (false-true on)
  with-pins (d ∷ ds) on = go (has_pins p d) refl on (with-pins ds)
    where
      go :
          (t : Bool) → has_pins p d ≡ t → t || is_on p ds ≡ true → (is_on p ds ≡ true → (device_with p ds).chip.pins ≡ p)
          → (cond t d (device_with p ds)).chip.pins ≡ p
      go true q on rest = eqb-true d.chip.pins p q
      go false q on rest = rest on

  -- where there is none
  pub with_none : (ds : List Device) → is_on p ds ≡ false → device_with p ds ≡ no_device
  with_none [] off = refl
  with_none (d ∷ ds) off = go (has_pins p d) off (with_none ds)
    where
      go : (t : Bool) → t || is_on p ds ≡ false → (is_on p ds ≡ false → device_with p ds ≡ no_device) → cond t d (device_with p ds) ≡ no_device
      go true off rest = absurd (false-true (sym off))
      go false off rest = rest off

-- ---- by its place, from 0

abbrev pub HasPlace : ℕ → List Device → Type 0
HasPlace i ds = i < length ds

at-stands : (i : ℕ) (ds : List Device) → HasPlace i ds → At i (device_at i ds) ds
at-stands i [] on = absurd (not-suc-le-zero on)
at-stands zero (d ∷ ds) on = refl
at-stands (suc i) (d ∷ ds) on = at-stands i ds (le_of_suc-le-suc on)

at-becomes : (i : ℕ) (h : Device → Device) → KeepsPins h → (ds : List Device) → HasPlace i ds → device_at i (map h ds) ≡ h (device_at i ds)
at-becomes i h keeps [] on = absurd (not-suc-le-zero on)
at-becomes zero h keeps (d ∷ ds) on = refl
at-becomes (suc i) h keeps (d ∷ ds) on = at-becomes i h keeps ds (le_of_suc-le-suc on)

pub by_place : (i : ℕ) → Picks (HasPlace i) (device_at i)
by_place i = record { stands = λ ds on. (i, at-stands i ds on); stays = λ h keeps ds on. rw (length-map ds h) on; becomes = at-becomes i }
