-- The order of refusals: the first that stands is the answer.
use mathlib.Core.Path.{◌≡◌, refl, sym, ◌∙◌}
use mathlib.Core.Bool.{Bool, true, false, ◌||◌}
use Prim.Native.Nat.{ℕ, zero, suc}
use native.Mathlib.Nat.{suc-ne-zero}
use Rattle.registers.specs.Refusals.{refuse, ◌then◌}

-- ---- a function that gives the first refusal, over plain variables

pub refused-first : (x first rest : ℕ) → x ≡ first → (x ≡ 0 → ⊥) → x ≡ first then rest
refused-first x zero rest e n = absurd (n e)
refused-first x (suc k) rest e n = e

pub refused-later : (x first rest k : ℕ) → x ≡ first → x ≡ 0 → k ≡ rest → k ≡ first then rest
refused-later x first rest k e z h = rw (sym e ∙ z) h

-- ---- what it means that there is none

pub then-zero : (a b : ℕ) → a then b ≡ 0 → (a ≡ 0) × (b ≡ 0)
then-zero zero b h = (refl, h)
then-zero (suc a) b h = absurd (suc-ne-zero a h)

pub refuse-none : (t : Bool) (k : ℕ) → refuse t (suc k) ≡ 0 → t ≡ false
refuse-none true k h = absurd (suc-ne-zero k h)
refuse-none false k h = refl

pub or-none : (a b : Bool) → a || b ≡ false → (a ≡ false) × (b ≡ false)
or-none true b h = (h, cc)
or-none false b h = (refl, h)
