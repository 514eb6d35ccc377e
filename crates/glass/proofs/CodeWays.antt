-- Ways through the code of a pixel and of the two calls, over plain variables.
use mathlib.Core.Path.{◌≡◌, refl, sym, ap}
use Prim.Native.Nat.{ℕ, zero, suc, ◌/◌, ◌%◌, ◌<◌}
use native.Mathlib.Omega.{arith}
use Rattle.std.specs.Prelude.{Ok, Err}
use Rattle.refusals.specs.declared.Refusal.{Refusal}
use Rattle.refusals.specs.Numbers.{number, numbered}
use Rattle.refusals.proofs.Positive.{positive}
use Rattle.registers.specs.declared.Chip.{Chip}
use Rattle.glass.specs.Pixel.{value_in}
use Rattle.glass.specs.Glass.{place_refusal, glass_refusal, told_unless}
use Rattle.glass.specs.When.{PlaceWhen, GlassWhen}
use Rattle.glass.proofs.Refusals.{place-exactly, glass-exactly}

-- ---- a pixel

-- the two bits of each of the four rows
pub value-0 : (b : ℕ) → b % 4 ≡ value_in b 0
value-0 b = omega arith

pub value-1 : (b : ℕ) → b / 4 % 4 ≡ value_in b 1
value-1 b = omega arith

pub value-2 : (b : ℕ) → b / 16 % 4 ≡ value_in b 2
value-2 b = omega arith

pub value-3 : (b : ℕ) → b < 256 → b / 64 ≡ value_in b 3
value-3 b h = omega arith

-- ---- the two calls

-- a refusal has a number of its own, which is not that of none
pub refused_told : {A : Type 0} (r : Refusal) (x : ℕ) (a : A) → number r ≡ x → numbered {A = A} (Err r) ≡ told_unless x a
refused_told r zero a e = absurd (omega (arith, positive r, e))
refused_told r (suc k) a e = ap (λ (n : ℕ). Err n) e

pub accepted_told : {A : Type 0} (x : ℕ) (a : A) → 0 ≡ x → Ok a ≡ told_unless x a
accepted_told zero a e = refl
accepted_told (suc k) a e = absurd (omega (arith, e))

-- a row and column that are not refused are on the glass
pub place-accepts : (c : Chip) (row column : ℕ) → 0 ≡ place_refusal c row column → PlaceWhen c row column 0
place-accepts c row column e = (place-exactly c row column 0).0 (sym e)

pub glass-accepts : (c : Chip) (n row column : ℕ) → 0 ≡ glass_refusal c n row column → GlassWhen c n row column 0
glass-accepts c n row column e = (glass-exactly c n row column 0).0 (sym e)
