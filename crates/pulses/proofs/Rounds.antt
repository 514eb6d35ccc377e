-- Four pulses make up their level, from whichever frame on they are counted.
use mathlib.Core.Path.{◌≡◌, refl}
use Prim.Native.Nat.{ℕ, zero, suc, ◌+◌, ◌%◌, ◌≤◌}
use native.Mathlib.Omega.{arith}
use native.Mathlib.Nat.{suc-mul}
use Rattle.pulses.specs.Pulse.{pulse}

-- ---- one round

pub round : (g : ℕ) → pulse g 0 + pulse g 1 + pulse g 2 + pulse g 3 ≡ g
round g = omega arith

-- whichever frame it is
pub pulse-bound : (g k : ℕ) → g ≤ 64 → pulse g k ≤ 16
pulse-bound g k h = omega (arith, suc-mul k g)

-- ---- from any frame on

module _ (p : ℕ → ℕ) (f : ℕ) where
  pub any-four : p (f % 4) + (p ((f + 1) % 4) + (p ((f + 1 + 1) % 4) + p ((f + 1 + 1 + 1) % 4))) ≡ p 0 + p 1 + p 2 + p 3
  any-four = go (f % 4) refl
    where
      go : (k : ℕ) → f % 4 ≡ k → p (f % 4) + (p ((f + 1) % 4) + (p ((f + 1 + 1) % 4) + p ((f + 1 + 1 + 1) % 4))) ≡ p 0 + p 1 + p 2 + p 3
      go zero e =
          let first : (f + 1) % 4 ≡ 1 = omega arith in
          let second : (f + 1 + 1) % 4 ≡ 2 = omega arith in
          let third : (f + 1 + 1 + 1) % 4 ≡ 3 = omega arith in
          rw (e, first, second, third) (omega arith)
      go (suc zero) e =
          let first : (f + 1) % 4 ≡ 2 = omega arith in
          let second : (f + 1 + 1) % 4 ≡ 3 = omega arith in
          let third : (f + 1 + 1 + 1) % 4 ≡ 0 = omega arith in
          rw (e, first, second, third) (omega arith)
      go (suc (suc zero)) e =
          let first : (f + 1) % 4 ≡ 3 = omega arith in
          let second : (f + 1 + 1) % 4 ≡ 0 = omega arith in
          let third : (f + 1 + 1 + 1) % 4 ≡ 1 = omega arith in
          rw (e, first, second, third) (omega arith)
      go (suc (suc (suc zero))) e =
          let first : (f + 1) % 4 ≡ 0 = omega arith in
          let second : (f + 1 + 1) % 4 ≡ 1 = omega arith in
          let third : (f + 1 + 1 + 1) % 4 ≡ 2 = omega arith in
          rw (e, first, second, third) (omega arith)
      go (suc (suc (suc (suc k)))) e = absurd (omega arith)
