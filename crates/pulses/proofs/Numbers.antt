-- What is shown, read back from the number of its pulses.
use mathlib.Core.Path.{◌≡◌, refl}
use Prim.Native.Nat.{ℕ, zero, suc, ◌*◌, ◌/◌, ◌%◌, ◌^◌, ◌≤◌, ◌<◌}
use native.Mathlib.Omega.{arith}
use Rattle.std.specs.Prelude.{Result, Ok, Err}
use Rattle.glass.specs.declared.answer.Shown.{Shown}
use Rattle.glass.specs.declared.answer.Shown.TheVariants as shown
use Rattle.pulses.specs.Pulse.{pulse, pulses_for}
use Rattle.pulses.specs.Answer.{pulses_number}
use Rattle.pulses.specs.When.{IsLit}
use Rattle.pulses.proofs.Rounds.{pulse-bound}

-- refusals are at most 5
abbrev To5 : Result Shown ℕ → Type 0
To5 s = (k : ℕ) → s ≡ Err k → k ≤ 5

pub dark-number : (s : Result Shown ℕ) → To5 s → pulses_number (pulses_for s) ≡ 256 → s ≡ Ok shown.Dark
dark-number (Ok (shown.Level g)) bound e = absurd (omega (arith, e))
dark-number (Ok shown.Dark) bound e = refl
dark-number (Ok shown.Undriven) bound e = absurd (omega (arith, e))
dark-number (Err n) bound e = absurd (omega (arith, bound n refl, e))

pub undriven-number : (s : Result Shown ℕ) → To5 s → pulses_number (pulses_for s) ≡ 257 → s ≡ Ok shown.Undriven
undriven-number (Ok (shown.Level g)) bound e = absurd (omega (arith, e))
undriven-number (Ok shown.Dark) bound e = absurd (omega (arith, e))
undriven-number (Ok shown.Undriven) bound e = refl
undriven-number (Err n) bound e = absurd (omega (arith, bound n refl, e))

pub lit-number : (s : Result Shown ℕ) → To5 s → pulses_number (pulses_for s) / 2 ^ 32 ≡ 1 → IsLit s
lit-number (Ok (shown.Level g)) bound e = record { level = g; shows = refl }
lit-number (Ok shown.Dark) bound e = absurd (omega (arith, e))
lit-number (Ok shown.Undriven) bound e = absurd (omega (arith, e))
lit-number (Err n) bound e = absurd (omega (arith, bound n refl, e))

pub number-of-lit : (g : ℕ) → g ≤ 64 → pulses_number (pulses_for (Ok (shown.Level g))) / 2 ^ 32 ≡ 1
number-of-lit g h = omega (arith, pulse-bound g 0 h, pulse-bound g 1 h, pulse-bound g 2 h, pulse-bound g 3 h)

-- byte k of the number, from the lowest up
pub byte-of-number : (g k : ℕ) → g ≤ 64 → k < 4 → pulses_number (pulses_for (Ok (shown.Level g))) / 2 ^ (8 * k) % 2 ^ 8 ≡ pulse g k
byte-of-number g zero h l = omega (arith, pulse-bound g 0 h)
byte-of-number g (suc zero) h l = omega (arith, pulse-bound g 0 h, pulse-bound g 1 h)
byte-of-number g (suc (suc zero)) h l = omega (arith, pulse-bound g 0 h, pulse-bound g 1 h, pulse-bound g 2 h)
byte-of-number g (suc (suc (suc zero))) h l = omega (arith, pulse-bound g 0 h, pulse-bound g 1 h, pulse-bound g 2 h, pulse-bound g 3 h)
byte-of-number g (suc (suc (suc (suc k)))) h l = absurd (omega arith)
