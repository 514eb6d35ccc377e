-- What is shown, read back from its pulses and from its four bytes.
use mathlib.Core.Path.{◌≡◌, refl, sym, ap, subst, ◌∙◌}
use mathlib.Core.List.{[], ◌∷◌}
use Prim.Native.Nat.{ℕ, zero, suc, ◌+◌, ◌%◌, ◌≤◌, ◌<◌}
use native.Mathlib.Omega.{arith}
use lib.ListN.{get_or}
use Rattle.std.specs.Prelude.{Result, Ok, Err}
use Rattle.glass.specs.declared.answer.Shown.{Shown}
use Rattle.glass.specs.declared.answer.Shown.TheVariants as shown
use Rattle.glass.specs.When.{Tells}
use Rattle.pulses.specs.declared.answer.Pulses.{Pulses}
use Rattle.pulses.specs.declared.answer.Pulses.TheVariants.{Dark, Undriven, Lit}
use Rattle.pulses.specs.Pulse.{pulse, pulses_for}
use Rattle.pulses.specs.Row.{bytes_for}
use Rattle.pulses.specs.When.{IsLit}
use Rattle.pulses.specs.Frames.{pulse_in}
use Rattle.pulses.proofs.Rounds.{round, pulse-bound}

-- ---- from the pulses

-- the level is the sum
abbrev back : Result Pulses ℕ → Result Shown ℕ
back (Ok (Lit p₀ p₁ p₂ p₃)) = Ok (shown.Level (p₀ + p₁ + p₂ + p₃))
back (Ok Dark) = Ok shown.Dark
back (Ok Undriven) = Ok shown.Undriven
back (Err n) = Err n

back-of : (s : Result Shown ℕ) → back (pulses_for s) ≡ s
back-of (Ok (shown.Level g)) = ap (λ (x : ℕ). Ok (shown.Level x)) (round g)
back-of (Ok shown.Dark) = refl
back-of (Ok shown.Undriven) = refl
back-of (Err n) = refl

pub read_back : (s : Result Shown ℕ) (p : Result Pulses ℕ) → pulses_for s ≡ p → s ≡ back p
read_back s p e = sym (back-of s) ∙ ap back e

-- ---- frame by frame

kth-of-four : (p : ℕ → ℕ) (k : ℕ) → k < 4 → get_or (p 0 ∷ p 1 ∷ p 2 ∷ p 3 ∷ []) k 0 ≡ p k
kth-of-four p zero h = refl
kth-of-four p (suc zero) h = refl
kth-of-four p (suc (suc zero)) h = refl
kth-of-four p (suc (suc (suc zero))) h = refl
kth-of-four p (suc (suc (suc (suc k)))) h = absurd (omega arith)

pub frame-of : (g f : ℕ) → pulse_in (pulses_for (Ok (shown.Level g))) f ≡ pulse g (f % 4)
frame-of g f = kth-of-four (pulse g) (f % 4) (omega arith)

-- ---- from a byte of the row

pub byte-of : (g k : ℕ) → k < 4 → get_or (bytes_for (pulses_for (Ok (shown.Level g)))) k 0 ≡ pulse g k
byte-of g k h = kth-of-four (pulse g) k h

same-of-four : (n k : ℕ) → k < 4 → get_or (n ∷ n ∷ n ∷ n ∷ []) k 0 ≡ n
same-of-four n k h = kth-of-four (λ i. n) k h

module _ (k : ℕ) (in_four : k < 4) where
  level-byte : (g : ℕ) → g ≤ 64 → get_or (bytes_for (pulses_for (Ok (shown.Level g)))) k 0 ≤ 16
  level-byte g h = omega (arith, byte-of g k in_four, pulse-bound g k h)

  pub says-dark : (s : Result Shown ℕ) → Tells s → get_or (bytes_for (pulses_for s)) k 0 ≡ 254 → s ≡ Ok shown.Dark
  says-dark (Ok (shown.Level g)) t e = absurd (omega (arith, level-byte g t, e))
  says-dark (Ok shown.Dark) t e = refl
  says-dark (Ok shown.Undriven) t e = absurd (omega (arith, same-of-four 255 k in_four, e))
  says-dark (Err n) t e = absurd t

  pub says-undriven : (s : Result Shown ℕ) → Tells s → get_or (bytes_for (pulses_for s)) k 0 ≡ 255 → s ≡ Ok shown.Undriven
  says-undriven (Ok (shown.Level g)) t e = absurd (omega (arith, level-byte g t, e))
  says-undriven (Ok shown.Dark) t e = absurd (omega (arith, same-of-four 254 k in_four, e))
  says-undriven (Ok shown.Undriven) t e = refl
  says-undriven (Err n) t e = absurd t

  pub dark-byte : (s : Result Shown ℕ) → s ≡ Ok shown.Dark → get_or (bytes_for (pulses_for s)) k 0 ≡ 254
  dark-byte s e = rw e (same-of-four 254 k in_four)

  pub undriven-byte : (s : Result Shown ℕ) → s ≡ Ok shown.Undriven → get_or (bytes_for (pulses_for s)) k 0 ≡ 255
  undriven-byte s e = rw e (same-of-four 255 k in_four)

  pub says-lit : (s : Result Shown ℕ) → Tells s → get_or (bytes_for (pulses_for s)) k 0 ≤ 16 → IsLit s
  says-lit (Ok (shown.Level g)) t h = record { level = g; shows = refl }
  says-lit (Ok shown.Dark) t h = absurd (omega (arith, same-of-four 254 k in_four, h))
  says-lit (Ok shown.Undriven) t h = absurd (omega (arith, same-of-four 255 k in_four, h))
  says-lit (Err n) t h = absurd t

  pub lit-byte : (s : Result Shown ℕ) → Tells s → IsLit s → get_or (bytes_for (pulses_for s)) k 0 ≤ 16
  lit-byte s t lit =
      let there : lit.level ≤ 64 = subst Tells lit.shows t in
      subst (λ (x : Result Shown ℕ). get_or (bytes_for (pulses_for x)) k 0 ≤ 16) (sym lit.shows) (level-byte lit.level there)
