-- Levels: of a number held, of the four grey registers, and of a pixel that uses one.
use mathlib.Core.Path.{◌≡◌, refl, sym, ap, ◌∙◌}
use mathlib.Core.Bool.{Bool, true, false, cond}
use mathlib.Core.Logic.{◌⊎◌, inl, inr}
use Rattle.std.specs.Prelude.{Result, Ok, Err}
use Prim.Native.Nat.{ℕ, zero, suc, ◌+◌, ◌*◌, ◌/◌, ◌%◌, ◌-◌, ◌^◌, ◌≤◌, ◌<◌, zero-le}
use native.Mathlib.Omega.{arith}
use borrow.Author.Tests.{eq-eqb, ne_eqb, eqb-true, eqb-false}
use lib.Dec.{eqb}
use Rattle.registers.specs.declared.Registers.{Registers}
use Rattle.registers.specs.declared.Chip.{Chip}
use Rattle.registers.specs.Places.{GS0, GS1, GS2, GS3}
use Rattle.registers.specs.Record.{allowed}
use Rattle.registers.proofs.Within.{register-bound, allowed-registers}
use Rattle.glass.specs.declared.answer.Shown.{Shown}
use Rattle.glass.specs.declared.answer.Shown.TheVariants as shown
use Rattle.glass.specs.Answer.{shown_number}
use Rattle.glass.specs.Pixel.{Pixel, dark, undriven, uses, value_in, is_off, is_undriven, register_used, pixel_of, held_by, level_for}
use Rattle.glass.specs.Glass.{shown_by}

-- ---- of a number held

pub level-full : (n : ℕ) → n ≡ 63 → level_for n ≡ 64
level-full n e = simp (eq-eqb n 63 e)

pub level-kept : (n : ℕ) → (n ≡ 63 → ⊥) → level_for n ≡ n
level-kept n h = simp (ne_eqb n 63 h)

pub level-kinds : (n : ℕ) → n ≤ 63 → (level_for n < 63) ⊎ (level_for n ≡ 64)
level-kinds n h = go (eqb n 63) refl
  where
    go : (t : Bool) → eqb n 63 ≡ t → (cond t 64 n < 63) ⊎ (cond t 64 n ≡ 64)
    go true e = inr refl
    go false e = let other = eqb-false n 63 e in inl (omega (arith, other))

-- no two numbers have one level
pub level-apart : (n k : ℕ) → n ≤ 63 → k ≤ 63 → level_for n ≡ level_for k → n ≡ k
level-apart n k hn hk = go (eqb n 63) (eqb k 63) refl refl
  where
    go : (s t : Bool) → eqb n 63 ≡ s → eqb k 63 ≡ t → cond s 64 n ≡ cond t 64 k → n ≡ k
    go true true es et e = eqb-true n 63 es ∙ sym (eqb-true k 63 et)
    go true false es et e = absurd (omega (arith, e))
    go false true es et e = absurd (omega (arith, e))
    go false false es et e = e

-- ---- of the grey registers

pub held-bound : (c : Chip) → allowed c ≡ true → (g : ℕ) → held_by c.registers g ≤ 63
held-bound c h zero = register-bound c.registers (allowed-registers c h) GS0
held-bound c h (suc zero) = register-bound c.registers (allowed-registers c h) GS1
held-bound c h (suc (suc zero)) = register-bound c.registers (allowed-registers c h) GS2
held-bound c h (suc (suc (suc zero))) = register-bound c.registers (allowed-registers c h) GS3
held-bound c h (suc (suc (suc (suc g)))) = zero-le

-- ---- of a pixel

-- the pixel is lit by a register of level g
pub record UsesLevel (level : ℕ → ℕ) (p : Pixel) (g : ℕ) : Type 0 where
  pub register : ℕ
  pub used : p ≡ uses register
  pub shows : level register ≡ g

pub uses-level : (level : ℕ → ℕ) (p : Pixel) (g : ℕ) → shown_by level p ≡ shown.Level g → UsesLevel level p g
uses-level level dark g e = let z : ◌≡◌ {A = ℕ} 0 1 = cc in absurd (omega arith)
uses-level level undriven g e = let z : ◌≡◌ {A = ℕ} 0 1 = cc in absurd (omega arith)
uses-level level (uses f) g e = record { register = f; used = refl; shows = cc }

pub one-level : (g h : ℕ) → ◌≡◌ {A = Result Shown ℕ} (Ok (shown.Level g)) (Ok (shown.Level h)) → g ≡ h
one-level g h e = cc

two-bits : (m n : ℕ) → 2 * (m % 2) + n % 2 ≤ 3
two-bits m n = omega arith

register-used-bound : (d e v : ℕ) → v ≤ 3 → register_used d e v ≤ 3
register-used-bound d e v h = go (eqb d 0) (eqb e 0)
  where
    go : (s t : Bool) → cond s (cond t 0 3) (cond t v (3 - v)) ≤ 3
    go true true = omega arith
    go true false = omega arith
    go false true = h
    go false false = omega arith

-- the register that a pixel uses is one of the four
pub uses-one-of-four : (r : Registers) (ram byte g : ℕ) → pixel_of r ram byte ≡ uses g → g ≤ 3
uses-one-of-four r ram byte g = go (is_off r) (is_undriven r.ps r.dp ram)
  where
    v : ℕ
    v = value_in byte (ram % 4)

    go : (s t : Bool) → cond s dark (cond t undriven (uses (register_used r.d r.e v))) ≡ uses g → g ≤ 3
    go true t e = let z : ◌≡◌ {A = ℕ} 0 1 = cc in absurd (omega arith)
    go false true e = let z : ◌≡◌ {A = ℕ} 0 1 = cc in absurd (omega arith)
    go false false e =
        let same : register_used r.d r.e v ≡ g = cc in
        rw (sym same) (register-used-bound r.d r.e v (two-bits (byte / 2 ^ (2 * (ram % 4) + 1)) (byte / 2 ^ (2 * (ram % 4)))))

-- ---- as a number

-- no other answer has the number of a level: refusals are at most 5
pub number-of-level : (s : Result Shown ℕ) (g : ℕ) → ((k : ℕ) → s ≡ Err k → k ≤ 5) → shown_number s ≡ 512 + g → s ≡ Ok (shown.Level g)
number-of-level (Err n) g bound e = absurd (omega (arith, bound n refl, e))
number-of-level (Ok shown.Dark) g bound e = absurd (omega (arith, e))
number-of-level (Ok shown.Undriven) g bound e = absurd (omega (arith, e))
number-of-level (Ok (shown.Level h)) g bound e = ap (λ (x : ℕ). Ok (shown.Level x)) (omega (arith, e))
