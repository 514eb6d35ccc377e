-- The colours of what a picture shows: no two of them are the same.
use mathlib.Core.Path.{◌≡◌, refl, sym, ap}
use Prim.Native.Nat.{ℕ, ◌≤◌}
use native.Mathlib.Omega.{arith}
use Rattle.std.specs.Prelude.{Result, Ok, Err}
use Rattle.glass.specs.declared.answer.Shown.{Shown}
use Rattle.glass.specs.declared.answer.Shown.TheVariants as shown
use Rattle.glass.specs.When.{Tells}
use Rattle.picture.specs.declared.Colour.{Colour}
use Rattle.picture.specs.Picture.{grey, colour_of}

grey-apart : (g h : ℕ) → g ≤ 64 → h ≤ 64 → grey g ≡ grey h → g ≡ h
grey-apart g h lg lh e = omega arith

no-grey-is-dark : (g : ℕ) → colour_of (Ok (shown.Level g)) ≡ colour_of (Ok shown.Dark) → ⊥
no-grey-is-dark g e =
    let red : grey g ≡ 0 = ap (λ (c : Colour). c.red) e in
    let blue : grey g ≡ 96 = ap (λ (c : Colour). c.blue) e in
    omega (arith, red, blue)

no-grey-is-undriven : (g : ℕ) → colour_of (Ok (shown.Level g)) ≡ colour_of (Ok shown.Undriven) → ⊥
no-grey-is-undriven g e =
    let red : grey g ≡ 96 = ap (λ (c : Colour). c.red) e in
    let blue : grey g ≡ 0 = ap (λ (c : Colour). c.blue) e in
    omega (arith, red, blue)

dark-is-not-undriven : colour_of (Ok shown.Dark) ≡ colour_of (Ok shown.Undriven) → ⊥
dark-is-not-undriven e = let red : ◌≡◌ {A = ℕ} 0 96 = ap (λ (c : Colour). c.red) e in omega (arith, red)

pub colours-apart : (s t : Result Shown ℕ) → Tells s → Tells t → colour_of s ≡ colour_of t → s ≡ t
colours-apart (Ok (shown.Level g)) (Ok (shown.Level h)) lg lh e = ap (λ (x : ℕ). Ok (shown.Level x)) (grey-apart g h lg lh (ap (λ (c : Colour). c.red) e))
colours-apart (Ok (shown.Level g)) (Ok shown.Dark) a b e = absurd (no-grey-is-dark g e)
colours-apart (Ok (shown.Level g)) (Ok shown.Undriven) a b e = absurd (no-grey-is-undriven g e)
colours-apart (Ok (shown.Level g)) (Err n) a b e = absurd b
colours-apart (Ok shown.Dark) (Ok (shown.Level h)) a b e = absurd (no-grey-is-dark h (sym e))
colours-apart (Ok shown.Dark) (Ok shown.Dark) a b e = refl
colours-apart (Ok shown.Dark) (Ok shown.Undriven) a b e = absurd (dark-is-not-undriven e)
colours-apart (Ok shown.Dark) (Err n) a b e = absurd b
colours-apart (Ok shown.Undriven) (Ok (shown.Level h)) a b e = absurd (no-grey-is-undriven h (sym e))
colours-apart (Ok shown.Undriven) (Ok shown.Dark) a b e = absurd (dark-is-not-undriven (sym e))
colours-apart (Ok shown.Undriven) (Ok shown.Undriven) a b e = refl
colours-apart (Ok shown.Undriven) (Err n) a b e = absurd b
colours-apart (Err n) t a b e = absurd a
