-- What wrong definitions of the picture would make false.
use mathlib.Core.List.{List}
use mathlib.Core.Path.{◌≡◌, sym, ap}
use Prim.Native.Nat.{ℕ, ◌*◌, ◌/◌, ◌-◌}
use native.Mathlib.Omega.{arith}
use lib.ListN.{get_or}
use Rattle.registers.specs.declared.Chip.{Chip}
use Rattle.glass.specs.Glass.{glass_of}
use Rattle.text.specs.Text.{bytes}
use Rattle.picture.specs.Picture.{grey, colour_of, pixel_text, header, pixel_at}

-- the height before the width
pub not-height-first : header ≡ bytes "P3\n67 101\n255\n" → ⊥
not-height-first e = let first-digit : ◌≡◌ {A = ℕ} 49 54 = ap (λ (l : List ℕ). get_or l 3 0) e in omega arith

-- greys that begin below white
pub not-251 : grey 0 ≡ 251 → ⊥
not-251 e = omega (arith, e)

-- level 64 as light as level 63 would be
pub not-3 : grey 64 ≡ 3 → ⊥
not-3 e = omega (arith, e)

-- greys by 63 steps
pub not-by-63 : grey 62 ≡ 255 * (63 - 62) / 63 → ⊥
not-by-63 e = omega (arith, e)

-- rows from the bottom, or columns from the right: where two corners differ, the first pixel is that of row 0 and column 0
pub not-from-elsewhere :
    (c : Chip) (memory : List ℕ) (row column : ℕ)
    → (pixel_text (colour_of (glass_of c memory row column)) ≡ pixel_text (colour_of (glass_of c memory 0 0)) → ⊥)
    → pixel_at c memory 0 ≡ pixel_text (colour_of (glass_of c memory row column)) → ⊥
not-from-elsewhere c memory row column differ e = differ (sym e)
