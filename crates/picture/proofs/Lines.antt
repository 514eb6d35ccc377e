-- The lines of the picture, one a pixel, and how long the text is at most.
use mathlib.Core.Path.{◌≡◌, refl}
use mathlib.Core.List.{List, [], ◌∷◌, ◌++◌}
use Prim.Native.Nat.{ℕ, ◌+◌, ◌*◌, ◌/◌, ◌%◌, ◌≤◌, ◌<◌}
use native.Mathlib.Omega.{arith}
use lib.ListN.{length, length-append}
use Rattle.registers.specs.declared.Chip.{Chip}
use Rattle.std.specs.Prelude.{Result, Ok, Err}
use Rattle.glass.specs.declared.answer.Shown.{Shown}
use Rattle.glass.specs.declared.answer.Shown.TheVariants as shown
use Rattle.glass.specs.Glass.{glass_of}
use Rattle.text.specs.Text.{count_of}
use Rattle.text.proofs.Finding.{count-append}
use Rattle.print.specs.Printed.{decimal_of, parts_from}
use Rattle.print.proofs.Digits.{decimal-bound, number-free}
use Rattle.print.proofs.Writing.{parts-bound}
use Rattle.picture.specs.declared.Colour.{Colour}
use Rattle.picture.specs.Picture.{grey, colour_of, pixel_text, header, pixel_at, pixel_count, pixmap_of}

-- ---- a line for each pixel, in row order

line-of : (a b c : List ℕ) → count_of 10 a ≡ 0 → count_of 10 b ≡ 0 → count_of 10 c ≡ 0 → count_of 10 ((a ++ 32 ∷ (b ++ 32 ∷ c)) ++ (10 ∷ [])) ≡ 1
line-of a b c ha hb hc =
    omega (arith, count-append 10 (a ++ 32 ∷ (b ++ 32 ∷ c)) (10 ∷ []), count-append 10 a (32 ∷ (b ++ 32 ∷ c)), count-append 10 b (32 ∷ c))

colour-line : (c : Colour) → count_of 10 (pixel_text c) ≡ 1
colour-line c =
    line-of (decimal_of c.red) (decimal_of c.green) (decimal_of c.blue)
    (number-free 10 c.red (omega arith)) (number-free 10 c.green (omega arith)) (number-free 10 c.blue (omega arith))

pub one_line : (c : Chip) (memory : List ℕ) (k : ℕ) → count_of 10 (pixel_at c memory k) ≡ 1
one_line c memory k = colour-line (colour_of (glass_of c memory (k / 101) (k % 101)))

pub pixel-of :
    (c : Chip) (memory : List ℕ) (row column : ℕ) → column ≤ 100
    → pixel_at c memory (101 * row + column) ≡ pixel_text (colour_of (glass_of c memory row column))
pixel-of c memory row column h =
    let row_of : (101 * row + column) / 101 ≡ row = omega arith in
    let column-of : (101 * row + column) % 101 ≡ column = omega arith in
    rw (row_of, column-of)

-- ---- how long

-- the three parts are bytes
record Bytes (c : Colour) : Type 0 where
  red : c.red < 256
  green : c.green < 256
  blue : c.blue < 256

grey-bound : (g : ℕ) → grey g < 256
grey-bound g = omega arith

colour-bytes : (s : Result Shown ℕ) → Bytes (colour_of s)
colour-bytes (Ok (shown.Level g)) = record { red = grey-bound g; green = grey-bound g; blue = grey-bound g }
colour-bytes (Ok shown.Dark) = record { red = omega arith; green = omega arith; blue = omega arith }
colour-bytes (Ok shown.Undriven) = record { red = omega arith; green = omega arith; blue = omega arith }
colour-bytes (Err n) = record { red = omega arith; green = omega arith; blue = omega arith }

pixel-length : (a b c : List ℕ) → length ((a ++ 32 ∷ (b ++ 32 ∷ c)) ++ (10 ∷ [])) ≡ length a + length b + length c + 3
pixel-length a b c = simp length-append (omega arith)

pixel-bound : (c : Colour) → Bytes c → length (pixel_text c) ≤ 12
pixel-bound c h =
    omega (
      arith,
      pixel-length (decimal_of c.red) (decimal_of c.green) (decimal_of c.blue),
      decimal-bound 2 c.red (omega (arith, h.red)),
      decimal-bound 2 c.green (omega (arith, h.green)),
      decimal-bound 2 c.blue (omega (arith, h.blue)),
    )

-- the header's 14 bytes, and for each pixel three numbers of three digits
pub pixmap-bound : (c : Chip) (memory : List ℕ) → length (pixmap_of c memory) ≤ 81218
unfolding pixmap_of
pixmap-bound c memory = go pixel_count refl
  where
    go : (n : ℕ) → n ≡ 6767 → length (header ++ parts_from (pixel_at c memory) 0 n) ≤ 81218
    go n e =
        omega (
          arith,
          length-append header (parts_from (pixel_at c memory) 0 n),
          parts-bound (pixel_at c memory) 12 n
              (λ k h. pixel-bound (colour_of (glass_of c memory (k / 101) (k % 101))) (colour-bytes (glass_of c memory (k / 101) (k % 101)))) n 0 (omega arith),
        )
