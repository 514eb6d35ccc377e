-- How long the text is at most.
use mathlib.Core.Path.{◌≡◌}
use mathlib.Core.Bool.{Bool, true, false, cond}
use mathlib.Core.List.{List, [], ◌∷◌, ◌++◌}
use Prim.Native.Nat.{ℕ, suc, ◌+◌, ◌/◌, ◌%◌, ◌^◌, ◌≤◌, ◌<◌}
use native.Mathlib.Omega.{arith}
use lib.Dec.{eqb}
use lib.ListN.{length, length-append}
use Rattle.glass.specs.declared.answer.Shown.{Shown}
use Rattle.glass.specs.declared.answer.Shown.TheVariants as shown
use Rattle.glass.specs.When.{Told}
use Rattle.text.specs.Text.{bytes}
use Rattle.print.specs.Chosen.{line}
use Rattle.print.specs.Printed.{decimal_of}
use Rattle.print.proofs.Digits.{decimal-bound}
use Rattle.origin.specs.declared.Origin.{Origin}
use Rattle.origin.specs.Origin.{line_of, shown_text, pixel_lines, cell_lines, byte_lines, origin_text}

line-length : (a b : List ℕ) → length ((a ++ 9 ∷ b) ++ (10 ∷ [])) ≡ length a + length b + 2
line-length a b = simp length-append (omega arith)

-- a number of at most k + 1 digits
number_bound : (name : List ℕ) (k n : ℕ) → n < 10 ^ suc k → length (line (name ∷ decimal_of n ∷ [])) ≤ length name + suc k + 2
number_bound name k n h = omega (arith, line-length name (decimal_of n), decimal-bound k n h)

-- `undriven`, or a level of two digits
shown-bound : (s : Shown) → Told s → length (shown_text s) ≤ 8
shown-bound (shown.Level g) h = omega (arith, length-append (bytes "level ") (decimal_of g), decimal-bound 1 g (omega arith))
shown-bound shown.Dark h = omega arith
shown-bound shown.Undriven h = omega arith

-- what the words of a machine hold, and what the glass tells
pub record Fits (o : Origin) : Type 0 where
  pub row : o.row < 2 ^ 64
  pub column : o.column < 2 ^ 64
  pub shows : Told o.shows
  pub ram : o.ram < 2 ^ 64
  pub place : o.place < 2 ^ 64
  pub byte : o.byte < 2 ^ 8
  pub value : o.value < 2 ^ 8
  pub event : o.event < 2 ^ 64

line-bound : (event : ℕ) → event < 2 ^ 64 → line_of event < 10 ^ 20
line-bound event h = go (eqb event 0)
  where
    go : (t : Bool) → cond t 0 (event + 1) < 10 ^ 20
    go true = omega arith
    go false = omega arith

three-lines : (a b c : List ℕ) → length (a ++ (b ++ (c ++ []))) ≡ length a + length b + length c
three-lines a b c = simp length-append (omega arith)

four-lines : (a b c d : List ℕ) → length (a ++ (b ++ (c ++ (d ++ [])))) ≡ length a + length b + length c + length d
four-lines a b c d = simp length-append (omega arith)

module _ (o : Origin) (fits : Fits o) where
  pixel-lines-bound : length (pixel_lines o) ≤ 68
  pixel-lines-bound =
      omega (
        arith,
        three-lines (line (bytes "row" ∷ decimal_of o.row ∷ [])) (line (bytes "column" ∷ decimal_of o.column ∷ []))
            (line (bytes "shows" ∷ shown_text o.shows ∷ [])),
        number_bound (bytes "row") 19 o.row (omega (arith, fits.row)),
        number_bound (bytes "column") 19 o.column (omega (arith, fits.column)),
        line-length (bytes "shows") (shown_text o.shows),
        shown-bound o.shows fits.shows,
      )

  cell-lines-bound : length (cell_lines o) ≤ 98
  cell-lines-bound =
      omega (
        arith,
        four-lines (line (bytes "ram row" ∷ decimal_of o.ram ∷ [])) (line (bytes "bank" ∷ decimal_of (o.place / 101) ∷ []))
            (line (bytes "cell column" ∷ decimal_of (o.place % 101) ∷ [])) (line (bytes "place" ∷ decimal_of o.place ∷ [])),
        number_bound (bytes "ram row") 19 o.ram (omega (arith, fits.ram)),
        number_bound (bytes "bank") 19 (o.place / 101) (omega (arith, fits.place)),
        number_bound (bytes "cell column") 2 (o.place % 101) (omega arith),
        number_bound (bytes "place") 19 o.place (omega (arith, fits.place)),
      )

  byte-lines-bound : length (byte_lines o) ≤ 72
  byte-lines-bound =
      omega (
        arith,
        four-lines (line (bytes "byte" ∷ decimal_of o.byte ∷ [])) (line (bytes "value" ∷ decimal_of o.value ∷ []))
            (line (bytes "event" ∷ decimal_of o.event ∷ [])) (line (bytes "line" ∷ decimal_of (line_of o.event) ∷ [])),
        number_bound (bytes "byte") 2 o.byte (omega (arith, fits.byte)),
        number_bound (bytes "value") 2 o.value (omega (arith, fits.value)),
        number_bound (bytes "event") 19 o.event (omega (arith, fits.event)),
        number_bound (bytes "line") 19 (line_of o.event) (line-bound o.event fits.event),
      )

  -- names, tabs and newlines, and what the numbers need
  pub origin-bound : length (origin_text o) ≤ 238
  unfolding origin_text
  origin-bound =
      omega (
        arith,
        length-append (pixel_lines o) (cell_lines o ++ byte_lines o),
        length-append (cell_lines o) (byte_lines o),
        pixel-lines-bound,
        cell-lines-bound,
        byte-lines-bound,
      )
