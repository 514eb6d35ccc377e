-- The bytes of a row: four for each pixel, and what each of them is.
use mathlib.Core.Path.{◌≡◌, refl, ap, ◌∙◌}
use mathlib.Core.List.{List}
use Prim.Native.Nat.{ℕ, ◌+◌, ◌*◌, ◌≤◌, ◌<◌}
use native.Mathlib.Omega.{arith}
use lib.ListN.{length, get_or}
use Rattle.registers.specs.declared.Chip.{Chip}
use Rattle.print.proofs.Writing.{parts-length, parts_at}
use Rattle.std.specs.Prelude.{Result, Ok, Err}
use Rattle.pulses.specs.declared.answer.Pulses.{Pulses}
use Rattle.pulses.specs.declared.answer.Pulses.TheVariants.{Dark, Undriven, Lit}
use Rattle.pulses.specs.Pulse.{pulses_of}
use Rattle.pulses.specs.Row.{bytes_for, pixel_bytes, columns, row_length, row_bytes}

four_bytes : (p : Result Pulses ℕ) → length (bytes_for p) ≡ 4
four_bytes (Ok (Lit a b c d)) = refl
four_bytes (Ok Dark) = refl
four_bytes (Ok Undriven) = refl
four_bytes (Err n) = refl

module _ (c : Chip) (memory : List ℕ) (row : ℕ) where
  each-four : (column : ℕ) → length (pixel_bytes c memory row column) ≡ 4
  each-four column = four_bytes (pulses_of c memory row column)

  pub row-long : length (row_bytes c memory row) ≡ row_length
  unfolding row_bytes
  row-long = parts-length (pixel_bytes c memory row) 4 each-four columns 0

  pub byte_at : (column k : ℕ) → column ≤ 100 → k < 4 → get_or (row_bytes c memory row) (4 * column + k) 0 ≡ get_or (pixel_bytes c memory row column) k 0
  unfolding row_bytes
  byte_at column k h l =
      let same : 4 * column + k ≡ column * 4 + k = omega arith in
      let from-0 : 0 + column ≡ column = omega arith in
      ap (λ (x : ℕ). get_or (row_bytes c memory row) x 0) same
      ∙ parts_at (pixel_bytes c memory row) 4 each-four columns 0 column k (omega arith) l
      ∙ ap (λ (x : ℕ). get_or (pixel_bytes c memory row x) k 0) from-0
