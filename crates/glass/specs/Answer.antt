-- What is shown, and where it stands, as numbers: a refusal's is that of document 01's table, the others are the host's.
use Rattle.std.specs.Prelude.{Result, Ok, Err, ℕ, ◌+◌}
use Rattle.glass.specs.declared.answer.Shown.{Shown}
use Rattle.glass.specs.declared.answer.Shown.TheVariants as shown

abbrev pub shown_number : Result Shown ℕ → ℕ
shown_number (Err n) = n
shown_number (Ok shown.Dark) = 256
shown_number (Ok shown.Undriven) = 257
shown_number (Ok (shown.Level g)) = 512 + g

abbrev pub cell_number : Result ℕ ℕ → ℕ
cell_number (Err n) = n
cell_number (Ok p) = 512 + p
