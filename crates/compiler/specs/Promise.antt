-- Demand 3 of what `compile` wrote (document 01, "Playing").
use Rattle.std.specs.Prelude.{List, ◌≡◌, ℕ}
use Rattle.registers.specs.declared.Chip.{Chip}
use Rattle.drawing.specs.Demand3.{Draws}
use Rattle.compiler.specs.Answer.{Compiled}
use Rattle.compiler.specs.Answer.{Done}

-- where the answer is a length, the output's first n events draw the text
abbrev pub Promise : Compiled → Chip → List ℕ → List ℕ → Type 0
Promise r c text out = (n k : ℕ) → r ≡ Done n k → Draws c text n out
