-- What an event acts on: the chip's record with the two lent memories, display bytes and writer numbers, and the event count beside them.
use Rattle.std.specs.Prelude.{List, ℕ}
use Rattle.registers.specs.declared.Chip.{Chip}

pub record State : Type 0 where
  pub chip : Chip
  pub memory : List ℕ
  pub writers : List ℕ
  pub count : ℕ

abbrev pub state : Chip → List ℕ → List ℕ → ℕ → State
state c m w n = record { chip = c; memory = m; writers = w; count = n }

-- 17 banks of 101 bytes
abbrev pub places : ℕ
places = 1717
