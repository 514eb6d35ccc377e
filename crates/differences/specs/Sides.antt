-- What the code has of a chip that is compared.
use Rattle.std.specs.Prelude.{◌≡◌, length}
use Rattle.registers.specs.State.{places}
use Rattle.differences.specs.declared.Side.{Side}
use Rattle.differences.specs.Differences.{Compared, compared}

abbrev pub side_of : Side → Compared
side_of s = compared s.registers s.memory.now s.writers.now

-- its memories have a place for each cell
abbrev pub IsWhole : Side → Type 0
IsWhole s = (length s.memory.now ≡ places) × (length s.writers.now ≡ places)
