use Rattle.registers.specs.Record.{allowed}
use Rattle.registers.proofs.Chip.allowed.Goals as goal

pub returns : goal.returns
unfolding allowed
returns c = simp (c.allowed-2.ensures, c.allowed.ensures)
