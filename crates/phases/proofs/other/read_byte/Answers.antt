use mathlib.Core.Path.{ap, ◌∙◌}
use Rattle.phases.specs.Changes.{read_byte}
use Rattle.phases.proofs.other.read_byte.Goals as goal

pub returns : goal.returns
returns c = c.read_byte.ensures c.args.chip.registers c.args.chip.pixels ∙ ap read_byte c.of.ensures
