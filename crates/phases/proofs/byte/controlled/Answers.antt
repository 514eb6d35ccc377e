use mathlib.Core.Path.{ap, ◌∙◌}
use Rattle.phases.specs.Changes.{controlled}
use Rattle.phases.proofs.byte.controlled.Goals as goal

pub returns : goal.returns
returns c =
    let chip = c.args.chip in
    c.whole.ensures ∙ c.controlled-interface.ensures chip.registers chip.pixels ∙ ap (controlled c.args.byte) c.of.ensures
