use mathlib.Core.Path.{ap, ◌∙◌}
use Rattle.phases.specs.Changes.{sensed}
use Rattle.phases.proofs.other.sensed.Goals as goal

pub returns : goal.returns
returns c =
    let chip = c.args.chip in
    c.whole.ensures ∙ c.sensed-interface.ensures chip.pixels ∙ ap (sensed c.args.value) c.of.ensures
