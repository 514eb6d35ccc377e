use mathlib.Core.Path.{ap, ◌∙◌}
use Rattle.registers.specs.declared.Registers.{Registers}
use Rattle.phases.specs.Changes.{pulsed}
use Rattle.phases.specs.Interface.{whole}
use Rattle.phases.proofs.other.pulsed.Goals as goal

pub returns : goal.returns
returns c =
    let chip = c.args.chip in
    c.whole.ensures
    ∙ ap (λ (r : Registers). whole r c.pulsed-interface.result chip.pixels) c.reset.ensures
    ∙ c.pulsed-interface.ensures chip.registers chip.pixels
    ∙ ap pulsed c.of.ensures
