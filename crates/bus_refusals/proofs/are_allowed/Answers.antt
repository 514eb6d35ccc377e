use Rattle.std.proofs.Common.{rules, ◌∙◌}
use Rattle.std.proofs.lemmas.Iterator.{YieldsList-from_slice}
use Rattle.std.proofs.lemmas.Iterator.Search.{all_from_yields_List}
use Rattle.registers.specs.Record.{allowed}
use Rattle.bus.specs.Refusals.{is_allowed}
use Rattle.bus_refusals.proofs.CodeWays.{every-told}
use Rattle.bus_refusals.proofs.are_allowed.Goals as goal

pub returns : goal.returns
returns c =
    all_from_yields_List allowed c.all.new.self _ _ c.all.ensures.ran (YieldsList-from_slice c.args.chips.now cc) (λ x b q k. search rules)
    ∙ every-told is_allowed c.args.chips.now
