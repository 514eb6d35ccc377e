use Rattle.std.proofs.Common.{rules, ◌∙◌}
use Rattle.std.proofs.lemmas.Iterator.{YieldsList-from_slice}
use Rattle.std.proofs.lemmas.Iterator.Search.{all_from_yields_List}
use Rattle.registers.specs.declared.Chip.{Chip}
use Rattle.bus.specs.Bus.{is_idle, is_idle_phase, awaits_address, is_awaiting_phase}
use Rattle.bus_refusals.proofs.CodeWays.{every-told}
use Rattle.bus_refusals.proofs.sharing.phases_agree.Goals as goal

pub returns : goal.returns
returns c =
    let idle =
    all_from_yields_List (λ (k : Chip). is_idle_phase k.phase) c.all-all_idle.new.self _ _ c.all-all_idle.ensures.ran
    (YieldsList-from_slice c.args.chips.now cc) (λ x b q k. search rules) in
    let awaiting =
    all_from_yields_List (λ (k : Chip). is_awaiting_phase k.phase) c.all-all_awaiting.new.self _ _ c.all-all_awaiting.ensures.ran
    (YieldsList-from_slice c.args.chips.now cc) (λ x b q k. search rules) in
    simp (idle ∙ every-told is_idle c.args.chips.now, awaiting ∙ every-told awaits_address c.args.chips.now, c.one_past.ensures)
