use Rattle.std.proofs.Common.{rules, ◌≡◌, ◌∙◌, ◌||◌}
use Rattle.std.specs.List.{count_by}
use Rattle.std.proofs.lemmas.Iterator.{YieldsList-from_slice}
use Rattle.std.proofs.lemmas.Iterator.Search.{all_from_yields_List}
use Rattle.registers.specs.declared.Chip.{Chip}
use Rattle.bus.specs.Bus.{Device, is_ignoring, is_past, is_past_phase}
use Rattle.bus_refusals.specs.Four.{is_in_message}
use Rattle.bus_refusals.proofs.CodeWays.{every-told, how-many-told}
use Rattle.bus_refusals.proofs.sharing.one_past.Goals as goal

pub returns : goal.returns
returns c =
    let message =
    all_from_yields_List (λ (k : Chip). is_in_message k.phase) c.all-all_in_message.new.self _ _ c.all-all_in_message.ensures.ran
    (YieldsList-from_slice c.args.chips.now cc) (λ x b q k. search rules) in
    let past : c.count-past.result ≡ count_by (λ (k : Chip). is_past_phase k.phase) c.args.chips.now = search rules in
    simp (message ∙ every-told (λ (d : Device). is_ignoring d || is_past d) c.args.chips.now, past ∙ how-many-told is_past c.args.chips.now)
