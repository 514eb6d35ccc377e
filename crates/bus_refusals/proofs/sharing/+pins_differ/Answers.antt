use Rattle.std.proofs.Common.{rules, arith, refl, []}
use Rattle.std.proofs.lemmas.Iterator.{YieldsList-from_slice}
use Rattle.std.proofs.lemmas.Iterator.Search.{all_from_yields_List}
use Rattle.registers.specs.declared.Chip.{Chip}
use Rattle.bus.specs.Bus.{device, has_other_pins}
use Rattle.bus_refusals.specs.Four.{chip_at}
use Rattle.bus_refusals.proofs.CodeWays.{differ-told}
use Rattle.bus_refusals.proofs.sharing.+pins_differ.Goals as goal

pub returns-in-len1-up : goal.returns-in-len1-up
returns-in-len1-up t c =
    differ-told c.args.chips.now _ _ _ (omega arith) refl
    (all_from_yields_List (λ (k : Chip). has_other_pins (chip_at c.args.chips.now 0).pins (device k [] [])) c.all.new.self _ _ c.all.ensures.ran
    (YieldsList-from_slice _ c.iter.ensures.rest) (λ x b q k. search rules))
    c.pins_differ.ensures
