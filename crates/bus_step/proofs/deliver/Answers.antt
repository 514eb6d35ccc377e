use Rattle.bus_step.proofs.CodeWays.{four-after, four-answer}
use Rattle.bus_step.proofs.deliver.Goals as goal

pub returns : goal.returns
returns c =
    let a = c.hear-heard0.ensures in
    let b = c.hear-heard1.ensures in
    let d = c.hear-heard2.ensures in
    let e = c.hear-heard3.ensures in
    record { writers3_after = four-after _ _ _ _ _ _ _ _ _ _ _ a b d e; answer_value = four-answer _ _ _ _ _ _ _ _ _ _ _ a b d e _ c.of_four.ensures }
