use Rattle.std.proofs.Common.{◌∙◌, refl, ap, ℕ}
use Rattle.registers.specs.Refusals.{◌then◌}
use Rattle.bus.specs.Refusals.{sent_refusal, pixels_refusal_for}
use Rattle.bus_refusals.proofs.CodeWays.{records-told, refusal-told}
use Rattle.bus_refusals.proofs.of_step.Goals as goal

pub returns-clause-value : goal.returns-clause-value
returns-clause-value c =
    refusal-told _ _ _ _ _ _ _ _ _ _ _ _ _ c.is_long.ensures c.is_long-2.ensures c.is_long-3.ensures c.is_long-4.ensures c.all_fit-fit.ensures
    (c.in_order.ensures.value
    ∙ ap (λ (n : ℕ). n then sent_refusal c.args.event c.args.pins c.args.count then pixels_refusal_for c.all_fit-fit.result)
    (records-told _ _ c.args.chips c.args.memory0.now c.args.writers0.now c.args.memory1.now c.args.writers1.now
    c.args.memory2.now c.args.writers2.now c.args.memory3.now c.args.writers3.now refl))
