use mathlib.Core.Path.{sym, ap, ◌∙◌}
use native.Mathlib.Omega.{arith}
use Rattle.refusals.specs.Numbers.{refused_by}
use Rattle.refusals.proofs.Positive.{positive}
use Rattle.bus_step.proofs.CodeWays.{step-refused, step-accepted}
use Rattle.bus_step.proofs.step.Goals as goal

pub returns-in-Err : goal.returns-in-Err
returns-in-Err c =
    step-refused _ _ _ _ _ _ _ _ (ap refused_by (sym c.in-Err.is) ∙ c.of_step.ensures.value) (λ z. omega (arith, positive c.in-Err.refusal, z))

pub returns : goal.returns
returns c =
    step-accepted _ _ _ _ _ _ _ _ c.of_step.ensures.value _ _ (ap refused_by c.in_default.is) c.deliver-delivered.ensures.writers3_after c.deliver-delivered.ensures.answer_value
