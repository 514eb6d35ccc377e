use native.Mathlib.Omega.{arith}
use mathlib.Core.Path.{ap, ◌∙◌}
use Rattle.engine.specs.Answer.{told}
use Rattle.chip.proofs.Laws.{step-past-entry}
use Rattle.capture_trace.proofs.CodeWays.{when-refused, when-accepted, none-tallied, none_told, one-tallied, one_told}
use Rattle.capture_trace.proofs.event.play.Goals as goal

pub returns-in_default : goal.returns-in_default
returns-in_default c =
    let step = c.step-stepped.ensures ∙ step-past-entry _ _ c.requires in
    let came = when-refused _ _ _ step _ (ap told c.in_default.is) in
    record { count_after = came.0; tally_value = none-tallied c.args.course.tally came.1; prints = none_told c.args.told _ (omega arith) came.1 }

pub returns : goal.returns
returns c =
    let args = c.args in
    let step = c.step-stepped.ensures ∙ step-past-entry _ _ c.requires in
    let answered = ap told c.in-Ok.is in
    let came = when-accepted _ _ _ step _ answered in
    record {
      count_after = came.0;
      tally_value = one-tallied _ _ _ step came.1 args.course.tally _ c.with.ensures;
      prints = one_told _ _ _ step came.1 args.told c.tell.ensures;
    }
