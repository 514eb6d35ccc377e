use native.Mathlib.Omega.{arith}
use Rattle.registers.specs.State.{state}
use Rattle.capture_lines.specs.declared.LineSoFar.TheVariants.{Number}
use mathlib.Core.Path.{◌∙◌}
use Rattle.capture.proofs.Laws.{ends-past-entry}
use Rattle.capture_trace.proofs.CodeWays.{end_known, no_event, none-tallied, none_told}
use Rattle.capture_trace.proofs.event.end_line.Goals as goal

pub returns-in_default : goal.returns-in_default
returns-in_default c =
    let given = c.args in
    let capture = given.course.capture in
    let before = state capture.chip given.memory.now given.writers.now capture.count in
    let none = no_event capture.line before c.in_default.not-Number in
    record {
      count_after = c.end_line.ensures ∙ ends-past-entry capture.line before c.requires;
      tally_value = none-tallied _ none;
      prints = none_told given.told _ (omega arith) none;
    }

pub returns-in-Number : goal.returns-in-Number
returns-in-Number c =
    let given = c.args in
    let capture = given.course.capture in
    let before = state capture.chip given.memory.now given.writers.now capture.count in
    let played = c.play.ensures in
    let came =
    end_known (Number c.in-Number.event) before given.told given.course.tally c.in-Number.is
    (played.count_after, (played.tally_value, played.prints)) in
    record { count_after = came.0; tally_value = came.1.0; prints = came.1.1 }
