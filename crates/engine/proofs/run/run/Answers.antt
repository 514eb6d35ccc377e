use Rattle.registers.specs.State.{state}
use Rattle.refusals.specs.Numbers.{refused_by}
use Rattle.engine.specs.Step.{entry_refusal}
use Rattle.engine.proofs.CodeWays.{run-stops, run-passes}
use Rattle.engine.proofs.Refusals.{number-refuses}
use mathlib.Core.Path.{sym, ap, ◌∙◌}
use Rattle.engine.proofs.run.run.Goals as goal

pub returns-in-Err : goal.returns-in-Err
unfolding entry_refusal
returns-in-Err c =
    let start = state c.args.chip c.args.memory.now c.args.writers.now c.args.count in
    let stops = run-stops c.args.events.now start _ (sym (ap refused_by c.in-Err.is) ∙ c.at_entry.ensures) (number-refuses _) in
    record { count_after = stops.0; unknown_value = stops.1.0; out_of_range_value = stops.1.1 }

pub returns : goal.returns
unfolding entry_refusal
returns c =
    let start = state c.args.chip c.args.memory.now c.args.writers.now c.args.count in
    let made = c.run.ensures in
    let passes =
    run-passes c.args.events.now start _ c.at_entry.ensures _ _ _ (ap refused_by c.in_default.is) made.count_after made.unknown_value made.out_of_range_value in
    record { count_after = passes.0; unknown_value = passes.1.0; out_of_range_value = passes.1.1 }
