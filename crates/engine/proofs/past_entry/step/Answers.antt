use Rattle.registers.specs.State.{state}
use Rattle.engine.proofs.CodeWays.{told-past}
use Rattle.engine.proofs.past_entry.step.Goals as goal

pub returns : goal.returns
returns c =
    told-past c.args.event (state c.args.chip c.args.memory.now c.args.writers.now c.args.count) _ _ _ _ _ _
    c.run-ran.ensures.count_after c.run-ran.ensures.unknown_value c.run-ran.ensures.out_of_range_value c.answer.ensures
