use Rattle.registers.specs.State.{state}
use Rattle.engine.proofs.CodeWays.{told-whole}
use Rattle.engine.proofs.step.step.Goals as goal

pub returns : goal.returns
returns c =
    told-whole c.args.event (state c.args.chip c.args.memory.now c.args.writers.now c.args.count) _ _ _ _ _ _
    c.run-ran.ensures.count_after c.run-ran.ensures.unknown_value c.run-ran.ensures.out_of_range_value c.answer.ensures
