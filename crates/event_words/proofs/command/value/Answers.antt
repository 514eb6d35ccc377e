use native.Mathlib.Omega.{arith}
use Rattle.instruction_table.proofs.RowByte.{low-bound, width-bound}
use Rattle.event_words.proofs.CodeWays.{some-numbers, value-at}
use Rattle.event_words.proofs.command.value.Goals as goal

pub overflow_shr-result : goal.overflow_shr-result
overflow_shr-result c = omega (arith, low-bound c.args.part, c.part_low.ensures)

pub overflow_shl-result : goal.overflow_shl-result
overflow_shl-result c = omega (arith, width-bound c.args.part, c.part_width.ensures)

pub nonzero_rem-result : goal.nonzero_rem-result
nonzero_rem-result c =
    let given = c.args in
    some-numbers given.part given.byte _ _ c.part_low.ensures c.part_width.ensures

pub returns : goal.returns
returns c = value-at c.args.part _ _ _ c.part_low.ensures c.part_width.ensures
