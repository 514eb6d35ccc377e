use mathlib.Core.Path.{◌∙◌}
use native.Mathlib.Omega.{arith}
use borrow.Author.Rules.{rules}
use Rattle.instruction_table.proofs.CodeWays.{share-of-other, share-of-own}
use Rattle.instruction_table.proofs.RowByte.{low-bound}
use Rattle.instruction_table.proofs.encoding.share.Goals as goal

pub returns-then-from-row : goal.returns-then-from-row
returns-then-from-row c =
    let given = c.args in
    share-of-other given.values.now given.row given.part _ (c.from.ensures ∙ c.part_row.ensures) c.if-from-row.true

pub overflow_shl-result : goal.overflow_shl-result
overflow_shl-result c = omega (arith, low-bound c.args.part, c.part_low.ensures)

pub returns : goal.returns
returns c =
    let given = c.args in
    share-of-own given.values.now given.row given.part _ (c.from.ensures ∙ c.part_row.ensures) _ _ _ _ c.if-from-row.false
    c.part_target.ensures c.place_of-place.ensures (c.from-2.ensures ∙ c.entry.ensures) (search rules) c.part_low.ensures
