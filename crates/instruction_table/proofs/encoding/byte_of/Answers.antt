use mathlib.Core.Path.{◌∙◌}
use Prim.Native.Nat.{ℕ, ◌≤◌}
use native.Mathlib.Omega.{arith}
use lib.ListN.{get_or}
use Rattle.instruction_table.proofs.CodeWays.{shares-start, shares-next, shares-room, shares-end}
use Rattle.instruction_table.proofs.encoding.byte_of.Goals as goal

pub loop-part-init : goal.loop-part-init
loop-part-init c = shares-start _ _ _ (c.from-sum.ensures ∙ c.code.ensures)

pub overflow_add-sum : goal.overflow_add-sum
overflow_add-sum c =
    let values = c.args.values.now in
    let bytes : ((j : ℕ) → get_or values j 0 ≤ 255) = λ j. omega (arith, c.type_inv.values j) in
    omega (arith, shares-room values _ _ _ _ bytes c.loop-part-test.true c.loop-part.invariant c.share-sum.ensures)

pub loop-part-preserved : goal.loop-part-preserved
loop-part-preserved c = shares-next _ _ _ _ _ c.loop-part-test.true c.loop-part.invariant c.share-sum.ensures

pub returns : goal.returns
returns c = let at_head = c.loop-part in shares-end _ _ _ _ at_head.auto.part-end c.loop-part-test.false at_head.invariant
