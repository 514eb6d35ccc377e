use mathlib.Core.Path.{ap}
use native.Mathlib.Omega.{arith}
use Rattle.refusals.specs.Numbers.{numbered}
use Rattle.lists.proofs.Positions.{reading-next}
use Rattle.compiler.proofs.CodeWays.{writing_start, writing-end, writing-no-fault, writing-room, writing-turn}
use borrow.Author.Rules.{rules}
use Rattle.compiler.proofs.write.write.Goals as goal

pub loop-at-init : goal.loop-at-init
loop-at-init c = writing_start _ _ _ _ c.requires.0 c.requires.1

pub shape_of-out-in-Err : goal.shape_of-out-in-Err
shape_of-out-in-Err c =
    c.loop-at.invariant.same_length

pub returns-in-Err : goal.returns-in-Err
returns-in-Err c =
    absurd (writing-no-fault c.loop-at.invariant c.loop-at-test.true _ c.line_at-found.ensures _ (ap numbered c.in-Err.is))

pub write-here-requires : goal.write-here-requires
write-here-requires c =
    writing-room c.loop-at.invariant c.loop-at-test.true _ c.line_at-found.ensures _ (ap numbered c.in-Ok.is)

pub loop-at-smaller : goal.loop-at-smaller
loop-at-smaller c =
    let here = c.loop-at-test.true in
    omega (arith, here, reading-next _ _ 1 here _ c.line_at-found.ensures)

pub loop-at-preserved : goal.loop-at-preserved
loop-at-preserved c =
    writing-turn c.loop-at.invariant c.loop-at-test.true _ c.line_at-found.ensures _ (ap numbered c.in-Ok.is) _ _ _
    (search rules) c.write-here.ensures c.registers_after-tracked.ensures

pub shape_of-out : goal.shape_of-out
shape_of-out c = c.loop-at.invariant.same_length

pub returns : goal.returns
returns c = writing-end c.loop-at.invariant c.loop-at-test.false
