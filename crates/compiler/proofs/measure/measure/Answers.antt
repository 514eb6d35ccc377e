use mathlib.Core.Path.{ap}
use native.Mathlib.Omega.{arith}
use Rattle.refusals.specs.Numbers.{numbered}
use Rattle.lists.proofs.Positions.{reading-next, line-valid}
use Rattle.compiler.proofs.CodeWays.{measuring-start, measuring-end, measuring-fault, measuring-room, measuring-turn}
use Rattle.compiler.proofs.measure.measure.Goals as goal

pub loop-at-init : goal.loop-at-init
loop-at-init c = let p = c.requires in measuring-start _ _ _ p.0 p.1 p.2

pub returns-in-Err : goal.returns-in-Err
returns-in-Err c =
    measuring-fault c.loop-at.invariant c.loop-at-test.true _ c.line_at-found.ensures _ (ap numbered c.in-Err.is)

pub count-counts-requires : goal.count-counts-requires
count-counts-requires c =
    let inv = c.loop-at.invariant in
    (line-valid _ _ c.loop-at-test.true _ c.line_at-found.ensures _ (ap numbered c.in-Ok.is), inv.tracked, inv.pins-fit)

pub overflow_add-length : goal.overflow_add-length
overflow_add-length c =
    let room =
    measuring-room c.loop-at.invariant c.loop-at-test.true _ c.line_at-found.ensures _ (ap numbered c.in-Ok.is) _ c.count-counts.ensures
    in
    omega (arith, room.0)

pub overflow_add-bytes : goal.overflow_add-bytes
overflow_add-bytes c =
    let room =
    measuring-room c.loop-at.invariant c.loop-at-test.true _ c.line_at-found.ensures _ (ap numbered c.in-Ok.is) _ c.count-counts.ensures
    in
    omega (arith, room.1)

pub overflow_add-number : goal.overflow_add-number
overflow_add-number c =
    omega (arith, c.loop-at.invariant.lines_left)

pub loop-at-smaller : goal.loop-at-smaller
loop-at-smaller c =
    let here = c.loop-at-test.true in
    omega (arith, here, reading-next _ _ 1 here _ c.line_at-found.ensures)

pub loop-at-preserved : goal.loop-at-preserved
loop-at-preserved c =
    measuring-turn c.loop-at.invariant c.loop-at-test.true _ c.line_at-found.ensures _ (ap numbered c.in-Ok.is) _ c.count-counts.ensures _
    c.registers_after-tracked.ensures

pub returns : goal.returns
returns c = measuring-end c.loop-at.invariant c.loop-at-test.false
