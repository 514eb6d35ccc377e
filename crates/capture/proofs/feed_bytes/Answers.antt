use Rattle.capture.proofs.CodeWays.{feed-ends, scanned, then-fed, scan-fed, end-fed}
use native.Mathlib.Omega.{arith}
use borrow.Author.Rules.{rules}
use mathlib.Core.Path.{refl, sym, ◌∙◌}
use Rattle.capture.proofs.feed_bytes.Goals as goal

pub loop-at-init : goal.loop-at-init
loop-at-init c =
    (refl, refl, record { starts = search rules; within = search rules; passed = c.requires; leaves = refl })

pub whole_lines-lines-requires : goal.whole_lines-lines-requires
whole_lines-lines-requires c = let head = c.loop-at in record { passed = head.invariant.2.passed; from_in_bounds = head.invariant.2.within }

pub overflow_add-at : goal.overflow_add-at
overflow_add-at c =
    omega (arith, c.if-at-part.true, c.well_formed)

pub loop-at-smaller-then-at-part : goal.loop-at-smaller-then-at-part
loop-at-smaller-then-at-part c =
    let part = c.args.part.now in
    let scan = scanned part _ _ _ c.scan-scanned.ensures c.whole_lines-lines.ensures.within in
    omega (arith, c.if-at-part.true, c.whole_lines-lines.ensures.starts, scan.starts)

pub loop-at-preserved-then-at-part : goal.loop-at-preserved-then-at-part
loop-at-preserved-then-at-part c =
    let ended = c.end_line-fed in
    let head = c.loop-at in
    let scan = scanned _ _ _ _ c.scan-scanned.ensures c.whole_lines-lines.ensures.within in
    let so_far = then-fed _ _ _ _ _ _ _ head.invariant.2 c.whole_lines-lines.ensures in (
      omega arith,
      omega arith,
      end-fed _ _ _ _ _ _ (scan-fed _ _ _ _ _ _ so_far _ c.scan-scanned.ensures) _ c.if-at-part.true (scan.stops c.if-at-part.true) ended.ensures,
    )

pub loop-at-smaller : goal.loop-at-smaller
loop-at-smaller c = omega (arith, c.if-at-part.false, c.loop-at-test.true)

pub loop-at-preserved : goal.loop-at-preserved
loop-at-preserved c =
    let head = c.loop-at in
    let so_far = then-fed _ _ _ _ _ _ _ head.invariant.2 c.whole_lines-lines.ensures in (
      omega arith,
      omega arith,
      scan-fed _ _ _ _ _ _ so_far _ c.scan-scanned.ensures,
    )

pub returns : goal.returns
returns c =
    let part = c.args.part.now in
    sym (feed-ends part c.loop-at.at _ (omega arith)) ∙ c.loop-at.invariant.2.leaves
