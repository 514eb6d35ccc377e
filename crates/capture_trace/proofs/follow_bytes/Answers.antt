use mathlib.Core.List.{List}
use mathlib.Core.Path.{refl, sym, ap, ◌∙◌, subst}
use native.Mathlib.Omega.{arith}
use Rattle.registers.specs.State.{state}
use Rattle.capture.specs.Feeding.{kept}
use Rattle.capture.specs.Where.{Passed}
use Rattle.capture.proofs.Refusals.{ended-passed}
use Rattle.capture.proofs.CodeWays.{feed-ends, scanned, line-ends}
use Rattle.capture_trace.specs.Done.{DoneEvent}
use Rattle.capture_trace.specs.Follow.{tallied_over}
use Rattle.capture_trace.proofs.CodeWays.{none-scanned, turn-tallied, done-at-newline, told-begun, told-passed, told-next, told-ended, none-in-end, none-tallied}
use borrow.Author.Rules.{rules}
use Rattle.capture_trace.proofs.follow_bytes.Goals as goal

pub loop-at-init : goal.loop-at-init
loop-at-init c = (search rules, refl, refl, c.requires, refl, refl, told-begun _ _ _ (omega arith))

pub end_line-followed-requires : goal.end_line-followed-requires
end_line-followed-requires c = c.loop-at.invariant.3.fit

pub overflow_add-at : goal.overflow_add-at
overflow_add-at c = omega (arith, c.if-at-part.true, c.well_formed)

pub loop-at-smaller-then-at-part : goal.loop-at-smaller-then-at-part
loop-at-smaller-then-at-part c =
    let head = c.loop-at in
    let scan = scanned c.args.part.now head.at _ _ c.scan-scanned.ensures head.invariant.0 in
    omega (arith, scan.starts)

pub loop-at-preserved-then-at-part : goal.loop-at-preserved-then-at-part
loop-at-preserved-then-at-part c =
    let ended = c.end_line-followed in
    let head = c.loop-at in
    let given = c.args in
    let part = given.part.now in
    let scan = scanned part head.at _ _ c.scan-scanned.ensures head.invariant.0 in
    let capture = head.followed.capture in
    let before = state capture.chip head.memory head.writers capture.count in
    let passed = none-scanned part head.at _ before _ c.scan-scanned.ensures head.invariant.0 in
    let there = scan.stops c.if-at-part.true in
    let fit = head.invariant.3.fit in
    let allowed = scan.line-allowed head.invariant.3.line-allowed in (
      search rules,
      search rules,
      search rules,
      subst Passed (sym ended.ensures.count_after) (ended-passed _ before fit allowed),
      line-ends _ _ _ _ _ c.if-at-part.true there ended.ensures.count_after ∙ sym (scan.leaves _) ∙ head.invariant.4,
      turn-tallied part _ _ before c.if-at-part.true there ended.ensures.count_after head.followed.tally ended.ensures.tally_value
          ∙ ap (λ (ds : List DoneEvent). tallied_over ds head.followed.tally) (sym passed)
          ∙ head.invariant.5,
      told-next _ (told-passed (passed ∙ done-at-newline part _ _ before c.if-at-part.true there ended.ensures.count_after) head.invariant.6) ended.ensures.prints,
    )

pub loop-at-smaller : goal.loop-at-smaller
loop-at-smaller c =
    let head = c.loop-at in
    let scan = scanned c.args.part.now head.at _ _ c.scan-scanned.ensures head.invariant.0 in
    omega (arith, scan.within)

pub loop-at-preserved : goal.loop-at-preserved
loop-at-preserved c =
    let head = c.loop-at in
    let given = c.args in
    let part = given.part.now in
    let scan = scanned part head.at _ _ c.scan-scanned.ensures head.invariant.0 in
    let capture = head.followed.capture in
    let before = state capture.chip head.memory head.writers capture.count in
    let done = none-scanned part head.at _ before _ c.scan-scanned.ensures head.invariant.0 in (
      scan.within,
      head.invariant.1,
      head.invariant.2,
      record { fit = head.invariant.3.fit; line-allowed = scan.line-allowed head.invariant.3.line-allowed },
      sym (scan.leaves _) ∙ head.invariant.4,
      ap (λ (ds : List DoneEvent). tallied_over ds head.followed.tally) (sym done) ∙ head.invariant.5,
      told-passed done head.invariant.6,
    )

pub returns : goal.returns
returns c =
    let head = c.loop-at in
    let part = c.args.part.now in
    let none = none-in-end part head.at (kept head.followed.capture head.memory head.writers) (omega arith) in
    record {
      count_after = sym (feed-ends part head.at _ (omega arith)) ∙ head.invariant.4;
      tally_value = none-tallied head.followed.tally none ∙ head.invariant.5;
      prints = told-ended none head.invariant.6;
    }
