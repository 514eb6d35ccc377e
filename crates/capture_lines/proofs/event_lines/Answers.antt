use Rattle.capture_lines.proofs.WholeLines.{line_at, no_lines, one-more-line, here-from, reading-starts, reading-goes-on, ends_at, ends-near, ends-full}
use mathlib.Core.Path.{◌≡◌, refl, sym, ap, ◌∙◌}
use lib.ListN.{length}
use Prim.Native.Nat.{ℕ}
use native.Mathlib.Omega.{arith}
use borrow.Author.Rules.{rules}
use Rattle.capture_lines.proofs.event_lines.Goals as goal

pub loop-count-init : goal.loop-count-init
loop-count-init c = (refl, no_lines _ _ _, reading-starts _ _ _)

pub returns-then-end-at : goal.returns-then-end-at
returns-then-end-at c =
    let head = c.loop-count in
    let end = ends-near _ _ _ _ _ _ head.invariant.2 head.invariant.1.room (omega arith) in
    record { lines_read = head.invariant.1; none_left = λ room inside. absurd (omega (arith, inside)); value = end.0; events_after = end.1 }

pub returns-in_default : goal.returns-in_default
returns-in_default c =
    let head = c.loop-count in
    let none = sym c.line_in.ensures ∙ c.in_default.is in
    let end = ends_at _ _ _ _ _ _ head.invariant.2 head.invariant.1.room (here-from c.args.part.now head.at _ (omega arith) (sym none)) in
    record { lines_read = head.invariant.1; none_left = λ room inside. none; value = end.0; events_after = end.1 }

pub overflow_add-at-in-loop-count-3 : goal.overflow_add-at-in-loop-count-3
overflow_add-at-in-loop-count-3 c =
    let head = c.loop-count in
    let line = line_at c.args.part.now head.at (omega arith) _ (sym c.in-Some.is ∙ c.line_in.ensures) in
    record { fits = omega (arith, line.within) }

pub loop-count-preserved : goal.loop-count-preserved
loop-count-preserved c =
    let head = c.loop-count in
    let part = c.args.part.now in
    let here = sym c.in-Some.is ∙ c.line_in.ensures in
    let room = c.loop-count-test.true in (
      search rules,
      one-more-line _ _ _ _ _ _ head.invariant.1 (omega arith) (line_at part head.at (omega arith) _ here),
      reading-goes-on _ _ _ _ _ _ _ head.invariant.2 (omega arith) (here-from part head.at _ (omega arith) here),
    )

pub returns-clause-value : goal.returns-clause-value
returns-clause-value c =
    let head = c.loop-count in
    let full : length head.events ≡ head.count = omega arith in
    let end = ends-full _ _ _ _ _ _ head.invariant.2 head.invariant.1.room (omega arith) in
    ap (λ (n : ℕ). record { count = n; at = head.at }) full ∙ end.0

pub returns-clause-events_after : goal.returns-clause-events_after
returns-clause-events_after c =
    let head = c.loop-count in
    (ends-full _ _ _ _ _ _ head.invariant.2 head.invariant.1.room (omega arith)).1
