use Rattle.std.proofs.Common.{rules, tests, arith, ◌∙◌, ◌≡◌, length, refl, sym, ap}
use Rattle.text.specs.Text.{split}
use Rattle.lists.specs.Line.{or_malformed}
use Rattle.lists.proofs.CodeWays.{set-three}
use Rattle.lists.proofs.Fields.{now, second, third, fourth, there-number, there-within, there-tested, missing-past, missing-tested, number-read, number-unread, there-some, piece-read, set-other, set-unread}
use Rattle.lists.proofs.grammar.set_line.Goals as goal

pub returns-in_err-name : goal.returns-in_err-name
returns-in_err-name c =
    let f = second c.args.s.now c.split-fields.result c.next-word.new.self c.next-word.result c.next-word.ensures.steps c.split-fields.ensures.rest c.split-fields.ensures.done c.split-fields.ensures.closure (λ x b q k. search (rules, tests)) c.next.new.self c.next.result c.next.ensures.steps in
    (search rules) ∙ set-other (split 9 c.args.s.now) (λ n. omega (arith, missing-past now (split 9 c.args.s.now) 1 c.next.result f c.in_err-name.ensures.ok_part))

pub returns-in_err-value : goal.returns-in_err-value
returns-in_err-value c =
    let f = third c.args.s.now c.split-fields.result c.next-word.new.self c.next-word.result c.next-word.ensures.steps c.split-fields.ensures.rest c.split-fields.ensures.done c.split-fields.ensures.closure (λ x b q k. search (rules, tests)) c.next.new.self c.next.result c.next.ensures.steps (there-some c.next.result _ c.in_ok-name.ensures.ok_part) c.next-2.new.self c.next-2.result c.next-2.ensures.steps in
    (search rules) ∙ set-unread (split 9 c.args.s.now) (number-unread (split 9 c.args.s.now) 2 c.next-2.result f _ c.in_err-value.ensures)

pub returns-then-is_some : goal.returns-then-is_some
returns-then-is_some c =
    let f = fourth c.args.s.now c.split-fields.result c.next-word.new.self c.next-word.result c.next-word.ensures.steps c.split-fields.ensures.rest c.split-fields.ensures.done c.split-fields.ensures.closure (λ x b q k. search (rules, tests)) c.next.new.self c.next.result c.next.ensures.steps (there-some c.next.result _ c.in_ok-name.ensures.ok_part) c.next-2.new.self c.next-2.result c.next-2.ensures.steps (there-number c.next-2.result _ c.in_ok-value.ensures) c.next-3.new.self c.next-3.result c.next-3.ensures.steps in
    set-other (split 9 c.args.s.now) (λ n. omega (arith, there-within now (split 9 c.args.s.now) 3 c.next-3.result f (there-tested c.next-3.result (search rules))))

pub returns : goal.returns
returns c =
    let f1 = second c.args.s.now c.split-fields.result c.next-word.new.self c.next-word.result c.next-word.ensures.steps c.split-fields.ensures.rest c.split-fields.ensures.done c.split-fields.ensures.closure (λ x b q k. search (rules, tests)) c.next.new.self c.next.result c.next.ensures.steps in
    let f2 = third c.args.s.now c.split-fields.result c.next-word.new.self c.next-word.result c.next-word.ensures.steps c.split-fields.ensures.rest c.split-fields.ensures.done c.split-fields.ensures.closure (λ x b q k. search (rules, tests)) c.next.new.self c.next.result c.next.ensures.steps (there-some c.next.result _ c.in_ok-name.ensures.ok_part) c.next-2.new.self c.next-2.result c.next-2.ensures.steps in
    let f3 = fourth c.args.s.now c.split-fields.result c.next-word.new.self c.next-word.result c.next-word.ensures.steps c.split-fields.ensures.rest c.split-fields.ensures.done c.split-fields.ensures.closure (λ x b q k. search (rules, tests)) c.next.new.self c.next.result c.next.ensures.steps (there-some c.next.result _ c.in_ok-name.ensures.ok_part) c.next-2.new.self c.next-2.result c.next-2.ensures.steps (there-number c.next-2.result _ c.in_ok-value.ensures) c.next-3.new.self c.next-3.result c.next-3.ensures.steps in
    let l : length (split 9 c.args.s.now) ≡ 3 = omega (arith, there-within now (split 9 c.args.s.now) 2 c.next-2.result f2 (there-number c.next-2.result _ c.in_ok-value.ensures), missing-past now (split 9 c.args.s.now) 3 c.next-3.result f3 (missing-tested c.next-3.result (search rules))) in
    set-three (split 9 c.args.s.now) 3 (sym l) refl _ _ _ _ (piece-read (split 9 c.args.s.now) 1 c.next.result f1 _ c.in_ok-name.ensures.ok_part) c.place.ensures (sym (ap or_malformed (number-read (split 9 c.args.s.now) 2 c.next-2.result f2 _ c.in_ok-value.ensures))) c.set.ensures
