use Rattle.std.proofs.Common.{rules, tests, arith, ◌∙◌, ◌≡◌, length}
use Rattle.text.specs.Text.{split}
use Rattle.lists.proofs.Fields.{now, second, third, fourth, fifth, sixth, seventh, there-number, there-within, there-tested, missing-past, missing-tested, number-read, number-unread, fill-other, fill-unread-1, fill-unread-2, fill-unread-3, fill-unread-4, fill-unread-5, fill-six}
use Rattle.lists.proofs.grammar.fill_line.Goals as goal

pub returns-in_err-c0 : goal.returns-in_err-c0
returns-in_err-c0 c =
    let f = second c.args.s.now c.split-fields.result c.next-word.new.self c.next-word.result c.next-word.ensures.steps c.split-fields.ensures.rest c.split-fields.ensures.done c.split-fields.ensures.closure (λ x b q k. search (rules, tests)) c.next.new.self c.next.result c.next.ensures.steps in
    (search rules) ∙ fill-unread-1 (split 9 c.args.s.now) (number-unread (split 9 c.args.s.now) 1 c.next.result f _ c.in_err-c0.ensures)

pub returns-in_err-c1 : goal.returns-in_err-c1
returns-in_err-c1 c =
    let f = third c.args.s.now c.split-fields.result c.next-word.new.self c.next-word.result c.next-word.ensures.steps c.split-fields.ensures.rest c.split-fields.ensures.done c.split-fields.ensures.closure (λ x b q k. search (rules, tests)) c.next.new.self c.next.result c.next.ensures.steps (there-number c.next.result _ c.in_ok-c0.ensures) c.next-2.new.self c.next-2.result c.next-2.ensures.steps in
    (search rules) ∙ fill-unread-2 (split 9 c.args.s.now) (number-unread (split 9 c.args.s.now) 2 c.next-2.result f _ c.in_err-c1.ensures)

pub returns-in_err-b0 : goal.returns-in_err-b0
returns-in_err-b0 c =
    let f = fourth c.args.s.now c.split-fields.result c.next-word.new.self c.next-word.result c.next-word.ensures.steps c.split-fields.ensures.rest c.split-fields.ensures.done c.split-fields.ensures.closure (λ x b q k. search (rules, tests)) c.next.new.self c.next.result c.next.ensures.steps (there-number c.next.result _ c.in_ok-c0.ensures) c.next-2.new.self c.next-2.result c.next-2.ensures.steps (there-number c.next-2.result _ c.in_ok-c1.ensures) c.next-3.new.self c.next-3.result c.next-3.ensures.steps in
    (search rules) ∙ fill-unread-3 (split 9 c.args.s.now) (number-unread (split 9 c.args.s.now) 3 c.next-3.result f _ c.in_err-b0.ensures)

pub returns-in_err-b1 : goal.returns-in_err-b1
returns-in_err-b1 c =
    let f = fifth c.args.s.now c.split-fields.result c.next-word.new.self c.next-word.result c.next-word.ensures.steps c.split-fields.ensures.rest c.split-fields.ensures.done c.split-fields.ensures.closure (λ x b q k. search (rules, tests)) c.next.new.self c.next.result c.next.ensures.steps (there-number c.next.result _ c.in_ok-c0.ensures) c.next-2.new.self c.next-2.result c.next-2.ensures.steps (there-number c.next-2.result _ c.in_ok-c1.ensures) c.next-3.new.self c.next-3.result c.next-3.ensures.steps (there-number c.next-3.result _ c.in_ok-b0.ensures) c.next-4.new.self c.next-4.result c.next-4.ensures.steps in
    (search rules) ∙ fill-unread-4 (split 9 c.args.s.now) (number-unread (split 9 c.args.s.now) 4 c.next-4.result f _ c.in_err-b1.ensures)

pub returns-in_err-byte : goal.returns-in_err-byte
returns-in_err-byte c =
    let f = sixth c.args.s.now c.split-fields.result c.next-word.new.self c.next-word.result c.next-word.ensures.steps c.split-fields.ensures.rest c.split-fields.ensures.done c.split-fields.ensures.closure (λ x b q k. search (rules, tests)) c.next.new.self c.next.result c.next.ensures.steps (there-number c.next.result _ c.in_ok-c0.ensures) c.next-2.new.self c.next-2.result c.next-2.ensures.steps (there-number c.next-2.result _ c.in_ok-c1.ensures) c.next-3.new.self c.next-3.result c.next-3.ensures.steps (there-number c.next-3.result _ c.in_ok-b0.ensures) c.next-4.new.self c.next-4.result c.next-4.ensures.steps (there-number c.next-4.result _ c.in_ok-b1.ensures) c.next-5.new.self c.next-5.result c.next-5.ensures.steps in
    (search rules) ∙ fill-unread-5 (split 9 c.args.s.now) (number-unread (split 9 c.args.s.now) 5 c.next-5.result f _ c.in_err-byte.ensures)

pub returns-then-is_some : goal.returns-then-is_some
returns-then-is_some c =
    let f = seventh c.args.s.now c.split-fields.result c.next-word.new.self c.next-word.result c.next-word.ensures.steps c.split-fields.ensures.rest c.split-fields.ensures.done c.split-fields.ensures.closure (λ x b q k. search (rules, tests)) c.next.new.self c.next.result c.next.ensures.steps (there-number c.next.result _ c.in_ok-c0.ensures) c.next-2.new.self c.next-2.result c.next-2.ensures.steps (there-number c.next-2.result _ c.in_ok-c1.ensures) c.next-3.new.self c.next-3.result c.next-3.ensures.steps (there-number c.next-3.result _ c.in_ok-b0.ensures) c.next-4.new.self c.next-4.result c.next-4.ensures.steps (there-number c.next-4.result _ c.in_ok-b1.ensures) c.next-5.new.self c.next-5.result c.next-5.ensures.steps (there-number c.next-5.result _ c.in_ok-byte.ensures) c.next-6.new.self c.next-6.result c.next-6.ensures.steps in
    fill-other (split 9 c.args.s.now) (λ n. omega (arith, there-within now (split 9 c.args.s.now) 6 c.next-6.result f (there-tested c.next-6.result (search rules))))

pub returns : goal.returns
returns c =
    let f1 = second c.args.s.now c.split-fields.result c.next-word.new.self c.next-word.result c.next-word.ensures.steps c.split-fields.ensures.rest c.split-fields.ensures.done c.split-fields.ensures.closure (λ x b q k. search (rules, tests)) c.next.new.self c.next.result c.next.ensures.steps in
    let f2 = third c.args.s.now c.split-fields.result c.next-word.new.self c.next-word.result c.next-word.ensures.steps c.split-fields.ensures.rest c.split-fields.ensures.done c.split-fields.ensures.closure (λ x b q k. search (rules, tests)) c.next.new.self c.next.result c.next.ensures.steps (there-number c.next.result _ c.in_ok-c0.ensures) c.next-2.new.self c.next-2.result c.next-2.ensures.steps in
    let f3 = fourth c.args.s.now c.split-fields.result c.next-word.new.self c.next-word.result c.next-word.ensures.steps c.split-fields.ensures.rest c.split-fields.ensures.done c.split-fields.ensures.closure (λ x b q k. search (rules, tests)) c.next.new.self c.next.result c.next.ensures.steps (there-number c.next.result _ c.in_ok-c0.ensures) c.next-2.new.self c.next-2.result c.next-2.ensures.steps (there-number c.next-2.result _ c.in_ok-c1.ensures) c.next-3.new.self c.next-3.result c.next-3.ensures.steps in
    let f4 = fifth c.args.s.now c.split-fields.result c.next-word.new.self c.next-word.result c.next-word.ensures.steps c.split-fields.ensures.rest c.split-fields.ensures.done c.split-fields.ensures.closure (λ x b q k. search (rules, tests)) c.next.new.self c.next.result c.next.ensures.steps (there-number c.next.result _ c.in_ok-c0.ensures) c.next-2.new.self c.next-2.result c.next-2.ensures.steps (there-number c.next-2.result _ c.in_ok-c1.ensures) c.next-3.new.self c.next-3.result c.next-3.ensures.steps (there-number c.next-3.result _ c.in_ok-b0.ensures) c.next-4.new.self c.next-4.result c.next-4.ensures.steps in
    let f5 = sixth c.args.s.now c.split-fields.result c.next-word.new.self c.next-word.result c.next-word.ensures.steps c.split-fields.ensures.rest c.split-fields.ensures.done c.split-fields.ensures.closure (λ x b q k. search (rules, tests)) c.next.new.self c.next.result c.next.ensures.steps (there-number c.next.result _ c.in_ok-c0.ensures) c.next-2.new.self c.next-2.result c.next-2.ensures.steps (there-number c.next-2.result _ c.in_ok-c1.ensures) c.next-3.new.self c.next-3.result c.next-3.ensures.steps (there-number c.next-3.result _ c.in_ok-b0.ensures) c.next-4.new.self c.next-4.result c.next-4.ensures.steps (there-number c.next-4.result _ c.in_ok-b1.ensures) c.next-5.new.self c.next-5.result c.next-5.ensures.steps in
    let f6 = seventh c.args.s.now c.split-fields.result c.next-word.new.self c.next-word.result c.next-word.ensures.steps c.split-fields.ensures.rest c.split-fields.ensures.done c.split-fields.ensures.closure (λ x b q k. search (rules, tests)) c.next.new.self c.next.result c.next.ensures.steps (there-number c.next.result _ c.in_ok-c0.ensures) c.next-2.new.self c.next-2.result c.next-2.ensures.steps (there-number c.next-2.result _ c.in_ok-c1.ensures) c.next-3.new.self c.next-3.result c.next-3.ensures.steps (there-number c.next-3.result _ c.in_ok-b0.ensures) c.next-4.new.self c.next-4.result c.next-4.ensures.steps (there-number c.next-4.result _ c.in_ok-b1.ensures) c.next-5.new.self c.next-5.result c.next-5.ensures.steps (there-number c.next-5.result _ c.in_ok-byte.ensures) c.next-6.new.self c.next-6.result c.next-6.ensures.steps in
    let l : length (split 9 c.args.s.now) ≡ 6 = omega (arith, there-within now (split 9 c.args.s.now) 5 c.next-5.result f5 (there-number c.next-5.result _ c.in_ok-byte.ensures), missing-past now (split 9 c.args.s.now) 6 c.next-6.result f6 (missing-tested c.next-6.result (search rules))) in
    fill-six (split 9 c.args.s.now) _ _ _ _ _ _ l (number-read (split 9 c.args.s.now) 1 c.next.result f1 _ c.in_ok-c0.ensures) (number-read (split 9 c.args.s.now) 2 c.next-2.result f2 _ c.in_ok-c1.ensures) (number-read (split 9 c.args.s.now) 3 c.next-3.result f3 _ c.in_ok-b0.ensures) (number-read (split 9 c.args.s.now) 4 c.next-4.result f4 _ c.in_ok-b1.ensures) (number-read (split 9 c.args.s.now) 5 c.next-5.result f5 _ c.in_ok-byte.ensures) c.fill.ensures
