use Rattle.std.proofs.Common.{rules, tests, arith, ◌∙◌, ◌≡◌, length}
use Rattle.text.specs.Text.{split}
use Rattle.lists.proofs.Fields.{now, second, third, fourth, fifth, there-number, there-within, there-tested, missing-past, missing-tested, number-read, number-unread, put-other, put-unread-1, put-unread-2, put-unread-3, put-four}
use Rattle.lists.proofs.grammar.put_line.Goals as goal

pub returns-in_err-column : goal.returns-in_err-column
returns-in_err-column c =
    let f = second c.args.s.now c.split-fields.result c.next-word.new.self c.next-word.result c.next-word.ensures.steps c.split-fields.ensures.rest c.split-fields.ensures.done c.split-fields.ensures.closure (λ x b q k. search (rules, tests)) c.next.new.self c.next.result c.next.ensures.steps in
    (search rules) ∙ put-unread-1 (split 9 c.args.s.now) (number-unread (split 9 c.args.s.now) 1 c.next.result f _ c.in_err-column.ensures)

pub returns-in_err-bank : goal.returns-in_err-bank
returns-in_err-bank c =
    let f = third c.args.s.now c.split-fields.result c.next-word.new.self c.next-word.result c.next-word.ensures.steps c.split-fields.ensures.rest c.split-fields.ensures.done c.split-fields.ensures.closure (λ x b q k. search (rules, tests)) c.next.new.self c.next.result c.next.ensures.steps (there-number c.next.result _ c.in_ok-column.ensures) c.next-2.new.self c.next-2.result c.next-2.ensures.steps in
    (search rules) ∙ put-unread-2 (split 9 c.args.s.now) (number-unread (split 9 c.args.s.now) 2 c.next-2.result f _ c.in_err-bank.ensures)

pub returns-in_err-byte : goal.returns-in_err-byte
returns-in_err-byte c =
    let f = fourth c.args.s.now c.split-fields.result c.next-word.new.self c.next-word.result c.next-word.ensures.steps c.split-fields.ensures.rest c.split-fields.ensures.done c.split-fields.ensures.closure (λ x b q k. search (rules, tests)) c.next.new.self c.next.result c.next.ensures.steps (there-number c.next.result _ c.in_ok-column.ensures) c.next-2.new.self c.next-2.result c.next-2.ensures.steps (there-number c.next-2.result _ c.in_ok-bank.ensures) c.next-3.new.self c.next-3.result c.next-3.ensures.steps in
    (search rules) ∙ put-unread-3 (split 9 c.args.s.now) (number-unread (split 9 c.args.s.now) 3 c.next-3.result f _ c.in_err-byte.ensures)

pub returns-then-is_some : goal.returns-then-is_some
returns-then-is_some c =
    let f = fifth c.args.s.now c.split-fields.result c.next-word.new.self c.next-word.result c.next-word.ensures.steps c.split-fields.ensures.rest c.split-fields.ensures.done c.split-fields.ensures.closure (λ x b q k. search (rules, tests)) c.next.new.self c.next.result c.next.ensures.steps (there-number c.next.result _ c.in_ok-column.ensures) c.next-2.new.self c.next-2.result c.next-2.ensures.steps (there-number c.next-2.result _ c.in_ok-bank.ensures) c.next-3.new.self c.next-3.result c.next-3.ensures.steps (there-number c.next-3.result _ c.in_ok-byte.ensures) c.next-4.new.self c.next-4.result c.next-4.ensures.steps in
    put-other (split 9 c.args.s.now) (λ n. omega (arith, there-within now (split 9 c.args.s.now) 4 c.next-4.result f (there-tested c.next-4.result (search rules))))

pub returns : goal.returns
returns c =
    let f1 = second c.args.s.now c.split-fields.result c.next-word.new.self c.next-word.result c.next-word.ensures.steps c.split-fields.ensures.rest c.split-fields.ensures.done c.split-fields.ensures.closure (λ x b q k. search (rules, tests)) c.next.new.self c.next.result c.next.ensures.steps in
    let f2 = third c.args.s.now c.split-fields.result c.next-word.new.self c.next-word.result c.next-word.ensures.steps c.split-fields.ensures.rest c.split-fields.ensures.done c.split-fields.ensures.closure (λ x b q k. search (rules, tests)) c.next.new.self c.next.result c.next.ensures.steps (there-number c.next.result _ c.in_ok-column.ensures) c.next-2.new.self c.next-2.result c.next-2.ensures.steps in
    let f3 = fourth c.args.s.now c.split-fields.result c.next-word.new.self c.next-word.result c.next-word.ensures.steps c.split-fields.ensures.rest c.split-fields.ensures.done c.split-fields.ensures.closure (λ x b q k. search (rules, tests)) c.next.new.self c.next.result c.next.ensures.steps (there-number c.next.result _ c.in_ok-column.ensures) c.next-2.new.self c.next-2.result c.next-2.ensures.steps (there-number c.next-2.result _ c.in_ok-bank.ensures) c.next-3.new.self c.next-3.result c.next-3.ensures.steps in
    let f4 = fifth c.args.s.now c.split-fields.result c.next-word.new.self c.next-word.result c.next-word.ensures.steps c.split-fields.ensures.rest c.split-fields.ensures.done c.split-fields.ensures.closure (λ x b q k. search (rules, tests)) c.next.new.self c.next.result c.next.ensures.steps (there-number c.next.result _ c.in_ok-column.ensures) c.next-2.new.self c.next-2.result c.next-2.ensures.steps (there-number c.next-2.result _ c.in_ok-bank.ensures) c.next-3.new.self c.next-3.result c.next-3.ensures.steps (there-number c.next-3.result _ c.in_ok-byte.ensures) c.next-4.new.self c.next-4.result c.next-4.ensures.steps in
    let l : length (split 9 c.args.s.now) ≡ 4 = omega (arith, there-within now (split 9 c.args.s.now) 3 c.next-3.result f3 (there-number c.next-3.result _ c.in_ok-byte.ensures), missing-past now (split 9 c.args.s.now) 4 c.next-4.result f4 (missing-tested c.next-4.result (search rules))) in
    put-four (split 9 c.args.s.now) _ _ _ _ l (number-read (split 9 c.args.s.now) 1 c.next.result f1 _ c.in_ok-column.ensures) (number-read (split 9 c.args.s.now) 2 c.next-2.result f2 _ c.in_ok-bank.ensures) (number-read (split 9 c.args.s.now) 3 c.next-3.result f3 _ c.in_ok-byte.ensures) c.fill.ensures
