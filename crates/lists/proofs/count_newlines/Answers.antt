use Rattle.std.proofs.Common.{◌≡◌, ℕ, ◌+◌, ◌<◌, List, length, drop, ap, ◌∙◌, arith}
use Rattle.text.proofs.Finding.{count-bound}
use Rattle.lists.specs.Lists.{newline, newlines, next_line, newline_before, past_line}
use Rattle.lists.specs.declared.reader.Reader.{Reader}
use Rattle.lists.proofs.Positions.{next_place, newlines-past}
use Rattle.lists.proofs.count_newlines.Goals as goal

-- a reader of a text, past a line
passed : (r q : Reader) (text : List ℕ) → r.text.now ≡ text → q ≡ past_line r → (q.text.now ≡ text) × (q.at ≡ next_line text r.at)
passed r q text e h =
    (ap (λ (z : Reader). z.text.now) h ∙ e, ap (λ (z : Reader). z.at) h ∙ ap (λ (t : List ℕ). next_line t r.at) e)

-- b being how many newlines the byte before the next line is
turn :
    (text : List ℕ) (at q n b : ℕ) → at < length text → q ≡ next_line text at → b ≡ newline_before text q
    → n + newlines (drop at text) ≡ newlines text → n + b + newlines (drop q text) ≡ newlines text
turn text at q n b l e h k = rw e (omega (arith, newlines-past text at l, h ∙ ap (newline_before text) e, k))

pub overflow_add-count : goal.overflow_add-count
overflow_add-count c =
    let head = c.loop-reader in
    let text = c.args.text.now in
    let p = passed head.reader c.next-reader.result text head.invariant.text_read c.next-reader.ensures in
    let k = turn text head.reader.at c.next-reader.result.at head.count _ (omega arith) p.1 c.newline_before-count.ensures head.invariant.counted in
    record { fits = omega (arith, k, count-bound newline text) }

pub loop-reader-smaller : goal.loop-reader-smaller
loop-reader-smaller c =
    let head = c.loop-reader in
    let text = c.args.text.now in
    let p = passed head.reader c.next-reader.result text head.invariant.text_read c.next-reader.ensures in
    omega (arith, p.1, next_place text head.reader.at (omega arith))

pub loop-reader-preserved : goal.loop-reader-preserved
loop-reader-preserved c =
    let head = c.loop-reader in
    let text = c.args.text.now in
    let p = passed head.reader c.next-reader.result text head.invariant.text_read c.next-reader.ensures in
    record {
      text_read = p.0;
      counted = turn text head.reader.at c.next-reader.result.at head.count _ (omega arith) p.1 c.newline_before-count.ensures head.invariant.counted;
    }
