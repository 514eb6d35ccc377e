use Rattle.capture.proofs.CodeWays.{part-refused, part-fed}
use Rattle.capture.specs.Feeding.{kept, part_refusal, feed_of}
use native.Mathlib.Omega.{arith}
use Rattle.capture.proofs.feed.Goals as goal

pub returns-in_err-of_part : goal.returns-in_err-of_part
unfolding feed_of
returns-in_err-of_part c =
    let before = kept c.args.capture c.args.memory.now c.args.writers.now in
    let refused = part-refused _ (part_refusal before) c.in_err-of_part.ensures in
    grind (arith, refused)

pub returns : goal.returns
unfolding feed_of
returns c =
    let none = c.in_ok-of_part.ensures in
    rw (← none) (part-fed _ _ c.feed_bytes.ensures)
