use native.Mathlib.Omega.{arith}
use Rattle.capture.specs.Feeding.{kept, feed_of}
use Rattle.capture.proofs.CodeWays.{part-refused, part-fed}
use Rattle.capture_trace.specs.Done.{done_in_bytes, done_in_part}
use Rattle.capture_trace.proofs.CodeWays.{refused_none, none-tallied, none_told}
use Rattle.capture_trace.proofs.follow.Goals as goal

pub returns-in_err-of_part-clause-writers_after : goal.returns-in_err-of_part-clause-writers_after
unfolding feed_of
returns-in_err-of_part-clause-writers_after c =
    let refused = part-refused _ _ c.in_err-of_part.ensures in
    grind (arith, refused)

pub returns-in_err-of_part-clause-tally_value : goal.returns-in_err-of_part-clause-tally_value
unfolding done_in_part
returns-in_err-of_part-clause-tally_value c =
    let args = c.args in
    let before = kept args.course.capture args.memory.now args.writers.now in
    let none = none-tallied args.course.tally (refused_none _ _ (done_in_bytes args.part.now before) c.in_err-of_part.ensures) in
    grind (arith, none)

pub returns-in_err-of_part-clause-prints : goal.returns-in_err-of_part-clause-prints
unfolding done_in_part
returns-in_err-of_part-clause-prints c =
    let args = c.args in
    let before = kept args.course.capture args.memory.now args.writers.now in
    none_told args.told _ (omega arith) (refused_none _ _ (done_in_bytes args.part.now before) c.in_err-of_part.ensures)

pub returns : goal.returns
unfolding feed_of done_in_part
returns c =
    let none = c.in_ok-of_part.ensures in
    let followed = c.follow_bytes.ensures in
    rw (← none) (record { writers_after = part-fed _ _ followed.count_after; tally_value = followed.tally_value; prints = followed.prints })
