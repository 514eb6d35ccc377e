use mathlib.Core.Path.{ap, ◌∙◌}
use Rattle.program_io.specs.Answers.{answer_of}
use Rattle.capture_file.specs.Answers.{turn_of, taken_in}
use Rattle.trace_file.proofs.take_in.Goals as goal

pub returns-in-Ok-clause-writers_after : goal.returns-in-Ok-clause-writers_after
unfolding taken_in
returns-in-Ok-clause-writers_after c =
    let args = c.args in
    c.after_read.ensures args.course.capture _ _
    ∙ ap (turn_of (answer_of args.got args.buf.now)) (c.in-Ok.ensures.writers_after ∙ rw c.count-n.ensures.value)

pub returns-in-Err-clause-writers_after : goal.returns-in-Err-clause-writers_after
unfolding taken_in
returns-in-Err-clause-writers_after c =
    let args = c.args in
    c.after_read-in-Err.ensures args.course.capture _ _
    ∙ ap (turn_of (answer_of args.got args.buf.now)) (c.in-Err.ensures.writers_after ∙ rw c.count-n.ensures.value)
