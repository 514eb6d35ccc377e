use mathlib.Core.Path.{ap, ◌∙◌}
use Rattle.program_io.specs.Answers.{answer_of}
use Rattle.capture.specs.Feeding.{kept}
use Rattle.capture_file.specs.Answers.{turn_of, taken_in}
use Rattle.capture_file.proofs.take_in.Goals as goal

pub returns : goal.returns
unfolding taken_in
returns c =
    let args = c.args in
    let before = kept args.capture args.memory.now args.writers.now in
    c.after_read.ensures args.capture _ _
    ∙ ap (turn_of (answer_of args.got args.buf.now)) (c.feed.ensures ∙ rw c.count-n.ensures.value)
