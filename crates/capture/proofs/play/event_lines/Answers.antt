use mathlib.Core.Path.{sym}
use lib.Seq.{length-take-le}
use borrow.Author.Rules.{rules}
use Rattle.capture.proofs.Lines.{none-run, lines-run}
use Rattle.capture.proofs.play.event_lines.Goals as goal

pub returns-then-end_of_fours-from : goal.returns-then-end_of_fours-from
returns-then-end_of_fours-from c = none-run _ _ _ (search rules)

pub slice_bounds-play-end : goal.slice_bounds-play-end
slice_bounds-play-end c = sym (length-take-le _ _ c.event_lines-read.ensures.lines_read.room)

pub returns : goal.returns
returns c =
    let read = c.event_lines-read.ensures in
    lines-run _ _ _ _ _ _ _ read.lines_read read.value read.events_after c.play.ensures
