use Rattle.capture.proofs.CodeWays.{after-played}
use Rattle.capture.proofs.play.play.Goals as goal

pub returns : goal.returns
returns c = after-played _ _ _ c.run-ran.ensures.count_after c.line_after.ensures
