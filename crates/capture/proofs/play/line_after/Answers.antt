use Rattle.capture.proofs.CodeWays.{after-refused}
use Rattle.capture.proofs.play.line_after.Goals as goal

pub returns-in-Some : goal.returns-in-Some
returns-in-Some c = rw c.in-Some.is (after-refused c.in-Some.field-0)
