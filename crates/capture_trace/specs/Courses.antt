-- What a followed part comes to: a course, or a refusal, which leaves the tally as it was.
use Rattle.std.specs.Prelude.{Result, Ok, Err}
use Rattle.refusals.specs.declared.Refusal.{Refusal}
use Rattle.capture.specs.declared.Capture.{Capture}
use Rattle.capture_trace.specs.declared.Course.{Course}
use Rattle.capture_trace.specs.declared.tally.Tally.{Tally}

abbrev pub capture_in : Result Course Refusal → Result Capture Refusal
capture_in (Ok c) = Ok c.capture
capture_in (Err r) = Err r

abbrev pub tally_in : Result Course Refusal → Tally → Tally
tally_in (Ok c) before = c.tally
tally_in (Err r) before = before
