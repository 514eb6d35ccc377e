-- What a capture makes of an answer.
use Rattle.std.specs.Prelude.{Bool, true, false, Option, None, not, ◌&&◌, List, ℕ, ltb}
use Rattle.std.specs.declared.io.Error.{Error}
use Rattle.program_io.specs.Answers.{Answer, count_of, bytes_of, failure_of}
use Rattle.capture.specs.declared.Capture.{Capture}
use Rattle.capture.specs.Feeding.{Playing, PartFed, fed, fed_by, feed_of, is_over}
use Rattle.capture_file.specs.declared.Turn.{Turn}
use Rattle.capture_file.specs.declared.Turn.TheVariants.{More, Last}

pub record Turned : Type 0 where
  pub after : PartFed
  pub more : Bool
  pub failed : Option Error

-- what a turn says to one who handed over `before`
abbrev pub turned : Turn → Capture → List ℕ → List ℕ → Turned
turned (More c) before m w = record { after = fed 0 c m w; more = true; failed = None }
turned (Last f e) before m w = record { after = fed_by f before m w; more = false; failed = e }

-- there may be more where there was some and the capture is not refused
abbrev pub turn_of : Answer → PartFed → Turned
turn_of a f = record { after = f; more = ltb 0 (count_of a) && not (is_over f); failed = failure_of a }

-- the bytes are fed
unfoldable pub taken_in : Answer → Playing → Turned
taken_in a p = turn_of a (feed_of (bytes_of a) p)
