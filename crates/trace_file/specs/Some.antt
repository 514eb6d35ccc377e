-- What is promised of a capture that is read from a file and followed. No contract can say which bytes a file holds, nor that the system was asked: for
-- some answers the end is the replay of exactly the bytes that they gave, as for `capture_file`, and the tally counts over its events.
use Rattle.std.specs.Prelude.{Bool, true, List, ◌≡◌, ℕ}
use Rattle.refusals.specs.Numbers.{numbered}
use Rattle.print.specs.declared.Printout.{Printout}
use Rattle.print.specs.Prints.{Prints}
use Rattle.program_io.specs.Answers.{Answer, text_of, bytes_of, last_failure}
use Rattle.capture.specs.declared.Capture.{Capture}
use Rattle.capture.specs.Feeding.{Playing, meaning}
use Rattle.capture.specs.Replay.{replay_of}
use Rattle.chip.specs.Promised.{is_acknowledged}
use Rattle.capture_file.specs.Played.{TurnOfSome, Enough}
use Rattle.capture_trace.specs.declared.tally.Tally.{Tally}
use Rattle.capture_trace.specs.Done.{done_in_part, done_of}
use Rattle.capture_trace.specs.Follow.{told_lines, tally, tallied_over}
use Rattle.capture_trace.specs.Told.{is_not_acknowledged, how_many}
use Rattle.trace_file.specs.declared.Step.{Step}
use Rattle.trace_file.specs.declared.Followed.{Followed}

-- one answer, from a capture, a tally and a printout on
pub record StepOfSome (s : Step) (told : Bool) (c : Capture) (t : Tally) (p : Printout) (m w : List ℕ) (q : Printout) (before : Playing) : Type 0 where
  pub is_turn : TurnOfSome s.turn c m w before
  pub is_tallied : s.tally ≡ tallied_over (done_in_part (bytes_of is_turn.answer) before) t
  pub is_told : Prints p (told_lines told (done_in_part (bytes_of is_turn.answer) before)) q

-- the answers to all calls. Where the lines could not be put there may be more to read; else there is a reason why no further call was made
pub record FollowOfSome (r : Followed) (m w m₀ w₀ : List ℕ) : Type 0 where
  pub answers : List Answer
  pub is_replay : meaning (numbered r.end) m w ≡ replay_of (text_of answers) m₀ w₀
  pub is_failed : r.failed ≡ last_failure answers
  pub is_enough : r.printed ≡ true → Enough m₀ w₀ answers
  pub is_tally :
      r.tally ≡ tally (how_many is_acknowledged (done_of (text_of answers) m₀ w₀)) (how_many is_not_acknowledged (done_of (text_of answers) m₀ w₀))
