-- What is promised of samples that are read from a file. No contract can say which bytes a file holds, nor that the system was asked: for some
-- answers the unclear samples are those of exactly the bytes that they gave, and no later byte would change the capture.
use Rattle.std.specs.Prelude.{true, List, ◌∷◌, ◌++◌, ◌≡◌, ℕ, length}
use Rattle.print.specs.Prints.{Prints}
use Rattle.print.specs.declared.Printout.{Printout}
use Rattle.program_io.specs.Answers.{Answer, count_of, text_of, last_failure, most_calls}
use Rattle.wire_samples.specs.Sample.{at_start}
use Rattle.wire_samples.specs.Feed.{after_all}
use Rattle.wire_text.specs.declared.Reading.{Reading}
use Rattle.wire_text.specs.Capture.{samples_in, capture_of}
use Rattle.wire_file.specs.declared.Turn.{Turn}
use Rattle.wire_file.specs.declared.Captured.{Captured}
use Rattle.wire_file.specs.Answers.{text_given, turned, taken_in}

-- one answer, and what it left of an output
pub record TurnOfSome (t : Turn) (p q : Printout) (before : Reading) : Type 0 where
  pub answer : Answer
  pub is_taken_in : turned t ≡ taken_in answer before
  pub is_told : Prints p (text_given answer before) q

-- why no further call was made
pub data Enough (pins : ℕ) : List Answer → Type 0 where
  -- the last gave no byte: it failed, or the input has ended
  none_given : (a : Answer) (before : List Answer) → count_of a ≡ 0 → Enough pins (a ∷ before)
  -- a byte came that is no sample, and nothing that may stand behind it changes the capture
  refused_for_good :
      (answers : List Answer) → ((rest : List ℕ) → capture_of pins (text_of answers ++ rest) ≡ capture_of pins (text_of answers))
      → Enough pins answers
  -- there were as many as are made at most
  no_more_calls : (answers : List Answer) → length answers ≡ most_calls → Enough pins answers

-- the answers to all calls. Where the text could not be put there may be more to read; else there is a reason why no further call was made
pub record CaptureOfSome (r : Captured) (pins : ℕ) : Type 0 where
  pub answers : List Answer
  pub is_unclear : r.unclear ≡ (after_all at_start (samples_in (text_of answers))).unclear
  pub is_failed : r.failed ≡ last_failure answers
  pub is_enough : r.printed ≡ true → Enough pins answers
