-- What is promised of a capture that is read from a file. No contract can say which bytes a file holds, nor that the system was asked: for some
-- answers the result is the replay of exactly the bytes that they gave, in the order in which they came, and no later byte would change it.
use Rattle.std.specs.Prelude.{List, ◌∷◌, ◌++◌, ◌≡◌, ℕ, length}
use Rattle.program_io.specs.Answers.{Answer, count_of, text_of, last_failure, most_calls}
use Rattle.refusals.specs.Numbers.{numbered}
use Rattle.capture.specs.declared.Capture.{Capture}
use Rattle.capture.specs.Feeding.{Playing, meaning}
use Rattle.capture.specs.Replay.{replay_of}
use Rattle.capture_file.specs.declared.Turn.{Turn}
use Rattle.capture_file.specs.declared.Played.{Played}
use Rattle.capture_file.specs.Answers.{turned, taken_in}

-- one answer
pub record TurnOfSome (t : Turn) (c : Capture) (m w : List ℕ) (before : Playing) : Type 0 where
  pub answer : Answer
  pub is_taken_in : turned t c m w ≡ taken_in answer before

-- why no further call was made
pub data Enough (m w : List ℕ) : List Answer → Type 0 where
  -- the last gave no byte: it failed, or the input has ended
  none_given : (a : Answer) (before : List Answer) → count_of a ≡ 0 → Enough m w (a ∷ before)
  -- the capture is refused, and nothing that may stand behind these bytes changes that
  refused_for_good : (answers : List Answer) → ((rest : List ℕ) → replay_of (text_of answers ++ rest) m w ≡ replay_of (text_of answers) m w) → Enough m w answers
  -- there were as many as are made at most
  no_more_calls : (answers : List Answer) → length answers ≡ most_calls → Enough m w answers

-- the answers to all calls
pub record ReplayOfSome (r : Played) (m w m₀ w₀ : List ℕ) : Type 0 where
  pub answers : List Answer
  pub is_replay : meaning (numbered r.end) m w ≡ replay_of (text_of answers) m₀ w₀
  pub is_failed : r.failed ≡ last_failure answers
  pub is_enough : Enough m₀ w₀ answers
