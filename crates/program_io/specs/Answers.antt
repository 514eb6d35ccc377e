-- What a call of read answers.
use Rattle.std.specs.Prelude.{Bool, Option, None, Result, is_err, List, [], ◌∷◌, ◌++◌, ℕ, length, min, take}
use Rattle.std.specs.Result.{result_unwrap_or, result_err}
use Rattle.std.specs.declared.io.Error.{Error}

-- the number that it answers, or why it failed; and the buffer as it leaves it
pub record Answer : Type 0 where
  pub got : Result ℕ Error
  pub buffer : List ℕ

abbrev pub answer_of : Result ℕ Error → List ℕ → Answer
answer_of got buffer = record { got = got; buffer = buffer }

-- how many bytes it gave: none where it failed
abbrev pub count_of : Answer → ℕ
count_of a = min (result_unwrap_or a.got 0) (length a.buffer)

abbrev pub bytes_of : Answer → List ℕ
bytes_of a = take (count_of a) a.buffer

abbrev pub has_failed : Answer → Bool
has_failed a = is_err a.got

-- why it failed, where it did
abbrev pub failure_of : Answer → Option Error
failure_of a = result_err a.got

-- ---- the answers to all calls, the last of them first

-- what they gave, in the order in which it came
abbrev pub text_of : List Answer → List ℕ
text_of [] = []
text_of (a ∷ before) = text_of before ++ bytes_of a

-- why the last failed, where it did
abbrev pub last_failure : List Answer → Option Error
last_failure [] = None
last_failure (a ∷ before) = failure_of a

-- the most calls that are made
abbrev pub most_calls : ℕ
most_calls = 18446744073709551615
