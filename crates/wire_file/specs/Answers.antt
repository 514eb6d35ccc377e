-- What is made of an answer: the text of the bytes that it gave. One that failed gives none, and leaves the reading as it was.
use Rattle.std.specs.Prelude.{Option, None, Bool, true, false, cond, not, ◌&&◌, List, [], ℕ, ltb}
use Rattle.std.specs.declared.io.Error.{Error}
use Rattle.program_io.specs.Answers.{Answer, count_of, bytes_of, has_failed, failure_of}
use Rattle.wire_text.specs.declared.Reading.{Reading}
use Rattle.wire_text.specs.Parts.{is_over, part_text, after_part}
use Rattle.wire_file.specs.declared.Turn.{Turn}
use Rattle.wire_file.specs.declared.Turn.TheVariants.{More, Last}

abbrev pub text_given : Answer → Reading → List ℕ
text_given a r = cond (has_failed a) [] (part_text r (bytes_of a))

abbrev pub after_answer : Answer → Reading → Reading
after_answer a r = cond (has_failed a) r (after_part r (bytes_of a))

pub record Turned : Type 0 where
  pub after : Reading
  pub more : Bool
  pub failed : Option Error

abbrev pub turned : Turn → Turned
turned (More r) = record { after = r; more = true; failed = None }
turned (Last r e) = record { after = r; more = false; failed = e }

-- there may be more where there was a byte and all were samples
unfoldable pub taken_in : Answer → Reading → Turned
taken_in a r = record { after = after_answer a r; more = ltb 0 (count_of a) && not (is_over (after_answer a r)); failed = failure_of a }
