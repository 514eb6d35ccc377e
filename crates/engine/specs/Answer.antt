-- The answers of document 01: an event's refusal by its number, or what the bus gives back for an accepted one. And what the code says of both.
use Rattle.std.specs.Prelude.{ℕ, Result, Ok, Err}
use Rattle.commands.specs.declared.answer.CommandAnswer.{CommandAnswer}
use Rattle.refusals.specs.declared.Refusal.{Refusal}
use Rattle.refusals.specs.Numbers.{number}
use Rattle.engine.specs.declared.answer.Answer.{Answer as Given}
use Rattle.engine.specs.declared.answer.Answer.TheVariants as code

pub data Answer : Type 0 where
  Refused : ℕ → Answer
  Nothing : Answer
  Acknowledged : Answer
  NotAcknowledged : Answer
  Command : CommandAnswer → Answer
  Read : ℕ → Answer

-- to an accepted event
abbrev pub given : Given → Answer
given code.Nothing = Nothing
given code.Acknowledged = Acknowledged
given code.NotAcknowledged = NotAcknowledged
given (code.Command a) = Command a
given (code.Read b) = Read b

-- to any event
abbrev pub told : Result Given Refusal → Answer
told (Ok a) = given a
told (Err r) = Refused (number r)
