-- What is made of the events that a capture does: a line for each of them, and how many bytes were acknowledged.
use Rattle.std.specs.Prelude.{Bool, true, false, cond, List, [], ◌∷◌, ℕ, ◌+◌, ◌-◌, ◌^◌, ltb}
use Rattle.registers.specs.declared.Chip.{Chip}
use Rattle.chip.specs.Promised.{Answer, Refused, Nothing, Acknowledged, NotAcknowledged, Command, Read, step_of}
use Rattle.print.specs.Chosen.{lines_of}
use Rattle.event_words.specs.Line.{event_line}
use Rattle.capture_trace.specs.declared.tally.Tally.{Tally}
use Rattle.capture_trace.specs.Done.{DoneEvent}

-- ---- the answer to an event that was done, and its line

abbrev pub answer_to : DoneEvent → Answer
answer_to d = (step_of d.event d.before).answer

abbrev pub line_for : DoneEvent → List ℕ
line_for d = event_line d.event d.before.chip d.before.count (answer_to d)

-- the lines, where they are asked for
abbrev pub told_line : Bool → ℕ → Chip → ℕ → Answer → List ℕ
told_line true e c n a = event_line e c n a
told_line false e c n a = []

abbrev pub told_lines : Bool → List DoneEvent → List ℕ
told_lines true ds = lines_of line_for ds
told_lines false ds = []

-- ---- how many bytes from the master were acknowledged, and how many not

abbrev pub tally : ℕ → ℕ → Tally
tally n m = record { acknowledged = n; not_acknowledged = m }

abbrev pub none_tallied : Tally
none_tallied = tally 0 0

-- one more, as far as a machine word counts
abbrev pub one_more : ℕ → ℕ
one_more n = cond (ltb n (2 ^ 64 - 1)) (n + 1) n

abbrev pub with_acknowledge : Tally → Tally
with_acknowledge t = tally (one_more t.acknowledged) t.not_acknowledged

abbrev pub without_acknowledge : Tally → Tally
without_acknowledge t = tally t.acknowledged (one_more t.not_acknowledged)

-- a command is acknowledged whether it is taken or not; what is no byte from the master has no acknowledge
unfoldable pub tallied : Answer → Tally → Tally
tallied (Refused k) t = t
tallied Nothing t = t
tallied Acknowledged t = with_acknowledge t
tallied NotAcknowledged t = without_acknowledge t
tallied (Command a) t = with_acknowledge t
tallied (Read b) t = t

abbrev pub tallied_over : List DoneEvent → Tally → Tally
tallied_over [] t = t
tallied_over (d ∷ ds) t = tallied_over ds (tallied (answer_to d) t)
