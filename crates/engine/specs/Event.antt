-- The bus events of document 01 by their 16-bit numbers, and the answers by theirs.
use Rattle.std.specs.Prelude.{Bool, true, false, cond, ℕ, ◌+◌, ◌-◌, ltb, eqb}
use Rattle.engine.specs.declared.event.Event.{Event}
use Rattle.engine.specs.declared.event.Event.TheVariants.{Byte, Start, Stop, ReadAcknowledged, ReadNotAcknowledged, Reset, Sensor, Unlisted}
use Rattle.engine.specs.Answer.{Answer, Refused, Nothing, Acknowledged, NotAcknowledged, Command, Read}
use Rattle.commands.specs.declared.answer.CommandAnswer.{CommandAnswer}
use Rattle.commands.specs.Command.{command_number, counts}

abbrev pub event_of : ℕ → Event
event_of n =
    cond (ltb n 256) (Byte n)
    (cond (eqb n 256) Start
    (cond (eqb n 257) Stop
    (cond (eqb n 258) ReadAcknowledged
    (cond (eqb n 259) ReadNotAcknowledged
    (cond (eqb n 260) Reset
    (cond (ltb n 512) Unlisted
    (cond (ltb n 768) (Sensor (n - 512))
    Unlisted)))))))

abbrev pub is_byte : Event → Bool
is_byte (Byte b) = true
is_byte Start = false
is_byte Stop = false
is_byte ReadAcknowledged = false
is_byte ReadNotAcknowledged = false
is_byte Reset = false
is_byte (Sensor s) = false
is_byte Unlisted = false

-- the number of each answer: a refusal's is that of document 01's table, the others are the host's
abbrev pub number_of : Answer → ℕ
number_of (Refused n) = n
number_of Nothing = 256
number_of Acknowledged = 257
number_of NotAcknowledged = 258
number_of (Command a) = command_number a
number_of (Read b) = 512 + b

-- the answers by which the chip acknowledges a byte
unfoldable pub is_acknowledged : Answer → Bool
is_acknowledged (Refused n) = false
is_acknowledged Nothing = false
is_acknowledged Acknowledged = true
is_acknowledged NotAcknowledged = false
is_acknowledged (Command a) = true
is_acknowledged (Read b) = false

-- 1 where it is this answer to a command, 0 where it is another answer
abbrev pub counts_as : CommandAnswer → Answer → ℕ
counts_as k (Refused n) = 0
counts_as k Nothing = 0
counts_as k Acknowledged = 0
counts_as k NotAcknowledged = 0
counts_as k (Command a) = counts k a
counts_as k (Read b) = 0
