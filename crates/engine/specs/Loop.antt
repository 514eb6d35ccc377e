-- How the code of a run goes through its events: what it makes of an event apart from what the event does.
use Rattle.std.specs.Prelude.{Bool, cond, ◌&&◌, [], ℕ, zero, suc, ◌+◌, ltb}
use Rattle.registers.specs.declared.Chip.{Chip}
use Rattle.registers.specs.declared.Phase.{Phase}
use Rattle.registers.specs.declared.Registers.{Registers}
use Rattle.registers.specs.Record.{reset_registers}
use Rattle.registers.specs.State.{state}
use Rattle.commands.specs.declared.answer.CommandAnswer.{CommandAnswer}
use Rattle.commands.specs.declared.answer.CommandAnswer.TheVariants.{Taken, Unknown, OutOfRange}
use Rattle.phases.specs.Phases.{awaits_content, is_endless}
use Rattle.engine.specs.Answer.{Answer, Refused, Nothing, Acknowledged, NotAcknowledged, Command, Read}
use Rattle.engine.specs.declared.event.Event.{Event}
use Rattle.engine.specs.declared.event.Event.TheVariants.{Byte, Start, Stop, ReadAcknowledged, ReadNotAcknowledged, Reset, Sensor, Unlisted}
use Rattle.engine.specs.Step.{applied}

-- content comes: a command or display data
abbrev pub brings_content : ℕ → Phase → Bool
brings_content e p = ltb e 256 && awaits_content p

-- the place behind the last byte that can come as the same content: the end of the events, or one byte
abbrev pub content_end : Phase → ℕ → ℕ → ℕ
content_end p here end = cond (is_endless p) end (here + 1)

-- of an event that brings no content, only a reset pulse changes registers
abbrev pub registers_upon : Event → Registers → Registers
registers_upon (Byte b) r = r
registers_upon Start r = r
registers_upon Stop r = r
registers_upon ReadAcknowledged r = r
registers_upon ReadNotAcknowledged r = r
registers_upon Reset r = reset_registers
registers_upon (Sensor value) r = r
registers_upon Unlisted r = r

-- the answer to an event that is not refused: it goes by the chip alone
abbrev pub answer_of : Event → Chip → Answer
answer_of e c = (applied e (state c [] [] 0)).answer

-- the same answer, but a command's is this one
abbrev pub commanded_by : CommandAnswer → Answer → Answer
commanded_by a (Refused n) = Refused n
commanded_by a Nothing = Nothing
commanded_by a Acknowledged = Acknowledged
commanded_by a NotAcknowledged = NotAcknowledged
commanded_by a (Command b) = Command a
commanded_by a (Read b) = Read b

-- how a single command was answered, by whether it counts as unknown and as out of range
abbrev pub command_answered : ℕ → ℕ → CommandAnswer
command_answered zero zero = Taken
command_answered zero (suc o) = OutOfRange
command_answered (suc u) o = Unknown
