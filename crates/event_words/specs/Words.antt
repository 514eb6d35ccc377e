-- What a bus event is, in words, by the chip as it stands before it; and how it is answered.
use Rattle.std.specs.Prelude.{Bool, true, false, cond, List, [], ◌∷◌, ◌++◌, ℕ, ◌/◌, ◌%◌, eqb, get_or}
use Rattle.registers.specs.declared.Chip.{Chip}
use Rattle.registers.specs.declared.Phase.{Phase}
use Rattle.registers.specs.declared.Phase.TheVariants.{Idle, AddressAwaited, Ignoring, ControlAwaited, OneByte, EndlessBytes, Reading, ReadEnded}
use Rattle.registers.specs.declared.Registers.{Registers}
use Rattle.registers.specs.Data.{target_number, place_of}
use Rattle.registers.specs.Record.{names, values}
use Rattle.registers.specs.Table.{Part, rows, no_row, value, row_at}
use Rattle.text.specs.Text.{bytes}
use Rattle.print.specs.Printed.{decimal_of}
use Rattle.phases.specs.Phases.{rs_of}
use Rattle.display.specs.Display.{column_of, stored_of}
use Rattle.commands.specs.declared.answer.CommandAnswer.{CommandAnswer}
use Rattle.commands.specs.declared.answer.CommandAnswer.TheVariants.{Taken, Unknown, OutOfRange}
use Rattle.engine.specs.Answer.{Answer, Refused, Nothing, Acknowledged, NotAcknowledged, Command, Read}
use Rattle.engine.specs.declared.event.Event.{Event}
use Rattle.engine.specs.declared.event.Event.TheVariants.{Byte, Start, Stop, ReadAcknowledged, ReadNotAcknowledged, Reset, Sensor, Unlisted}
use Rattle.engine.specs.Event.{event_of}

-- ---- an address byte: its high seven bits, and the direction in the lowest

abbrev pub direction : ℕ → List ℕ
direction b = cond (eqb (b % 2) 0) (bytes " write") (bytes " read")

abbrev pub address_words : ℕ → List ℕ
address_words b = bytes "address " ++ (decimal_of (b / 2) ++ direction b)

-- ---- a control byte: what it announces, by Co and RS

abbrev pub announced : Bool → Bool → List ℕ
announced true false = bytes "control one command"
announced true true = bytes "control one display byte"
announced false false = bytes "control endless commands"
announced false true = bytes "control endless display bytes"

abbrev pub control_words : ℕ → List ℕ
control_words b = announced (eqb (b / 128) 1) (rs_of b)

-- ---- a display byte: the cell's column and bank, and the byte as it is stored there

unfoldable pub display_words : Registers → ℕ → List ℕ
display_words r b = bytes "display " ++ (decimal_of (column_of r) ++ 32 ∷ (decimal_of r.y ++ 32 ∷ decimal_of (stored_of r b)))

-- ---- a command byte: the fields of its row, from the high end

-- the name of the register that a part sets, the grey one by its own name, and the number in its bits
abbrev pub field_words : Registers → ℕ → Part → List ℕ
field_words r b p = 32 ∷ (get_or names (place_of (target_number p.target) (values r)) [] ++ 32 ∷ decimal_of (value p b))

abbrev pub fields_words : Registers → ℕ → List Part → List ℕ
fields_words r b [] = []
fields_words r b (p ∷ ps) = field_words r b p ++ fields_words r b ps

-- of row i. NOP, page return and the swap of row blocks set no register that their bits name; a byte of no row has nothing more to it
abbrev pub row_words : Registers → ℕ → ℕ → List ℕ
row_words r b i =
    cond (eqb i 0) (bytes " nop")
    (cond (eqb i 1) (bytes " page return")
    (cond (eqb i 20) (bytes " row block swap")
    (fields_words r b (get_or rows i no_row).parts)))

unfoldable pub command_words : Registers → ℕ → List ℕ
command_words r b = bytes "command" ++ row_words r b (row_at r.h b)

-- ---- a byte from the master, by the phase of the bus

-- a command where RS is 0, display data where it is 1
abbrev pub content_words : Bool → Registers → ℕ → List ℕ
content_words false r b = command_words r b
content_words true r b = display_words r b

abbrev pub ignored : List ℕ
ignored = bytes "ignored"

unfoldable pub byte_words : Phase → Registers → ℕ → List ℕ
byte_words Idle r b = ignored
byte_words AddressAwaited r b = address_words b
byte_words Ignoring r b = ignored
byte_words ControlAwaited r b = control_words b
byte_words (OneByte rs) r b = content_words rs r b
byte_words (EndlessBytes rs) r b = content_words rs r b
byte_words Reading r b = ignored
byte_words ReadEnded r b = ignored

-- ---- every event

abbrev pub sensor_words : ℕ → List ℕ
sensor_words n = bytes "sensor " ++ decimal_of n

-- one that is not listed is refused, and nothing is said of it
unfoldable pub event_words : Event → Chip → List ℕ
event_words (Byte b) c = byte_words c.phase c.registers b
event_words Start c = bytes "start"
event_words Stop c = bytes "stop"
event_words ReadAcknowledged c = bytes "read"
event_words ReadNotAcknowledged c = bytes "last read"
event_words Reset c = bytes "reset"
event_words (Sensor n) c = sensor_words n
event_words Unlisted c = []

abbrev pub what_of : ℕ → Chip → List ℕ
what_of e c = event_words (event_of e) c

-- ---- its answer

abbrev pub command_answer_words : CommandAnswer → List ℕ
command_answer_words Taken = bytes "taken"
command_answer_words Unknown = bytes "unknown"
command_answer_words OutOfRange = bytes "out of range"

abbrev pub refused_words : ℕ → List ℕ
refused_words k = bytes "refused " ++ decimal_of k

unfoldable pub answer_words : Answer → List ℕ
answer_words (Refused k) = refused_words k
answer_words Nothing = bytes "-"
answer_words Acknowledged = bytes "acknowledged"
answer_words NotAcknowledged = bytes "not acknowledged"
answer_words (Command a) = command_answer_words a
answer_words (Read b) = decimal_of b
