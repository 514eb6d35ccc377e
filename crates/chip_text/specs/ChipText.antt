-- A chip's record in words, and what the bus has seen: the registers by name, then pins, status byte, last RS and phase, the event count, how many bytes
-- were acknowledged, and how many pixels have each value.
use Rattle.std.specs.Prelude.{Bool, true, false, cond, List, [], ◌∷◌, ◌++◌, ℕ, Result, Ok, Err, get_or}
use Rattle.registers.specs.declared.Chip.{Chip}
use Rattle.registers.specs.declared.Phase.{Phase}
use Rattle.registers.specs.declared.PixelCounts.{PixelCounts}
use Rattle.registers.specs.declared.Phase.TheVariants.{Idle, AddressAwaited, Ignoring, ControlAwaited, OneByte, EndlessBytes, Reading, ReadEnded}
use Rattle.registers.specs.Record.{names, values}
use Rattle.registers.specs.Refusals.{record_refusal}
use Rattle.text.specs.Text.{bytes}
use Rattle.print.specs.Chosen.{line, named_line}
use Rattle.print.specs.Printed.{parts_from, Output, whole_text}
use Rattle.capture.specs.declared.End.{End}
use Rattle.capture.specs.declared.End.TheVariants as ends
use Rattle.capture_trace.specs.declared.tally.Tally.{Tally}
use Rattle.listing.specs.ReplayText.{refused_call}

-- ---- a line each

-- the register at place k of document 01's order, named as drawing lists do, and h, x, y and gr, which they don't set
abbrev pub register_line : ℕ → ℕ → List ℕ
register_line k n = named_line (get_or names k []) n

abbrev pub register_line_at : List ℕ → ℕ → List ℕ
register_line_at vs k = register_line k (get_or vs k 0)

-- all of them, by their values
unfoldable pub register_lines : List ℕ → List ℕ
register_lines vs = parts_from (register_line_at vs) 0 29

abbrev pub bit_of : Bool → ℕ
bit_of t = cond t 1 0

-- RS 0 is a command, RS 1 display data
abbrev pub one_awaited : Bool → List ℕ
one_awaited false = bytes "one command awaited"
one_awaited true = bytes "one display byte awaited"

abbrev pub endless : Bool → List ℕ
endless false = bytes "endless commands"
endless true = bytes "endless display bytes"

unfoldable pub phase_words : Phase → List ℕ
phase_words Idle = bytes "idle"
phase_words AddressAwaited = bytes "address awaited"
phase_words Ignoring = bytes "ignoring"
phase_words ControlAwaited = bytes "control byte awaited"
phase_words (OneByte rs) = one_awaited rs
phase_words (EndlessBytes rs) = endless rs
phase_words Reading = bytes "reading"
phase_words ReadEnded = bytes "read ended"

abbrev pub phase_line : Phase → List ℕ
phase_line p = line (bytes "phase" ∷ phase_words p ∷ [])

-- ---- the whole text

-- the registers, and what the record has beside them
unfoldable pub record_lines : Chip → List ℕ
record_lines c =
    register_lines (values c.registers)
    ++ (named_line (bytes "pins") c.pins
    ++ (named_line (bytes "status") c.status
    ++ named_line (bytes "last rs") (bit_of c.last_rs)))

-- where the bus stands, and what it has seen
unfoldable pub bus_lines : Chip → ℕ → Tally → List ℕ
bus_lines c n t =
    phase_line c.phase
    ++ (named_line (bytes "count") n
    ++ (named_line (bytes "acknowledged") t.acknowledged
    ++ named_line (bytes "not acknowledged") t.not_acknowledged))

-- how many pixels have each value (document 02, W8)
unfoldable pub pixel_lines : PixelCounts → List ℕ
pixel_lines n =
    named_line (bytes "pixels 0") n.zeros
    ++ (named_line (bytes "pixels 1") n.ones
    ++ (named_line (bytes "pixels 2") n.twos
    ++ named_line (bytes "pixels 3") n.threes))

abbrev pub chip_text : Chip → ℕ → Tally → List ℕ
chip_text c n t = record_lines c ++ (bus_lines c n t ++ pixel_lines c.pixels)

-- of a capture that came to an end and was tallied so: the answer, and the buffer. 2: a record that is not allowed
unfoldable pub chip_text_call : Result End ℕ → Tally → List ℕ → Output
chip_text_call (Err k) t out = refused_call [] (Err k) out
chip_text_call (Ok ends.BadFirst) t out = refused_call [] (Ok ends.BadFirst) out
chip_text_call (Ok (ends.Bad c n)) t out = refused_call [] (Ok (ends.Bad c n)) out
chip_text_call (Ok (ends.Whole c n)) t out = whole_text (record_refusal c) (chip_text c n t) out
