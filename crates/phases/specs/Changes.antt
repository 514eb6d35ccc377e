-- What a control byte, a read, a reset pulse and a sensor reading come to.
use Rattle.std.specs.Prelude.{cond, not, ◌&&◌, ℕ, eqb}
use Rattle.registers.specs.declared.Chip.{Chip}
use Rattle.registers.specs.Record.{reset_chip, in_phase, with_status, with_last_rs, with_pixels}
use Rattle.phases.specs.Phases.{rs_of, phase_after_control, is_reading}

-- a control byte is followed by what it says, and its RS is kept
unfoldable pub controlled : ℕ → Chip → Chip
controlled b c = with_last_rs (in_phase c (phase_after_control b)) (rs_of b)

-- while reading: the status byte if the last RS is 0; everywhere else 255
unfoldable pub read_byte : Chip → ℕ
read_byte c = cond (is_reading c.phase && not c.last_rs) c.status 255

-- a reset pulse keeps the pins, and the pixels by value, since it keeps the memory; memories and count stand outside the record
unfoldable pub pulsed : Chip → Chip
pulsed c = with_pixels (reset_chip c.pins) c.pixels

-- a sensor reading is taken where SM = 1 and PD = 0
unfoldable pub sensed : ℕ → Chip → Chip
sensed value c = with_status c (cond (eqb c.registers.sm 1 && eqb c.registers.pd 0) value c.status)
