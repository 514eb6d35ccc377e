-- The two calls of a C host for the pulses of the four frames: what each gives back, and the row buffer, for every input.
use Rattle.std.specs.Prelude.{cond, List, ℕ, length}
use Rattle.registers.specs.State.{places}
use Rattle.registers.specs.Refusals.{◌then◌}
use Rattle.record_words.specs.Words.{stands_for, chip_of}
use Rattle.pulses.specs.Pulse.{pulses_of}
use Rattle.pulses.specs.Answer.{pulses_number}
use Rattle.pulses.specs.Row.{buffer_refusal, PulseRow, pulse_row, row_of}
use Rattle.host.specs.Calls.{no_record_for}
use Rattle.host.specs.Views.{glass_refusal}

-- pcf8820_pulses
unfoldable pub pulses_call : ℕ → ℕ → List ℕ → List ℕ → ℕ
pulses_call row column ws m = cond (stands_for ws) (pulses_number (pulses_of (chip_of ws) m row column)) (no_record_for (length m) places)

-- pcf8820_pulse_row
unfoldable pub pulse_row_call : ℕ → List ℕ → List ℕ → List ℕ → PulseRow
pulse_row_call row ws m out = cond (stands_for ws) (row_of (chip_of ws) m row out) (pulse_row (no_record_for (length m) places) out)

-- exactly when the row is refused, read off what the host lends: as the glass is, then 11; 0 is none. A pixel's pulses are refused as the glass is
abbrev pub row_refusal : ℕ → List ℕ → List ℕ → List ℕ → ℕ
row_refusal row ws m out = glass_refusal row 0 ws m then buffer_refusal (length out)
