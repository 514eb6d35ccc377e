-- What a replayed capture leaves in a cell, in the words of the chip's last writer.
use Rattle.std.specs.Prelude.{List, ◌⊎◌, ℕ, length, replicate}
use Rattle.registers.specs.State.{State, places}
use Rattle.chip.specs.LastWriter.{Untouched, Written}
use Rattle.capture.specs.Replay.{started}

-- either memory as a capture starts
abbrev pub zeros : List ℕ
zeros = replicate places 0

abbrev pub start : ℕ → State
start pins = started pins zeros zeros

-- no event of the capture was stored at place k, and byte and writer are 0 as at the start; or the last that was left its stored byte there, and its
-- number from 1
abbrev pub CellAfter : ℕ → List ℕ → State → ℕ → Type 0
CellAfter pins es end k = Untouched es (length es) (start pins) end k ⊎ Written es (length es) (start pins) end k
