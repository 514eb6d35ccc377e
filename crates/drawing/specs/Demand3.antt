-- Demand 3, undivided (document 01, "Playing"): what a drawing list's events do to a chip is what the list says.
use Rattle.std.specs.Prelude.{List, ◌≡◌, ℕ, ◌+◌, ◌^◌, ◌<◌, get_or, length, take}
use Rattle.registers.specs.declared.Chip.{Chip}
use Rattle.registers.specs.State.{State, state}
use Rattle.chip.specs.LastWriter.{before}
use Rattle.chip.specs.Plays.{Good, played}
use Rattle.chip.specs.Promised.{Fit, TrueCounts, run_of, outcome}
use Rattle.chip.specs.Promised.{Unknown, OutOfRange, tally}
use Rattle.lists.specs.declared.Line.{Line}
use Rattle.lists.specs.Lists.{lines, reading_of}
use Rattle.drawing.specs.Plain.{picture_of, plain_reading}

-- the events es of the lines ls, played to the chip of s one after the other
pub record Demand3 (ls : List Line) (es : List ℕ) (s : State) : Type 0 where
  -- no event is refused, every byte is acknowledged, and every command byte is taken
  pub all-good : (i : ℕ) → i < length es → Good (get_or es i 0) (before es i s)
  -- the display memory, and every register but H, X and Y, are those of the list's plain reading
  pub same-picture : picture_of (played es s) ≡ plain_reading ls (picture_of s)
  -- the run over the same events ends in the same record, memories and count, and does them all
  pub same_run : run_of es s ≡ outcome (length es) 0 (played es s)
  -- and counts no unknown command, and none out of range
  pub none_unknown : tally Unknown es s ≡ 0
  pub none_out_of_range : tally OutOfRange es s ≡ 0
  -- and the counts of pixels are true then
  pub true_counts : TrueCounts (played es s)

-- the text has a plain reading, and the output's first n events play it on the record it was compiled for: with any two memories that 1 lets
-- pass, the record being one that 2 lets pass, with true counts of pixels, and from any count that has room for them
pub record Draws (c : Chip) (text : List ℕ) (n : ℕ) (out : List ℕ) : Type 0 where
  pub list : List Line
  pub reads : reading_of text ≡ lines list
  pub plays : (m w : List ℕ) (count : ℕ) → Fit (state c m w count) → TrueCounts (state c m w count) → count + n < 2 ^ 64 → Demand3 list (take n out) (state c m w count)
