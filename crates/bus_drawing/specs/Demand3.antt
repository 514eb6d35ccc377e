-- Demand 3 on a bus, undivided (document 02, W6): what a drawing list's events do to the chip that they are for is what the list says, and the
-- other chips are left alone.
use Rattle.std.specs.Prelude.{true, List, ◌≡◌, ℕ, ◌+◌, ◌^◌, ◌<◌, get_or, length, take}
use Rattle.registers.specs.declared.Chip.{Chip}
use Rattle.chip.specs.Promised.{TrueCounts}
use Rattle.lists.specs.declared.Line.{Line}
use Rattle.lists.specs.Lists.{lines, reading_of}
use Rattle.drawing.specs.Plain.{picture_of, plain_reading}
use Rattle.bus.specs.Bus.{Bus}
use Rattle.bus.specs.Plays.{GoodOnBus, OthersKept}
use Rattle.bus.specs.Refusals.{BusFit}
use Rattle.bus.specs.Streams.{Sent, sent, events_of, bus_played, bus_before, device_with, is_on, chip_on}

-- the events xs of the lines ls, played on the bus for the chip with pins p
pub record DrawnOnBus (ls : List Line) (xs : List Sent) (p : ℕ) (b : Bus) : Type 0 where
  -- no event is refused, the bus acknowledges every byte, and answers every command byte that it is taken
  pub all-good : (i : ℕ) → i < length xs → GoodOnBus p (get_or xs i (sent 0 0)) (bus_before xs i b)
  -- that chip's display memory, and every register of it but H, X and Y, are those of the list's plain reading
  pub same-picture : picture_of (chip_on p (bus_played xs b)) ≡ plain_reading ls (picture_of (chip_on p b))
  -- every other chip's record but for the phase, its memory and its writers are as they were
  pub others_kept : OthersKept p b (bus_played xs b)
  -- the bus has counted each event
  pub count_after : (bus_played xs b).count ≡ b.count + length xs
  -- that chip's counts of pixels are true then
  pub true_counts : TrueCounts (chip_on p (bus_played xs b))

-- the text has a plain reading, and the output's first n events, whatever pins are sent beside them, draw it on every bus that 1, 2 and 12 let pass
-- and that has a chip with the record it was compiled for, with true counts of its pixels, whatever the others', from any count that has room for them
pub record DrawsOnBus (c : Chip) (text : List ℕ) (n : ℕ) (out : List ℕ) : Type 0 where
  pub list : List Line
  pub reads : reading_of text ≡ lines list
  pub plays :
      (b : Bus) → BusFit b.devices → is_on c.pins b.devices ≡ true → (device_with c.pins b.devices).chip ≡ c
      → TrueCounts (chip_on c.pins b) → b.count + n < 2 ^ 64 → (xs : List Sent) → events_of xs ≡ take n out → DrawnOnBus list xs c.pins b
