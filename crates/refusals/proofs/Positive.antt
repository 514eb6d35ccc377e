-- No refusal has the number 0, which stands for none.
use Rattle.std.proofs.Common.{◌<◌, lit<}
use Rattle.refusals.specs.declared.Refusal.{Refusal}
use Rattle.refusals.specs.declared.Refusal.TheVariants.{MemoryLength, Record, UnlistedEvent, FullCount, OutsideGlass, MalformedLine, NumberOutOfRange, UnreadableRow, TooManyLines, ShortOutput, RowLength, CannotShare, SensorPins, NoSample, NoRoomForEvent, PixelCounts}
use Rattle.refusals.specs.Numbers.{number}

pub positive : (r : Refusal) → 0 < number r
positive MemoryLength = lit< tt
positive Record = lit< tt
positive UnlistedEvent = lit< tt
positive FullCount = lit< tt
positive OutsideGlass = lit< tt
positive MalformedLine = lit< tt
positive NumberOutOfRange = lit< tt
positive UnreadableRow = lit< tt
positive TooManyLines = lit< tt
positive ShortOutput = lit< tt
positive RowLength = lit< tt
positive CannotShare = lit< tt
positive SensorPins = lit< tt
positive NoSample = lit< tt
positive NoRoomForEvent = lit< tt
positive PixelCounts = lit< tt
