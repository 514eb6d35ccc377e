-- The refusals by document 01's numbers. 0 is none.
use Rattle.std.specs.Prelude.{ℕ, Option, None, Some, Result, Ok, Err}
use Rattle.refusals.specs.declared.Refusal.{Refusal}
use Rattle.refusals.specs.declared.Refusal.TheVariants.{MemoryLength, Record, UnlistedEvent, FullCount, OutsideGlass, MalformedLine, NumberOutOfRange, UnreadableRow, TooManyLines, ShortOutput, RowLength, CannotShare, SensorPins, NoSample, NoRoomForEvent, PixelCounts}

abbrev pub number : Refusal → ℕ
number MemoryLength = 1
number Record = 2
number UnlistedEvent = 3
number FullCount = 4
number OutsideGlass = 5
number MalformedLine = 6
number NumberOutOfRange = 7
number UnreadableRow = 8
number TooManyLines = 9
number ShortOutput = 10
number RowLength = 11
number CannotShare = 12
number SensorPins = 13
number NoSample = 14
number NoRoomForEvent = 15
number PixelCounts = 16

-- of what may have been refused
abbrev pub number_of : Option Refusal → ℕ
number_of None = 0
number_of (Some r) = number r

-- of a call that gives nothing else back
abbrev pub refused_by : Result (Unit {0}) Refusal → ℕ
refused_by (Ok u) = 0
refused_by (Err r) = number r

-- what a call gives back, or the number of its refusal
abbrev pub numbered : {A : Type 0} → Result A Refusal → Result A ℕ
numbered (Ok a) = Ok a
numbered (Err r) = Err (number r)
