-- The pixels of a byte by value, packed as the code takes them: four bits for each value, so that one sum counts all four.
use Rattle.std.specs.Prelude.{ℕ, zero, suc, ◌+◌, ◌/◌, ◌%◌, ◌^◌}
use Rattle.registers.specs.declared.PixelCounts.{PixelCounts}
use Rattle.glass.specs.Pixel.{value_in}
use Rattle.pixel_counts.specs.Mending.{pixels_at}

-- 1 for each pixel of value 0 among the lowest k, 16 of value 1, 256 of value 2, 4,096 of value 3
unfoldable pub packed : ℕ → ℕ → ℕ
packed zero b = 0
packed (suc k) b = 16 ^ value_in b k + packed k b

-- of a byte at this place
abbrev pub packed_at : ℕ → ℕ → ℕ
packed_at place b = packed (pixels_at place) b

-- the sum taken apart
abbrev pub unpacked : ℕ → PixelCounts
unpacked sum = record { zeros = sum % 16; ones = sum / 16 % 16; twos = sum / 256 % 16; threes = sum / 4096 }
