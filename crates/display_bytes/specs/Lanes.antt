-- The four counts of pixels in one number of 64 bits, sixteen bits to a value: a lane. A byte that takes another's place moves all four by
-- one sum and one difference, and the highest bit of each lane tells whether a count would go below 0.
use Rattle.std.specs.Prelude.{Bool, cond, ◌&&◌, List, [], ◌∷◌, ◌≡◌, ℕ, ◌+◌, ◌*◌, ◌/◌, ◌%◌, ◌-◌, ◌≤◌, eqb, leb, ltb, get_or}
use Rattle.registers.specs.declared.PixelCounts.{PixelCounts}
use Rattle.registers.specs.declared.Registers.{Registers}
use Rattle.registers.specs.Record.{pixels, by_value}
use Rattle.registers.specs.State.{places}
use Rattle.pixel_counts.specs.Mending.{tally}

-- four lanes, the lowest first
abbrev pub lanes : ℕ → ℕ → ℕ → ℕ → ℕ
lanes a b c d = a + 65536 * b + 4294967296 * c + 281474976710656 * d

abbrev pub packed_of : PixelCounts → ℕ
packed_of n = lanes n.zeros n.ones n.twos n.threes

-- taken apart again
abbrev pub unpacked_of : ℕ → PixelCounts
unpacked_of k = record { zeros = k % 65536; ones = k / 65536 % 65536; twos = k / 4294967296 % 65536; threes = k / 281474976710656 }

-- how many pixels are counted
abbrev pub total : PixelCounts → ℕ
total n = n.zeros + n.ones + n.twos + n.threes

-- a number that holds four counts, of no more pixels than there are
pub record Packed (sum : ℕ) : Type 0 where
  pub apart : sum ≡ packed_of (unpacked_of sum)
  pub low : total (unpacked_of sum) ≤ pixels

-- registers, counts and two memories of so many entries: every place is inside the memories, and the counts can be packed
pub record Ordinary (r : Registers) (n : PixelCounts) (memory writers : ℕ) : Type 0 where
  pub column : r.x ≤ 100
  pub bank : r.y ≤ 16
  pub bytes : memory ≡ places
  pub numbers : writers ≡ places
  pub low : total n ≤ pixels

-- the same as a test
abbrev pub is_ordinary : Registers → PixelCounts → ℕ → ℕ → Bool
is_ordinary r n memory writers = leb r.x 100 && leb r.y 16 && eqb memory places && eqb writers places && leb (total n) pixels

-- ---- what a byte adds

-- the four pixels of a byte, by value
abbrev pub four_pixels : ℕ → PixelCounts
four_pixels b = by_value (λ v. tally 4 v b)

-- two pixels packed, by their four bits: half a byte
abbrev pub two_pixels : List ℕ
two_pixels =
    2 ∷ 65537 ∷ 4294967297 ∷ 281474976710657
    ∷ 65537 ∷ 131072 ∷ 4295032832 ∷ 281474976776192
    ∷ 4294967297 ∷ 4295032832 ∷ 8589934592 ∷ 281479271677952
    ∷ 281474976710657 ∷ 281474976776192 ∷ 281479271677952 ∷ 562949953421312 ∷ []

abbrev pub packed_byte : ℕ → ℕ
packed_byte b = get_or two_pixels (b % 16) 0 + get_or two_pixels (b / 16) 0

-- bank 16, which begins at place 1,616, has three rows: there the two highest bits are dropped from both bytes, so that the fourth pixel has
-- value 0 in both, and as many leave as join
abbrev pub masked : ℕ → ℕ → ℕ
masked place b = cond (ltb place 1616) b (b % 64)

-- ---- one byte for another

-- the highest bit of each lane
abbrev pub guards : ℕ
guards = 9223512776490647552

-- with the guards set; a lane whose count would be below 0 takes its own guard away, and borrows nothing from the next
abbrev pub exchanged : PixelCounts → ℕ → ℕ → ℕ
exchanged n old new = packed_of n + guards + packed_of (four_pixels new) - packed_of (four_pixels old)

-- all four guards are there yet
abbrev pub none_below : ℕ → Bool
none_below k = eqb (k / 32768 % 2) 1 && eqb (k / 2147483648 % 2) 1 && eqb (k / 140737488355328 % 2) 1 && eqb (k / 9223372036854775808) 1
