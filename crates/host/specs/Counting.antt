-- The call of a counting start, and when the words of a record have true counts of pixels.
use Rattle.std.specs.Prelude.{Result, Ok, Err, List, ◌≡◌, ℕ}
use Rattle.registers.specs.declared.PixelCounts.{PixelCounts}
use Rattle.pixel_counts.specs.Counts.{counts_of, counting_start}
use Rattle.record_words.specs.Words.{pixels_of}

-- ---- pcf8820_counts

-- the number given back, and how many pixels have each value
pub record Counts : Type 0 where
  pub number : ℕ
  pub zeros : ℕ
  pub ones : ℕ
  pub twos : ℕ
  pub threes : ℕ

abbrev pub counts : ℕ → ℕ → ℕ → ℕ → ℕ → Counts
counts r n0 n1 n2 n3 = record { number = r; zeros = n0; ones = n1; twos = n2; threes = n3 }

abbrev pub told : Result PixelCounts ℕ → Counts
told (Ok n) = counts 0 n.zeros n.ones n.twos n.threes
told (Err r) = counts r 0 0 0 0

unfoldable pub counts_call : List ℕ → Counts
counts_call m = told (counting_start m)

-- ---- words 34 to 37 of a record

-- they are those of this memory
abbrev pub TrueWords : List ℕ → List ℕ → Type 0
TrueWords ws m = pixels_of ws ≡ counts_of m
