-- The counts mended where one byte takes the place of another (document 02, W8): the pixels of the old byte leave, those of the new one join.
use Rattle.std.specs.Prelude.{Bool, cond, ◌&&◌, ◌⊎◌, ℕ, zero, suc, ◌+◌, ◌-◌, ◌≤◌, ◌<◌, leb, ltb}
use Rattle.registers.specs.declared.PixelCounts.{PixelCounts}
use Rattle.registers.specs.Record.{pixels, count_for, by_value}
use Rattle.glass.specs.Pixel.{value_in}
use Rattle.pixel_counts.specs.Counts.{of_value}

-- of the lowest k pixels of a byte, those of value v
unfoldable pub tally : ℕ → ℕ → ℕ → ℕ
tally zero v b = 0
tally (suc k) v b = of_value v (value_in b k) + tally k v b

-- a bank has four rows, bank 16, which begins at place 1,616, three: bits 6 and 7 of its bytes are on no row of the glass
abbrev pub pixels_at : ℕ → ℕ
pixels_at place = cond (ltb place 1616) 4 3

-- those of value v that byte b has on the glass, where it stands at this place
unfoldable pub shown : ℕ → ℕ → ℕ → ℕ
shown v place b = tally (pixels_at place) v b

-- ---- a count that `left` pixels leave and `joined` pixels join

-- it would not be below 0, nor above all pixels
abbrev pub fits : ℕ → ℕ → ℕ → Bool
fits n left joined = leb left (n + joined) && leb (n + joined) (pixels + left)

-- the count after that; where there is no such count it stays, and the event was refused before
abbrev pub moved : ℕ → ℕ → ℕ → ℕ
moved n left joined = cond (fits n left joined) (n + joined - left) n

-- of all four values
abbrev pub all_fit : PixelCounts → PixelCounts → PixelCounts → Bool
all_fit n left joined =
    fits n.zeros left.zeros joined.zeros
    && fits n.ones left.ones joined.ones
    && fits n.twos left.twos joined.twos
    && fits n.threes left.threes joined.threes

abbrev pub all_moved : PixelCounts → PixelCounts → PixelCounts → PixelCounts
all_moved n left joined = by_value (λ v. moved (count_for n v) (count_for left v) (count_for joined v))

-- ---- byte `new` takes the place of byte `old`: what the one showed leaves, what the other shows joins, judged by the whole byte

unfoldable pub mendable : PixelCounts → ℕ → ℕ → ℕ → Bool
mendable n place old new = all_fit n (by_value (λ v. shown v place old)) (by_value (λ v. shown v place new))

unfoldable pub mended : PixelCounts → ℕ → ℕ → ℕ → PixelCounts
mended n place old new = all_moved n (by_value (λ v. shown v place old)) (by_value (λ v. shown v place new))

-- ---- the same in words

-- the count of value v would be a number from 0 to all pixels
pub record StaysIn (n : PixelCounts) (place old new v : ℕ) : Type 0 where
  pub not-below : shown v place old ≤ count_for n v + shown v place new
  pub not-above : count_for n v + shown v place new ≤ pixels + shown v place old

-- that of some value would be below 0 or above all pixels
pub record GoesOut (n : PixelCounts) (place old new : ℕ) : Type 0 where
  pub value : ℕ
  pub is_value : value < 4
  pub out :
      (count_for n value + shown value place new < shown value place old) ⊎ (pixels + shown value place old < count_for n value + shown value place new)
