-- Display bytes (document 01): what is stored, at which place, how the address counter moves on, and what comes of the pixels by value.
use Rattle.std.specs.Prelude.{Bool, cond, List, ℕ, ◌+◌, ◌*◌, ◌%◌, ◌-◌, ltb, eqb, get_or}
use Rattle.registers.specs.declared.PixelCounts.{PixelCounts}
use Rattle.registers.specs.declared.Registers.{Registers}
use Rattle.registers.specs.Places.{X, Y}
use Rattle.registers.specs.Record.{put}
use Rattle.registers.specs.Reversed.{ordered}
use Rattle.pixel_counts.specs.Mending.{mendable, mended}

-- after the swap of DO = 1, bank 16 keeps six bits
abbrev pub kept : ℕ → ℕ → ℕ
kept bank b = cond (eqb bank 16) (b % 64) b

unfoldable pub stored_of : Registers → ℕ → ℕ
stored_of r b = kept r.y (ordered r.data_order b)

-- MX = 1 writes from the right
unfoldable pub column_of : Registers → ℕ
column_of r = cond (eqb r.mx 1) (100 - r.x) r.x

unfoldable pub place_of : Registers → ℕ
place_of r = 101 * r.y + column_of r

-- the number after n, with 0 after the last
abbrev pub next : ℕ → ℕ → ℕ
next n last = cond (ltb n last) (n + 1) 0

-- a second number m moves on only where the first, n, goes back to 0
abbrev pub next_on_wrap : ℕ → ℕ → ℕ → ℕ → ℕ
next_on_wrap n last m mLast = cond (ltb n last) m (next m mLast)

-- V = 0 counts along a bank, V = 1 along a column
abbrev pub next_x : ℕ → ℕ → ℕ → ℕ
next_x v x y = cond (eqb v 1) (next_on_wrap y 16 x 100) (next x 100)

abbrev pub next_y : ℕ → ℕ → ℕ → ℕ
next_y v x y = cond (eqb v 1) (next y 16) (next_on_wrap x 100 y 16)

unfoldable pub next_address : Registers → Registers
next_address r = put Y (next_y r.v r.x r.y) (put X (next_x r.v r.x r.y) r)

-- ---- the pixels by value (document 02, W8): those of the byte that stood at the address leave, those of the byte as it is stored join

-- there are such counts
unfoldable pub pixels_fit : Registers → PixelCounts → List ℕ → ℕ → Bool
pixels_fit r n m b = mendable n (place_of r) (get_or m (place_of r) 0) (stored_of r b)

-- the counts after that
unfoldable pub pixels_after : Registers → PixelCounts → List ℕ → ℕ → PixelCounts
pixels_after r n m b = mended n (place_of r) (get_or m (place_of r) 0) (stored_of r b)
