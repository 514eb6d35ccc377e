-- A stretch of display bytes: events in order, each a byte that comes as display data, up to the first that is none or is refused.
use Rattle.std.specs.Prelude.{Bool, cond, not, ◌&&◌, List, [], ◌∷◌, ℕ, ◌+◌, ◌-◌, ◌^◌, eqb, ltb, set}
use Rattle.registers.specs.declared.PixelCounts.{PixelCounts}
use Rattle.registers.specs.declared.Registers.{Registers}
use Rattle.registers.specs.Places.{X, Y}
use Rattle.registers.specs.Record.{put}
use Rattle.display.specs.Display.{stored_of, place_of, next_address, pixels_fit, pixels_after}

-- how many events are done, those that are left, and what the done ones came to; the count is the number of the last one
pub record Stretched : Type 0 where
  pub done : ℕ
  pub left : List ℕ
  pub registers : Registers
  pub pixels : PixelCounts
  pub memory : List ℕ
  pub writers : List ℕ
  pub count : ℕ

abbrev pub stretched : ℕ → List ℕ → Registers → PixelCounts → List ℕ → List ℕ → ℕ → Stretched
stretched k es r n m w count = record { done = k; left = es; registers = r; pixels = n; memory = m; writers = w; count = count }

-- a byte, which neither 4 nor 16 refuses
unfoldable pub taken : ℕ → Registers → PixelCounts → List ℕ → ℕ → Bool
taken e r n m count = ltb e 256 && (not (eqb count (2 ^ 64 - 1)) && pixels_fit r n m e)

-- the events that are left, k being done: each taken one is stored with its number, the address moves on, and the pixels by value are mended
unfoldable pub stretch_from : ℕ → List ℕ → Registers → PixelCounts → List ℕ → List ℕ → ℕ → Stretched
stretch_from k [] r n m w count = stretched k [] r n m w count
stretch_from k (e ∷ es) r n m w count =
    cond (taken e r n m count)
    (stretch_from (k + 1) es (next_address r) (pixels_after r n m e) (set m (place_of r) (stored_of r e)) (set w (place_of r) (count + 1)) (count + 1))
    (stretched k (e ∷ es) r n m w count)

-- the registers with the address at this column and bank
abbrev pub addressed : Registers → ℕ → ℕ → Registers
addressed r x y = put Y y (put X x r)

-- how many of so many events get a number, where the count stands at this one
abbrev pub room_for : ℕ → ℕ → ℕ
room_for count events = cond (ltb (2 ^ 64 - 1 - count) events) (2 ^ 64 - 1 - count) events
