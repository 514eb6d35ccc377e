-- What the listing of a replay says of the capture.
use mathlib.Core.List.{List, ◌++◌, Memᴰ}
use Rattle.std.specs.Prelude.{◌↔◌, ◌≡◌, ℕ, ◌+◌, ◌*◌, ◌≤◌, length}
use Rattle.chip.specs.LastWriter.{LastStored, stored_byte}
use Rattle.capture.specs.Cells.{start}
use Rattle.print.specs.Chosen.{InOrder}
use Rattle.listing.specs.Listing.{Cell, header, cells_text}
use Rattle.listing.specs.Order.{Before}

-- the capture's n-th event, n being the cell's, is the last display byte stored at the cell, and left the cell's byte there
pub record NamesLastWriter (pins : ℕ) (es : List ℕ) (c : Cell) : Type 0 where
  pub column_there : c.column ≤ 100
  pub bank_there : c.bank ≤ 16
  pub last : LastStored es (length es) (start pins) (101 * c.bank + c.column)
  pub numbered : c.event ≡ last.event + 1
  pub byte : c.byte ≡ stored_byte last

-- the text is the header and a line for each cell that names its last writer, and no others, by bank, then column
pub record ListsLastWriters (pins : ℕ) (es text : List ℕ) : Type 0 where
  pub cells : List Cell
  pub is_text : text ≡ header ++ cells_text cells
  pub in_order : InOrder Before cells
  pub exactly : (c : Cell) → Memᴰ c cells ↔ NamesLastWriter pins es c
