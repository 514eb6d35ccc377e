-- What the cells of the listing are, place by place: which cells are listed, and in which order.
use Rattle.std.specs.Prelude.{List, ◌⊎◌, ◌≡◌, ℕ, ◌+◌, ◌*◌, ◌≤◌, ◌<◌, get_or}
use Rattle.listing.specs.Listing.{Cell}

-- a cell with a writer: its byte and its writer number are those at place 101·bank + column
pub record WrittenCell (memory writers : List ℕ) (c : Cell) : Type 0 where
  pub column_there : c.column ≤ 100
  pub bank_there : c.bank ≤ 16
  pub written : c.event ≡ 0 → ⊥
  pub writer : get_or writers (101 * c.bank + c.column) 0 ≡ c.event
  pub stored : get_or memory (101 * c.bank + c.column) 0 ≡ c.byte

-- by bank, then column
abbrev pub Before : Cell → Cell → Type 0
Before c d = (c.bank < d.bank) ⊎ ((c.bank ≡ d.bank) × (c.column < d.column))
