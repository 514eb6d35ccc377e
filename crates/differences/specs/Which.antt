-- Which cells and registers differ, in the words of document 02, W1: proofs/Laws.antt holds the text against it.
use Rattle.std.specs.Prelude.{List, ◌⊎◌, ◌≡◌, ℕ, ◌+◌, ◌*◌, ◌≤◌, ◌<◌, get_or}
use Rattle.listing.specs.Listing.{Cell, cell}
use Rattle.listing.specs.Order.{Before}
use Rattle.differences.specs.Differences.{Memories, CellPair, RegisterPair}

-- a cell whose byte or writer number differs; the pair has what stands at place 101·bank + column of the memories
pub record DifferingCell (a b : Memories) (d : CellPair) : Type 0 where
  pub column_there : d.column ≤ 100
  pub bank_there : d.bank ≤ 16
  pub first_stored : get_or a.memory (101 * d.bank + d.column) 0 ≡ d.first_byte
  pub second_stored : get_or b.memory (101 * d.bank + d.column) 0 ≡ d.second_byte
  pub first_writer : get_or a.writers (101 * d.bank + d.column) 0 ≡ d.first_event
  pub second_writer : get_or b.writers (101 * d.bank + d.column) 0 ≡ d.second_event
  pub differs : (d.first_byte ≡ d.second_byte → ⊥) ⊎ (d.first_event ≡ d.second_event → ⊥)

-- what stands there at either end
abbrev pub first_cell : CellPair → Cell
first_cell d = cell d.column d.bank d.first_byte d.first_event

abbrev pub second_cell : CellPair → Cell
second_cell d = cell d.column d.bank d.second_byte d.second_event

-- by bank, then column, as in a listing
abbrev pub CellBefore : CellPair → CellPair → Type 0
CellBefore c d = Before (first_cell c) (first_cell d)

-- one of the 29 registers, by its place, whose values differ: v and w have all of them, in document 01's order
pub record DifferingRegister (v w : List ℕ) (d : RegisterPair) : Type 0 where
  pub register_there : d.place ≤ 28
  pub first_value : get_or v d.place 0 ≡ d.first
  pub second_value : get_or w d.place 0 ≡ d.second
  pub differs : d.first ≡ d.second → ⊥

-- in document 01's order
abbrev pub RegisterBefore : RegisterPair → RegisterPair → Type 0
RegisterBefore c d = c.place < d.place

-- ---- the two files exchanged

abbrev pub exchanged_cell : CellPair → CellPair
exchanged_cell d =
    record {
      column = d.column;
      bank = d.bank;
      first_byte = d.second_byte;
      second_byte = d.first_byte;
      first_event = d.second_event;
      second_event = d.first_event;
    }

abbrev pub exchanged_register : RegisterPair → RegisterPair
exchanged_register d = record { place = d.place; first = d.second; second = d.first }
