-- What a comparison says of the two captures: which last display bytes its lines come from, and which registers.
use mathlib.Core.List.{List, ◌++◌, Memᴰ}
use Rattle.std.specs.Prelude.{◌⊎◌, ◌↔◌, ◌≡◌, ℕ, ◌+◌, ◌*◌, ◌≤◌, length}
use Rattle.registers.specs.declared.Registers.{Registers}
use Rattle.registers.specs.Record.{values}
use Rattle.chip.specs.LastWriter.{NoneStored}
use Rattle.print.specs.Chosen.{lines_of, InOrder}
use Rattle.capture.specs.Cells.{start}
use Rattle.listing.specs.Listing.{Cell}
use Rattle.listing.specs.LastWriters.{NamesLastWriter}
use Rattle.differences.specs.Differences.{CellPair, RegisterPair, header, cell_line, register_line}
use Rattle.differences.specs.Which.{first_cell, second_cell, CellBefore, DifferingRegister, RegisterBefore}

-- no event of the capture was stored at the cell: byte and event are 0, as at the start
pub record NeverWritten (pins : ℕ) (es : List ℕ) (c : Cell) : Type 0 where
  pub column_there : c.column ≤ 100
  pub bank_there : c.bank ≤ 16
  pub no_event : c.event ≡ 0
  pub no_byte : c.byte ≡ 0
  pub none_stored : NoneStored es (length es) (start pins) (101 * c.bank + c.column)

-- what a capture left in a cell
abbrev pub LeftBy : ℕ → List ℕ → Cell → Type 0
LeftBy pins es c = NeverWritten pins es c ⊎ NamesLastWriter pins es c

-- each capture left its byte there and names its event, and the two differ in one or the other
pub record DifferingWriters (pins : ℕ) (es : List ℕ) (pins' : ℕ) (es' : List ℕ) (d : CellPair) : Type 0 where
  pub first_left : LeftBy pins es (first_cell d)
  pub second_left : LeftBy pins' es' (second_cell d)
  pub differs : (d.first_byte ≡ d.second_byte → ⊥) ⊎ (d.first_event ≡ d.second_event → ⊥)

-- the text is the header, a line for each such cell and no other, by bank, then column, and one for each register that differs at the end and no other,
-- in document 01's order
pub record TellsDifferences
    (pins : ℕ) (es : List ℕ) (r : Registers) (pins' : ℕ) (es' : List ℕ) (r' : Registers) (text : List ℕ) : Type 0 where
  pub cells : List CellPair
  pub registers : List RegisterPair
  pub is_text : text ≡ header ++ (lines_of cell_line cells ++ lines_of register_line registers)
  pub cells_in_order : InOrder CellBefore cells
  pub cells_exactly : (d : CellPair) → Memᴰ d cells ↔ DifferingWriters pins es pins' es' d
  pub registers_in_order : InOrder RegisterBefore registers
  pub registers_exactly : (d : RegisterPair) → Memᴰ d registers ↔ DifferingRegister (values r) (values r') d
