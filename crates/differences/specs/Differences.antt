-- The comparison of two captures (document 02, W1): the cells and the registers that differ at their ends, and the text that lists them.
use Rattle.std.specs.Prelude.{Bool, not, cond, ◌||◌, List, [], ◌∷◌, ◌++◌, ℕ, ◌/◌, ◌%◌, eqb, length, get_or}
use Rattle.registers.specs.Record.{names}
use Rattle.registers.specs.Refusals.{◌then◌, lengths_refusal}
use Rattle.registers.specs.State.{places}
use Rattle.text.specs.Text.{bytes}
use Rattle.print.specs.Chosen.{chosen_at, chosen_from, lines_of, line}
use Rattle.print.specs.Printed.{decimal_of, Output, whole_text}

-- both memories of a chip
pub record Memories : Type 0 where
  pub memory : List ℕ
  pub writers : List ℕ

abbrev pub memories : List ℕ → List ℕ → Memories
memories m w = record { memory = m; writers = w }

-- what is compared: the values of the registers, in document 01's order, and the memories. Pins, status, last RS, phase and count are not
pub record Compared : Type 0 where
  pub registers : List ℕ
  pub cells : Memories

abbrev pub compared : List ℕ → List ℕ → List ℕ → Compared
compared v m w = record { registers = v; cells = memories m w }

-- ---- cells

-- a cell at both ends: its byte, and the number of the event that wrote it, 0 being none
pub record CellPair : Type 0 where
  pub column : ℕ
  pub bank : ℕ
  pub first_byte : ℕ
  pub second_byte : ℕ
  pub first_event : ℕ
  pub second_event : ℕ

abbrev pub cell_pair : ℕ → ℕ → ℕ → ℕ → ℕ → ℕ → CellPair
cell_pair c b v w m n = record { column = c; bank = b; first_byte = v; second_byte = w; first_event = m; second_event = n }

-- the cell at place 101·bank + column
abbrev pub cell_pair_at : Memories → Memories → ℕ → CellPair
cell_pair_at a b k =
    cell_pair (k % 101) (k / 101) (get_or a.memory k 0) (get_or b.memory k 0) (get_or a.writers k 0) (get_or b.writers k 0)

-- its byte or its writer number differs
abbrev pub cell_differs : Memories → Memories → ℕ → Bool
cell_differs a b k = not (eqb (get_or a.memory k 0) (get_or b.memory k 0)) || not (eqb (get_or a.writers k 0) (get_or b.writers k 0))

-- a bank's columns stand side by side, so that rising places go by bank, then column
unfoldable pub cells_that_differ : Memories → Memories → List CellPair
cells_that_differ a b = chosen_from (cell_differs a b) (cell_pair_at a b) 0 places

-- ---- registers

-- a register at both ends, by its place in document 01's order
pub record RegisterPair : Type 0 where
  pub place : ℕ
  pub first : ℕ
  pub second : ℕ

abbrev pub register_pair : ℕ → ℕ → ℕ → RegisterPair
register_pair k v w = record { place = k; first = v; second = w }

abbrev pub register_pair_at : List ℕ → List ℕ → ℕ → RegisterPair
register_pair_at v w k = register_pair k (get_or v k 0) (get_or w k 0)

abbrev pub register_differs : List ℕ → List ℕ → ℕ → Bool
register_differs v w k = not (eqb (get_or v k 0) (get_or w k 0))

unfoldable pub registers_that_differ : List ℕ → List ℕ → List RegisterPair
registers_that_differ v w = chosen_from (register_differs v w) (register_pair_at v w) 0 29

-- ---- the text

abbrev pub header : List ℕ
header =
    line (bytes "column" ∷ bytes "bank" ∷ bytes "first byte" ∷ bytes "second byte" ∷ bytes "first event" ∷ bytes "second event" ∷ [])

abbrev pub cell_line : CellPair → List ℕ
cell_line d =
    line
    (decimal_of d.column ∷ decimal_of d.bank ∷ decimal_of d.first_byte ∷ decimal_of d.second_byte ∷ decimal_of d.first_event
    ∷ decimal_of d.second_event ∷ [])

-- the name as drawing lists write it, and h, x, y and gr, which they don't set
abbrev pub register_line : RegisterPair → List ℕ
register_line d = line (get_or names d.place [] ∷ decimal_of d.first ∷ decimal_of d.second ∷ [])

-- what a place and a register add to the text: a line where it differs, else nothing
abbrev pub cell_line_at : Memories → Memories → ℕ → List ℕ
cell_line_at a b k = lines_of cell_line (chosen_at (cell_differs a b) (cell_pair_at a b) k)

abbrev pub register_line_at : List ℕ → List ℕ → ℕ → List ℕ
register_line_at v w k = lines_of register_line (chosen_at (register_differs v w) (register_pair_at v w) k)

-- the same, by what stands at the place at both ends, and by the register's two values
abbrev pub line_of_cells : ℕ → ℕ → ℕ → ℕ → ℕ → List ℕ
line_of_cells k v w m n = lines_of cell_line (cond (not (eqb v w) || not (eqb m n)) (cell_pair (k % 101) (k / 101) v w m n ∷ []) [])

abbrev pub line_of_registers : ℕ → ℕ → ℕ → List ℕ
line_of_registers k v w = lines_of register_line (cond (not (eqb v w)) (register_pair k v w ∷ []) [])

-- the header also where nothing differs
unfoldable pub differences_of : Compared → Compared → List ℕ
differences_of a b =
    header ++ (lines_of cell_line (cells_that_differ a.cells b.cells) ++ lines_of register_line (registers_that_differ a.registers b.registers))

-- ---- the call: the answer, and the buffer

-- 1: a memory isn't 1,717 long
abbrev pub differences_refusal : Memories → Memories → ℕ
differences_refusal a b = lengths_refusal (length a.memory) (length a.writers) then lengths_refusal (length b.memory) (length b.writers)

abbrev pub differences_call : Compared → Compared → List ℕ → Output
differences_call a b out = whole_text (differences_refusal a.cells b.cells) (differences_of a b) out
