-- The replay listing (document 01): a header, then the cells with a writer, by bank, then column; and the one line of a capture that is bad.
use Rattle.std.specs.Prelude.{Bool, not, cond, List, [], ◌∷◌, ◌++◌, ℕ, ◌/◌, ◌%◌, eqb, length, get_or}
use Rattle.registers.specs.Refusals.{lengths_refusal}
use Rattle.registers.specs.State.{places}
use Rattle.text.specs.Text.{bytes}
use Rattle.print.specs.Printed.{Written, decimal_of, Output, whole_text, written_number}
use Rattle.print.specs.Chosen.{chosen_at, chosen_from, lines_of, line}

-- ---- the cells

-- a cell with a writer: its byte, and the number of the event that wrote it
pub record Cell : Type 0 where
  pub column : ℕ
  pub bank : ℕ
  pub byte : ℕ
  pub event : ℕ

abbrev pub cell : ℕ → ℕ → ℕ → ℕ → Cell
cell c b v n = record { column = c; bank = b; byte = v; event = n }

-- the cell at place 101·bank + column
abbrev pub cell_at : List ℕ → List ℕ → ℕ → Cell
cell_at memory writers k = cell (k % 101) (k / 101) (get_or memory k 0) (get_or writers k 0)

abbrev pub is_written : List ℕ → ℕ → Bool
is_written writers k = not (eqb (get_or writers k 0) 0)

-- a bank's columns stand side by side, so that rising places go by bank, then column
unfoldable pub cells_of : List ℕ → List ℕ → List Cell
cells_of memory writers = chosen_from (is_written writers) (cell_at memory writers) 0 places

-- ---- the text

abbrev pub header : List ℕ
header = line (bytes "column" ∷ bytes "bank" ∷ bytes "byte" ∷ bytes "event" ∷ [])

abbrev pub cell_text : Cell → List ℕ
cell_text r = line (decimal_of r.column ∷ decimal_of r.bank ∷ decimal_of r.byte ∷ decimal_of r.event ∷ [])

abbrev pub cells_text : List Cell → List ℕ
cells_text = lines_of cell_text

-- what place k adds to it: a line if the cell there has a writer, else nothing
abbrev pub line_at : List ℕ → List ℕ → ℕ → List ℕ
line_at memory writers k = cells_text (chosen_at (is_written writers) (cell_at memory writers) k)

-- the same, by the byte and the writer number there
abbrev pub line_of_cell : ℕ → ℕ → ℕ → List ℕ
line_of_cell k byte event = cells_text (cond (not (eqb event 0)) (cell (k % 101) (k / 101) byte event ∷ []) [])

unfoldable pub listing_of : List ℕ → List ℕ → List ℕ
listing_of memory writers = header ++ cells_text (cells_of memory writers)

-- on a bad line or event the only output. `file` stands before the line's number: nothing, or which of several files it is, and a tab
unfoldable pub refused_of : List ℕ → ℕ → List ℕ
refused_of file n = line (bytes "refused" ∷ (file ++ decimal_of n) ∷ [])

-- ---- the calls: the answer, and the buffer

-- document 01's number for the answer: 10 is an output shorter than needed
abbrev pub listing_number : Written → ℕ
listing_number = written_number 10

-- 1: a lent memory isn't 1,717 long
abbrev pub listing_call : List ℕ → List ℕ → List ℕ → Output
listing_call memory writers out = whole_text (lengths_refusal (length memory) (length writers)) (listing_of memory writers) out
