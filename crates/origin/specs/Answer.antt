-- The crew's question in one statement: a pixel is pointed at; what is told of it, held against the capture and not against the memories. Read this after
-- chip/specs/LastWriter.antt, whose words it uses.
use Rattle.std.specs.Prelude.{List, [], ◌⊎◌, ◌≡◌, ℕ, ◌+◌, ◌*◌, ◌/◌, ◌%◌, ◌-◌, ◌≤◌, ◌<◌, Ok, length, get_or}
use Rattle.registers.specs.declared.Registers.{Registers}
use Rattle.registers.specs.State.{State, places}
use Rattle.text.specs.Decimal.{decimal}
use Rattle.text.specs.Text.{split}
use Rattle.glass.specs.Glass.{cell_of, shown_of, glass_of}
use Rattle.glass.specs.Pixel.{bit_of}
use Rattle.glass.specs.When.{Told}
use Rattle.chip.specs.LastWriter.{NoneStored, LastStored, stored_byte}
use Rattle.print.specs.Printed.{Output, whole_text}
use Rattle.capture.specs.Cells.{start}
use Rattle.origin.specs.declared.Origin.{Origin}
use Rattle.origin.specs.Origin.{line_of, origin_text}

-- line n of a text, lines counted from 1, without its newline
abbrev pub text_line : List ℕ → ℕ → List ℕ
text_line text n = get_or (split 10 text) (n - 1) []

-- ---- where the pixel stands

-- glass row r is RAM row r, or 66 − r where MY = 1
abbrev pub RowOf : Registers → ℕ → ℕ → Type 0
RowOf r row ram = ((r.my ≡ 0) × (ram ≡ row)) ⊎ ((r.my ≡ 1) × (ram + row ≡ 66))

-- RAM row 4·bank + k is row k of the bank's cells, and the cell's place is 101·bank + column, in the column that was asked for, whatever MX is
pub record Stands (r : Registers) (row column : ℕ) (o : Origin) : Type 0 where
  pub row_of : RowOf r row o.ram
  pub bank_there : o.place / 101 ≤ 16
  pub in_bank : o.ram ≡ 4 * (o.place / 101) + o.ram % 4
  pub in_column : o.place % 101 ≡ column
  pub at_place : o.place ≡ 101 * (o.place / 101) + column

-- ---- which event wrote it

-- no event of the capture was stored there: byte, event and line are 0
pub record NeverWritten (pins : ℕ) (es : List ℕ) (o : Origin) : Type 0 where
  pub none_stored : NoneStored es (length es) (start pins) o.place
  pub no_byte : o.byte ≡ 0
  pub no_event : o.event ≡ 0
  pub no_line : line_of o.event ≡ 0

-- the last display byte that was stored there: it is named by its number from 1, its stored byte is the byte that is told, and in the line that is told,
-- one further, the capture has that event
pub record WrittenLast (text : List ℕ) (pins : ℕ) (es : List ℕ) (o : Origin) : Type 0 where
  pub last : LastStored es (length es) (start pins) o.place
  pub numbered : o.event ≡ last.event + 1
  pub byte : o.byte ≡ stored_byte last
  pub next-line : line_of o.event ≡ o.event + 1
  pub in_line : text_line text (line_of o.event) ≡ decimal (get_or es last.event 0)

-- ---- all of it

-- what is told of a pixel after a capture with these pins and events, which left `end`
pub record Answers (text : List ℕ) (pins : ℕ) (es : List ℕ) (end : State) (row column : ℕ) (o : Origin) : Type 0 where
  pub row_asked : o.row ≡ row
  pub column_asked : o.column ≡ column
  -- the place is the one that the glass has for it, in both memories
  pub is_place : cell_of end.chip row column ≡ Ok o.place
  pub within : o.place < places
  pub stands : Stands end.chip.registers row column o
  -- what the glass shows, which follows from the byte that is told, its RAM row and the registers alone
  pub shows : glass_of end.chip end.memory row column ≡ Ok o.shows
  pub by_byte : o.shows ≡ shown_of end.chip.registers o.ram o.byte
  pub told : Told o.shows
  -- the pixel's two bits, the higher one worth 2: with k the row in the bank, bits 2k + 1 and 2k of the byte
  pub value : o.value ≡ 2 * bit_of o.byte (2 * (o.ram % 4) + 1) + bit_of o.byte (2 * (o.ram % 4))
  pub value_there : o.value ≤ 3
  pub writer : NeverWritten pins es o ⊎ WrittenLast text pins es o

-- what was printed of the capture is the text of such an answer, and nothing else
pub record TellsWho (text : List ℕ) (pins : ℕ) (es : List ℕ) (end : State) (row column : ℕ) (out : List ℕ) (printed : Output) : Type 0 where
  pub origin : Origin
  pub is_text : printed ≡ whole_text 0 (origin_text origin) out
  pub answers : Answers text pins es end row column origin
