-- What is told of a row and column of the glass: where the pixel stands, what stands there, and which event of the capture wrote it.
use Rattle.std.specs.Prelude.{cond, List, [], ◌∷◌, ◌++◌, ℕ, ◌+◌, ◌/◌, ◌%◌, eqb, get_or}
use Rattle.registers.specs.declared.Chip.{Chip}
use Rattle.glass.specs.declared.answer.Shown.{Shown}
use Rattle.glass.specs.declared.answer.Shown.TheVariants as shown
use Rattle.glass.specs.Glass.{ram_row_of, shown_of}
use Rattle.glass.specs.Pixel.{value_in}
use Rattle.text.specs.Text.{bytes}
use Rattle.print.specs.Chosen.{lines_of, line}
use Rattle.print.specs.Printed.{decimal_of}
use Rattle.origin.specs.declared.Origin.{Origin}

-- ---- what is told

-- of a pixel that stands at place p. Its value is two bits of the byte there, those of its RAM row
abbrev pub origin_at : Chip → List ℕ → List ℕ → ℕ → ℕ → ℕ → Origin
origin_at c memory writers row column p =
    record {
      row = row;
      column = column;
      shows = shown_of c.registers (ram_row_of c row) (get_or memory p 0);
      ram = ram_row_of c row;
      place = p;
      byte = get_or memory p 0;
      value = value_in (get_or memory p 0) (ram_row_of c row % 4);
      event = get_or writers p 0;
    }

-- ---- the text

-- events count from 1, and the line of the pins is the first; no event has no line
abbrev pub line_of : ℕ → ℕ
line_of event = cond (eqb event 0) 0 (event + 1)

abbrev pub shown_text : Shown → List ℕ
shown_text (shown.Level g) = bytes "level " ++ decimal_of g
shown_text shown.Dark = bytes "dark"
shown_text shown.Undriven = bytes "undriven"

-- a line's two fields: a name and a number
abbrev pub numbered : List ℕ → ℕ → List (List ℕ)
numbered name n = name ∷ decimal_of n ∷ []

-- the pixel; the cell, by bank and column, which its place gives; the byte there
abbrev pub pixel_fields : Origin → List (List (List ℕ))
pixel_fields o = numbered (bytes "row") o.row ∷ numbered (bytes "column") o.column ∷ (bytes "shows" ∷ shown_text o.shows ∷ []) ∷ []

abbrev pub cell_fields : Origin → List (List (List ℕ))
cell_fields o =
    numbered (bytes "ram row") o.ram
    ∷ numbered (bytes "bank") (o.place / 101)
    ∷ numbered (bytes "cell column") (o.place % 101)
    ∷ numbered (bytes "place") o.place
    ∷ []

abbrev pub byte_fields : Origin → List (List (List ℕ))
byte_fields o =
    numbered (bytes "byte") o.byte
    ∷ numbered (bytes "value") o.value
    ∷ numbered (bytes "event") o.event
    ∷ numbered (bytes "line") (line_of o.event)
    ∷ []

abbrev pub pixel_lines : Origin → List ℕ
pixel_lines o = lines_of line (pixel_fields o)

abbrev pub cell_lines : Origin → List ℕ
cell_lines o = lines_of line (cell_fields o)

abbrev pub byte_lines : Origin → List ℕ
byte_lines o = lines_of line (byte_fields o)

-- eleven lines
unfoldable pub origin_text : Origin → List ℕ
origin_text o = pixel_lines o ++ (cell_lines o ++ byte_lines o)
