-- The plain reading of a drawing list (document 01, "Drawing lists"): what its lines do to cells and registers, with no bus in it.
use Rattle.std.specs.Prelude.{Bool, cond, ◌&&◌, List, [], ◌∷◌, ℕ, suc, ◌/◌, ◌%◌, ◌-◌, leb}
use Rattle.registers.specs.declared.Registers.{Registers}
use Rattle.registers.specs.Encode.{is_grey}
use Rattle.registers.specs.Places.{GR, GS0}
use Rattle.registers.specs.Record.{put, blank}
use Rattle.registers.specs.State.{State}
use Rattle.lists.specs.declared.Line.{Line}
use Rattle.lists.specs.declared.Line.TheVariants.{Fill, Set}

-- 1,717 cells, the byte of column c and bank b at 101·b + c, and the registers but H, X and Y
pub record Picture : Type 0 where
  pub cells : List ℕ
  pub registers : Registers

abbrev pub picture_of : State → Picture
picture_of s = record { cells = s.memory; registers = blank s.chip.registers }

-- place k is a cell of the rectangle, ends included
abbrev pub is_inside : ℕ → ℕ → ℕ → ℕ → ℕ → Bool
is_inside c0 c1 b0 b1 k = leb c0 (k % 101) && leb (k % 101) c1 && leb b0 (k / 101) && leb (k / 101) b1

-- the cells from place k on
abbrev pub filled_from : ℕ → ℕ → ℕ → ℕ → ℕ → ℕ → List ℕ → List ℕ
filled_from c0 c1 b0 b1 n k [] = []
filled_from c0 c1 b0 b1 n k (x ∷ xs) = cond (is_inside c0 c1 b0 b1 k) n x ∷ filled_from c0 c1 b0 b1 n (suc k) xs

unfoldable pub filled : ℕ → ℕ → ℕ → ℕ → ℕ → List ℕ → List ℕ
filled c0 c1 b0 b1 n cells = filled_from c0 c1 b0 b1 n 0 cells

-- that register alone; a grey register is also selected
unfoldable pub set_to : ℕ → ℕ → Registers → Registers
set_to f n r = cond (is_grey f) (put f n (put GR (f - GS0) r)) (put f n r)

abbrev pub cells_after : Line → List ℕ → List ℕ
cells_after (Fill c0 c1 b0 b1 n) cells = filled c0 c1 b0 b1 n cells
cells_after (Set f n) cells = cells

abbrev pub registers_after : Line → Registers → Registers
registers_after (Fill c0 c1 b0 b1 n) r = r
registers_after (Set f n) r = set_to f n r

-- the lines in order; no lines, no change
abbrev pub plain_reading : List Line → Picture → Picture
plain_reading [] p = p
plain_reading (l ∷ ls) p = plain_reading ls (record { cells = cells_after l p.cells; registers = registers_after l p.registers })
