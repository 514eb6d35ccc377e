-- The bit table and the instruction table as flat lists of numbers, computed from `registers` and `rows`: what the code holds as arrays.
use Rattle.std.specs.Prelude.{List, [], ◌∷◌, ◌++◌, map, cond, ℕ, zero, suc, ◌+◌, ◌-◌, ◌*◌, ◌%◌, ◌^◌, eqb, get_or}
use Rattle.registers.specs.Places.{GR, GS0}
use Rattle.registers.specs.Record.{Register, registers}
use Rattle.registers.specs.Table.{Target, Part, Row, rows, opened}
use Rattle.registers.specs.Table.Target.{register, bounded, selected, unheld}

-- one entry a register, as `limits` and `resets`
abbrev pub widths : List ℕ
widths = map (λ (r : Register). r.width) registers

-- one entry a row: its page, its fixed bits with 0 at the open ones, and a 1 for each fixed bit
abbrev pub pages : List ℕ
pages = map (λ (w : Row). w.page) rows

abbrev pub codes : List ℕ
codes = map (λ (w : Row). w.code) rows

abbrev pub masks : List ℕ
masks = map (λ (w : Row). 255 - opened w.parts 255) rows

-- where a part's bits go, as a number: below 29 the register at that place
abbrev pub target_number : Target → ℕ
target_number (register f) = f
target_number (bounded f) = f
target_number selected = 29
target_number unheld = 30

-- the parts of all rows, in the table's order, each row's from the top bit
abbrev pub parts_of : List Row → List Part
parts_of [] = []
parts_of (w ∷ ws) = w.parts ++ parts_of ws

-- for each of those parts the number of its row, where the first of these rows is number i
abbrev pub owners_from : ℕ → List Row → List ℕ
owners_from i [] = []
owners_from i (w ∷ ws) = map (λ (p : Part). i) w.parts ++ owners_from (suc i) ws

-- one entry a part: its row, its target, its lowest bit and its width
abbrev pub part_rows : List ℕ
part_rows = owners_from 0 rows

abbrev pub part_targets : List ℕ
part_targets = map (λ (p : Part). target_number p.target) (parts_of rows)

abbrev pub part_lows : List ℕ
part_lows = map (λ (p : Part). p.low) (parts_of rows)

abbrev pub part_widths : List ℕ
part_widths = map (λ (p : Part). p.width) (parts_of rows)

-- ---- a row's byte from those lists, the registers being a list too

-- the register that a target stands for: the one at its place, the grey one that GR selects, or none
abbrev pub place_of : ℕ → List ℕ → ℕ
place_of n v = cond (eqb n 29) (GS0 + get_or v GR 0 % 4) n

-- what part k adds to the byte of row i
abbrev pub share_of : List ℕ → ℕ → ℕ → ℕ
share_of v i k = cond (eqb (get_or part_rows k 0) i) (get_or v (place_of (get_or part_targets k 0) v) 0 * 2 ^ get_or part_lows k 0) 0

-- what n parts from part k on add to it
abbrev pub shares_of : List ℕ → ℕ → ℕ → ℕ → ℕ
shares_of v i k zero = 0
shares_of v i k (suc n) = share_of v i k + shares_of v i (suc k) n

-- the byte of row i: its code, and what all parts add
unfoldable pub byte_of : List ℕ → ℕ → ℕ
byte_of v i = get_or codes i 0 + shares_of v i 0 29
