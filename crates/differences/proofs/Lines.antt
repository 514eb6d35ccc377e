-- The lines of a comparison, and how long its text is at most.
use mathlib.Core.Bool.{Bool, true, false, cond}
use mathlib.Core.List.{List, [], ◌∷◌, ◌++◌, append-nil}
use mathlib.Core.Path.{◌≡◌, refl, ap}
use Prim.Native.Nat.{ℕ, ◌+◌, ◌/◌, ◌%◌, ◌^◌, ◌≤◌, ◌<◌}
use native.Mathlib.Omega.{arith}
use lib.ListN.{length, get_or, length-append}
use Rattle.registers.specs.Record.{names}
use Rattle.registers.specs.State.{places}
use Rattle.registers.proofs.NamePieces.{name-bound}
use Rattle.text.specs.Text.{join}
use Rattle.print.specs.Chosen.{lines_of, line}
use Rattle.print.specs.Printed.{decimal_of, parts_from}
use Rattle.print.proofs.Chosen.{chosen-parts, no_lines}
use Rattle.print.proofs.Digits.{decimal-bound}
use Rattle.print.proofs.Writing.{parts-bound}
use Rattle.listing.proofs.Lines.{Bounded}
use Rattle.differences.specs.Differences.{Memories, Compared, CellPair, cell_pair, cell_pair_at, cell_differs, cells_that_differ}
use Rattle.differences.specs.Differences.{RegisterPair, register_pair_at, register_differs, registers_that_differ}
use Rattle.differences.specs.Differences.{header, cell_line, register_line, cell_line_at, register_line_at, differences_of}

-- ---- no line is empty, so that a text that is its header alone has none

some-line : (fields : List (List ℕ)) → 0 < length (line fields)
some-line fields = omega (arith, length-append (join 9 fields) (10 ∷ []))

some-cell-line : (d : CellPair) → 0 < length (cell_line d)
some-cell-line d =
    some-line
    (decimal_of d.column ∷ decimal_of d.bank ∷ decimal_of d.first_byte ∷ decimal_of d.second_byte ∷ decimal_of d.first_event
    ∷ decimal_of d.second_event ∷ [])

some-register-line : (d : RegisterPair) → 0 < length (register_line d)
some-register-line d = some-line (get_or names d.place [] ∷ decimal_of d.first ∷ decimal_of d.second ∷ [])

pub nothing-after :
    (h : List ℕ) (cs : List CellPair) (rs : List RegisterPair) → h ++ (lines_of cell_line cs ++ lines_of register_line rs) ≡ h → (cs ≡ []) × (rs ≡ [])
nothing-after h cs rs e =
    let none : length (lines_of cell_line cs) + length (lines_of register_line rs) ≡ 0 =
    omega (
      arith,
      ap (λ (l : List ℕ). length l) e,
      length-append h (lines_of cell_line cs ++ lines_of register_line rs),
      length-append (lines_of cell_line cs) (lines_of register_line rs),
    ) in
    (no_lines cell_line some-cell-line cs (omega (arith, none)), no_lines register_line some-register-line rs (omega (arith, none)))

-- ---- place by place

pub cells-parts : (a b : Memories) → parts_from (cell_line_at a b) 0 places ≡ lines_of cell_line (cells_that_differ a b)
unfolding cells_that_differ
cells-parts a b = chosen-parts (cell_differs a b) (cell_pair_at a b) cell_line places 0

pub registers-parts : (v w : List ℕ) → parts_from (register_line_at v w) 0 29 ≡ lines_of register_line (registers_that_differ v w)
unfolding registers_that_differ
registers-parts v w = chosen-parts (register_differs v w) (register_pair_at v w) register_line 29 0

-- ---- how long

cell-length :
    (a b c d e f : List ℕ)
    → length ((a ++ 9 ∷ (b ++ 9 ∷ (c ++ 9 ∷ (d ++ 9 ∷ (e ++ 9 ∷ f))))) ++ (10 ∷ []))
    ≡ length a + length b + length c + length d + length e + length f + 6
cell-length a b c d e f = simp length-append (omega arith)

cell-bound :
    (c b v w m n : ℕ) → c < 10 ^ 3 → b < 10 ^ 2 → v < 10 ^ 3 → w < 10 ^ 3 → m < 10 ^ 20 → n < 10 ^ 20 → length (cell_line (cell_pair c b v w m n)) ≤ 57
cell-bound c b v w m n hc hb hv hw hm hn =
    omega (
      arith,
      cell-length (decimal_of c) (decimal_of b) (decimal_of v) (decimal_of w) (decimal_of m) (decimal_of n),
      decimal-bound 2 c hc,
      decimal-bound 1 b hb,
      decimal-bound 2 v hv,
      decimal-bound 2 w hw,
      decimal-bound 19 m hm,
      decimal-bound 19 n hn,
    )

-- what the bytes and the writer numbers of a machine are
pub record FromMachine (a : Memories) : Type 0 where
  pub bytes : Bounded (2 ^ 8) a.memory
  pub numbers : Bounded (2 ^ 64) a.writers

module _ (a b : Memories) (ha : FromMachine a) (hb : FromMachine b) where
  cell-line-bound : (k : ℕ) → k < places → length (cell_line_at a b k) ≤ 57
  cell-line-bound k h = go (cell_differs a b k)
    where
      go : (t : Bool) → length (lines_of cell_line (cond t (cell_pair_at a b k ∷ []) [])) ≤ 57
      go true =
          rw (append-nil (cell_line (cell_pair_at a b k)))
          (cell-bound (k % 101) (k / 101) (get_or a.memory k 0) (get_or b.memory k 0) (get_or a.writers k 0) (get_or b.writers k 0)
          (omega arith) (omega arith) (omega (arith, ha.bytes k)) (omega (arith, hb.bytes k)) (omega (arith, ha.numbers k)) (omega (arith, hb.numbers k)))
      go false = omega arith

  cells-bound : length (lines_of cell_line (cells_that_differ a b)) ≤ 97869
  cells-bound = rw (← cells-parts a b) (go places refl)
    where
      go : (n : ℕ) → n ≡ places → length (parts_from (cell_line_at a b) 0 n) ≤ 97869
      go n e = omega (arith, parts-bound (cell_line_at a b) 57 places cell-line-bound n 0 (omega arith))

register-length : (a b c : List ℕ) → length ((a ++ 9 ∷ (b ++ 9 ∷ c)) ++ (10 ∷ [])) ≡ length a + length b + length c + 3
register-length a b c = simp length-append (omega arith)

module _ (v w : List ℕ) (hv : Bounded (2 ^ 8) v) (hw : Bounded (2 ^ 8) w) where
  register-line-bound : (k : ℕ) → k < 29 → length (register_line_at v w k) ≤ 12
  register-line-bound k h = go (register_differs v w k)
    where
      go : (t : Bool) → length (lines_of register_line (cond t (register_pair_at v w k ∷ []) [])) ≤ 12
      go true =
          rw (append-nil (register_line (register_pair_at v w k)))
          (omega (
            arith,
            register-length (get_or names k []) (decimal_of (get_or v k 0)) (decimal_of (get_or w k 0)),
            name-bound k,
            decimal-bound 2 (get_or v k 0) (omega (arith, hv k)),
            decimal-bound 2 (get_or w k 0) (omega (arith, hw k)),
          ))
      go false = omega arith

  registers-bound : length (lines_of register_line (registers_that_differ v w)) ≤ 348
  registers-bound = rw (← registers-parts v w) (omega (arith, parts-bound (register_line_at v w) 12 29 register-line-bound 29 0 (omega arith)))

-- the header's 60 bytes; 57 for each cell: three digits of column, two of bank, three of each byte and twenty of each event; and 12 for each register
pub differences-bound :
    (a b : Compared) → FromMachine a.cells → FromMachine b.cells → Bounded (2 ^ 8) a.registers → Bounded (2 ^ 8) b.registers
    → length (differences_of a b) ≤ 98277
unfolding differences_of
differences-bound a b ha hb hv hw =
    let cells : List ℕ = lines_of cell_line (cells_that_differ a.cells b.cells) in
    let registers : List ℕ = lines_of register_line (registers_that_differ a.registers b.registers) in
    omega (
      arith,
      length-append header (cells ++ registers),
      length-append cells registers,
      cells-bound a.cells b.cells ha hb,
      registers-bound a.registers b.registers hv hw,
    )
