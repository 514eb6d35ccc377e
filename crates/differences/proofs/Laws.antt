-- What is promised of a comparison, in one place: read this file first, then specs/Which.antt and specs/LastWriters.antt. The work stands in the files
-- beside it.
use mathlib.Core.Bool.{true}
use mathlib.Core.List.Memᴰ
use mathlib.Core.List.{List, [], ◌∷◌, ◌++◌, map, append-nil, Memᴰ}
use mathlib.Core.Logic.{inl, ◌↔◌}
use mathlib.Core.Path.{◌≡◌, refl, sym, ap, ◌∙◌, subst}
use Prim.Native.Nat.{ℕ, ◌+◌, ◌*◌}
use native.Mathlib.Omega.{arith}
use Rattle.std.specs.Prelude.{Result}
use lib.ListN.{get_or}
use Rattle.registers.specs.Record.{values}
use Rattle.registers.specs.State.{State, places}
use Rattle.text.specs.Text.{bytes}
use Rattle.print.specs.Printed.{Refused, decimal_of, output, whole_text, NumberSays}
use Rattle.print.specs.Chosen.{chosen_from, lines_of, InOrder}
use Rattle.print.proofs.Chosen.{so-not-same, so-same, chosen-exactly, none-chosen, one-chosen, chosen-in-order, chosen-mapped, told-by-members}
use Rattle.print.proofs.Laws.{number-says, refused-by-1}
use Rattle.capture.specs.declared.End.{End}
use Rattle.capture.specs.Cells.{zeros}
use Rattle.capture.specs.Feeding.{meaning}
use Rattle.capture.specs.Replay.{Replay, refused_by, refused_at, replayed, replay_of}
use Rattle.capture.specs.Where.{Replayed}
use Rattle.capture.proofs.Laws.{is-replayed, end-fit}
use Rattle.listing.specs.Listing.{refused_of, listing_number}
use Rattle.listing.specs.ReplayText.{text_unless}
use Rattle.listing.proofs.Laws.{memories-of}
use Rattle.listing.proofs.WrittenCells.{place-order}
use Rattle.differences.specs.Comparison.{compared_of, comparison_of, comparison_call}
use Rattle.differences.specs.Differences.{Memories, memories, Compared, CellPair, cell_pair, cell_pair_at, cell_differs, cells_that_differ}
use Rattle.differences.specs.Differences.{RegisterPair, register_pair, register_pair_at, register_differs, registers_that_differ, header, cell_line, register_line}
use Rattle.differences.specs.Differences.{differences_of, differences_refusal, differences_call}
use Rattle.differences.specs.LastWriters.{TellsDifferences}
use Rattle.differences.specs.Which.{DifferingCell, CellBefore, DifferingRegister, RegisterBefore, exchanged_cell, exchanged_register}
use Rattle.differences.proofs.Differs.{so-one-differs, none-differs, cell-one-way, cell-from-chosen, cell-so-chosen}
use Rattle.differences.proofs.Differs.{register-from-chosen, register-so-chosen, differs-exchanged, same-exchanged}
use Rattle.differences.proofs.LastWriters.{differing-writers, so-differing}
use Rattle.differences.proofs.Lines.{nothing-after}
use Rattle.differences.proofs.Refusals.{BothLent, by-both-lent, both-pass, not-both}
-- how long the text is at most
pub use Rattle.differences.proofs.Lines.{differences-bound}

-- ---- the cells: each that differs once, by bank, then column, and no other

module _ (a b : Memories) where
  pub cells_in_order : InOrder CellBefore (cells_that_differ a b)
  unfolding cells_that_differ
  cells_in_order = chosen-in-order (cell_differs a b) (cell_pair_at a b) CellBefore place-order places 0

  pub cells_exactly : (d : CellPair) → Memᴰ d (cells_that_differ a b) ↔ DifferingCell a b d
  unfolding cells_that_differ
  cells_exactly d = go places refl
    where
      go : (n : ℕ) → n ≡ 1717 → Memᴰ d (chosen_from (cell_differs a b) (cell_pair_at a b) 0 n) ↔ DifferingCell a b d
      go n e =
          let chosen = chosen-exactly (cell_differs a b) (cell_pair_at a b) n d in
          (λ m. cell-from-chosen a b n d e (chosen.0 m), λ h. chosen.1 (cell-so-chosen a b n d e h))

  -- so these two sentences leave no other list
  pub cells-only : (ds : List CellPair) → InOrder CellBefore ds → ((d : CellPair) → Memᴰ d ds ↔ DifferingCell a b d) → ds ≡ cells_that_differ a b
  cells-only ds order exactly =
      told-by-members CellBefore cell-one-way ds (cells_that_differ a b) order cells_in_order
      (λ d. (λ m. (cells_exactly d).1 ((exactly d).0 m), λ m. (exactly d).1 ((cells_exactly d).0 m)))

-- ---- the registers: each that differs once, in document 01's order, and no other

module _ (v w : List ℕ) where
  pub registers_in_order : InOrder RegisterBefore (registers_that_differ v w)
  unfolding registers_that_differ
  registers_in_order = chosen-in-order (register_differs v w) (register_pair_at v w) RegisterBefore (λ k p h. h) 29 0

  pub registers_exactly : (d : RegisterPair) → Memᴰ d (registers_that_differ v w) ↔ DifferingRegister v w d
  unfolding registers_that_differ
  registers_exactly d =
      let chosen = chosen-exactly (register_differs v w) (register_pair_at v w) 29 d in
      (λ m. register-from-chosen v w d (chosen.0 m), λ h. chosen.1 (register-so-chosen v w d h))

  pub registers-only :
      (ds : List RegisterPair) → InOrder RegisterBefore ds → ((d : RegisterPair) → Memᴰ d ds ↔ DifferingRegister v w d) → ds ≡ registers_that_differ v w
  registers-only ds order exactly =
      told-by-members RegisterBefore (λ c d a b. omega (arith, a, b)) ds (registers_that_differ v w) order registers_in_order
      (λ d. (λ m. (registers_exactly d).1 ((exactly d).0 m), λ m. (exactly d).1 ((registers_exactly d).0 m)))

-- ---- nothing differs

-- two equal ends give the header alone
pub equal-ends : (a : Compared) → differences_of a a ≡ header
unfolding differences_of cells_that_differ registers_that_differ
equal-ends a =
    let cells : chosen_from (cell_differs a.cells a.cells) (cell_pair_at a.cells a.cells) 0 places ≡ [] =
    none-chosen (cell_differs a.cells a.cells) (cell_pair_at a.cells a.cells) places 0
    (λ q l h. none-differs (get_or a.cells.memory q 0) (get_or a.cells.memory q 0) (get_or a.cells.writers q 0) (get_or a.cells.writers q 0)
    refl refl) in
    let v : List ℕ = a.registers in
    let registers : chosen_from (register_differs v v) (register_pair_at v v) 0 29 ≡ [] =
    none-chosen (register_differs v v) (register_pair_at v v) 29 0 (λ q l h. so-same (get_or v q 0) (get_or v q 0) refl) in
    ap (λ (l : List ℕ). header ++ l)
    (ap (λ (cs : List CellPair). lines_of cell_line cs ++ lines_of register_line (chosen_from (register_differs v v) (register_pair_at v v) 0 29)) cells
    ∙ ap (λ (rs : List RegisterPair). lines_of register_line rs) registers)
    ∙ append-nil header

-- so two chips that hold the same in registers and memories, whatever their pins, status, last RS, phase and count are
pub alike-ends :
    (s t : State) → values s.chip.registers ≡ values t.chip.registers → s.memory ≡ t.memory → s.writers ≡ t.writers
    → differences_of (compared_of s) (compared_of t) ≡ header
alike-ends s t r m w = rw (r, m, w) (equal-ends (compared_of t))

-- and only where no cell and no register differs is the header alone
pub header-alone :
    (a b : Compared) → differences_of a b ≡ header
    → ((d : CellPair) → DifferingCell a.cells b.cells d → ⊥) × ((d : RegisterPair) → DifferingRegister a.registers b.registers d → ⊥)
unfolding differences_of
header-alone a b e =
    let none = nothing-after header (cells_that_differ a.cells b.cells) (registers_that_differ a.registers b.registers) e in (
      λ d h. Memᴰ.not-nil (subst (λ (ds : List CellPair). Memᴰ d ds) none.0 ((cells_exactly a.cells b.cells d).1 h)),
      λ d h. Memᴰ.not-nil (subst (λ (ds : List RegisterPair). Memᴰ d ds) none.1 ((registers_exactly a.registers b.registers d).1 h)),
    )

-- ---- the two exchanged: the same lines with their columns exchanged

pub cells-exchanged : (a b : Memories) → cells_that_differ b a ≡ map exchanged_cell (cells_that_differ a b)
unfolding cells_that_differ
cells-exchanged a b =
    sym
    (chosen-mapped (cell_differs a b) (cell_differs b a) (cell_pair_at a b) (cell_pair_at b a) exchanged_cell
    (λ k. differs-exchanged (get_or a.memory k 0) (get_or b.memory k 0) (get_or a.writers k 0) (get_or b.writers k 0)) (λ k. refl) places 0)

pub registers-exchanged : (v w : List ℕ) → registers_that_differ w v ≡ map exchanged_register (registers_that_differ v w)
unfolding registers_that_differ
registers-exchanged v w =
    sym
    (chosen-mapped (register_differs v w) (register_differs w v) (register_pair_at v w) (register_pair_at w v) exchanged_register
    (λ k. same-exchanged (get_or v k 0) (get_or w k 0)) (λ k. refl) 29 0)

-- so the whole text
pub text-exchanged :
    (a b : Compared)
    → differences_of b a
    ≡ header
    ++ (lines_of cell_line (map exchanged_cell (cells_that_differ a.cells b.cells))
    ++ lines_of register_line (map exchanged_register (registers_that_differ a.registers b.registers)))
unfolding differences_of
text-exchanged a b = rw (cells-exchanged a.cells b.cells, registers-exchanged a.registers b.registers)

-- ---- the text to the byte

-- two cells of different numbers
pub marked-cell-lines :
    lines_of cell_line (cell_pair 1 2 3 4 5 6 ∷ cell_pair 100 16 255 63 4294967297 10 ∷ [])
    ≡ bytes "1\t2\t3\t4\t5\t6\n100\t16\t255\t63\t4294967297\t10\n"
unfolding decimal_of
marked-cell-lines = refl

-- all 29 registers, each 1 at the first end and 2 at the second
pub marked-register-lines :
    lines_of register_line (chosen_from (λ (k : ℕ). true) (λ (k : ℕ). register_pair k 1 2) 0 29)
    ≡ bytes "h\t1\t2\ndo\t1\t2\npd\t1\t2\nv\t1\t2\nd\t1\t2\ne\t1\t2\nmx\t1\t2\nmy\t1\t2\nps\t1\t2\nx\t1\t2\n"
    ++ bytes "y\t1\t2\nbs\t1\t2\nbsh\t1\t2\ndp\t1\t2\nprs\t1\t2\nhve\t1\t2\ns\t1\t2\ntc\t1\t2\nsm\t1\t2\nvop\t1\t2\n"
    ++ bytes "gr\t1\t2\ngs0\t1\t2\ngs1\t1\t2\ngs2\t1\t2\ngs3\t1\t2\ndof\t1\t2\ndm\t1\t2\nec\t1\t2\noc\t1\t2\n"
unfolding decimal_of
marked-register-lines = refl

-- two ends that differ in one cell, column 5 of bank 2, and in X

pub marked-comparison :
    (a b : Compared)
    → get_or a.cells.memory (101 * 2 + 5) 0 ≡ 21
    → get_or b.cells.memory (101 * 2 + 5) 0 ≡ 167
    → get_or a.cells.writers (101 * 2 + 5) 0 ≡ 9
    → get_or b.cells.writers (101 * 2 + 5) 0 ≡ 10
    → ((k : ℕ) → (k ≡ 101 * 2 + 5 → ⊥) → get_or a.cells.memory k 0 ≡ get_or b.cells.memory k 0)
    → ((k : ℕ) → (k ≡ 101 * 2 + 5 → ⊥) → get_or a.cells.writers k 0 ≡ get_or b.cells.writers k 0)
    → get_or a.registers 9 0 ≡ 5
    → get_or b.registers 9 0 ≡ 6
    → ((k : ℕ) → (k ≡ 9 → ⊥) → get_or a.registers k 0 ≡ get_or b.registers k 0)
    → differences_of a b ≡ bytes "column\tbank\tfirst byte\tsecond byte\tfirst event\tsecond event\n5\t2\t21\t167\t9\t10\nx\t5\t6\n"
unfolding differences_of cells_that_differ registers_that_differ decimal_of
marked-comparison a b m n u v memory writers x y registers =
    ap (λ (cs : List CellPair). header ++ (lines_of cell_line cs ++ lines_of register_line (registers_that_differ a.registers b.registers))) (cells places refl)
    ∙ ap (λ (rs : List RegisterPair). header ++ (cell_line (cell_pair 5 2 21 167 9 10) ++ lines_of register_line rs)) one-register
  where
    cells : (t : ℕ) → t ≡ 1717 → chosen_from (cell_differs a.cells b.cells) (cell_pair_at a.cells b.cells) 0 t ≡ cell_pair 5 2 21 167 9 10 ∷ []
    cells t e =
        one-chosen (cell_differs a.cells b.cells) (cell_pair_at a.cells b.cells) t 0 207 (omega arith) (omega arith)
        (so-one-differs (get_or a.cells.memory 207 0) (get_or b.cells.memory 207 0) (get_or a.cells.writers 207 0) (get_or b.cells.writers 207 0)
        (inl (λ z. omega (arith, z, m, n))))
        (λ q away. none-differs (get_or a.cells.memory q 0) (get_or b.cells.memory q 0) (get_or a.cells.writers q 0) (get_or b.cells.writers q 0)
        (memory q away) (writers q away))
        ∙ rw (m, n, u, v)

    one-register : chosen_from (register_differs a.registers b.registers) (register_pair_at a.registers b.registers) 0 29 ≡ register_pair 9 5 6 ∷ []
    one-register =
        one-chosen (register_differs a.registers b.registers) (register_pair_at a.registers b.registers) 29 0 9 (omega arith) (omega arith)
        (so-not-same (get_or a.registers 9 0) (get_or b.registers 9 0) (λ z. omega (arith, z, x, y)))
        (λ q away. so-same (get_or a.registers q 0) (get_or b.registers q 0) (registers q away))
        ∙ rw (x, y)

-- ---- refusals

module _ (a b : Compared) where
  -- it is refused exactly where one of the four memories has another length, and then by 1
  pub differences-refused-exactly : (k : ℕ) (out : List ℕ) → ((differences_call a b out).answer ≡ Refused k) ↔ ((k ≡ 1) × (BothLent a.cells b.cells → ⊥))
  differences-refused-exactly k out =
      refused-by-1 (BothLent a.cells b.cells) (differences_refusal a.cells b.cells) (by-both-lent a.cells b.cells)
      (both-pass a.cells b.cells) (not-both a.cells b.cells) (differences_of a b) out k

  -- the number of its answer: 1 there; else 10 exactly where the output is shorter than the text, 0 exactly where the text was written
  pub differences-number-exactly :
      (out : List ℕ)
      → (BothLent a.cells b.cells → NumberSays listing_number 10 (differences_of a b) out (differences_call a b out))
      × ((BothLent a.cells b.cells → ⊥) → listing_number (differences_call a b out).answer ≡ 1)
  unfolding whole_text
  differences-number-exactly out = (
    λ lent. rw (both-pass a.cells b.cells lent) (number-says 10 (λ z. omega arith) (differences_of a b) out),
    λ n. rw (not-both a.cells b.cells n),
  )

-- ---- what a comparison says of the two captures

module _ (text text' : List ℕ) (end end' : State) (r : Replayed text zeros zeros end) (r' : Replayed text' zeros zeros end') where
  -- it has the cell exactly where the captures left different bytes or name different events, each by its last display byte there
  pub compares-the-last-writers :
      TellsDifferences r.pins r.events end.chip.registers r'.pins r'.events end'.chip.registers
      (differences_of (compared_of end) (compared_of end'))
  unfolding differences_of
  compares-the-last-writers =
      let a : Memories = (compared_of end).cells in
      let b : Memories = (compared_of end').cells in
      record {
        cells = cells_that_differ a b;
        registers = registers_that_differ (values end.chip.registers) (values end'.chip.registers);
        is_text = refl;
        cells_in_order = cells_in_order a b;
        cells_exactly = λ d. (
          λ m. differing-writers text text' end end' r r' d ((cells_exactly a b d).0 m),
          λ h. (cells_exactly a b d).1 (so-differing text text' end end' r r' d h),
        );
        registers_in_order = registers_in_order (values end.chip.registers) (values end'.chip.registers);
        registers_exactly = registers_exactly (values end.chip.registers) (values end'.chip.registers);
      }

-- ---- what is printed of two captures

module _ (m w n v out : List ℕ) (e f : Result End ℕ) where
  -- of two that are replayed from zeros: that text
  pub comparison-prints :
      (text text' : List ℕ) (end end' : State) → meaning e m w ≡ replay_of text zeros zeros → meaning f n v ≡ replay_of text' zeros zeros
      → (h : replay_of text zeros zeros ≡ replayed end) → (h' : replay_of text' zeros zeros ≡ replayed end')
      → (comparison_call e m w f n v out ≡ whole_text 0 (differences_of (compared_of end) (compared_of end')) out)
      × (let r : Replayed text zeros zeros end = (is-replayed text zeros zeros end).0 h in
      let r' : Replayed text' zeros zeros end' = (is-replayed text' zeros zeros end').0 h' in
      TellsDifferences r.pins r.events end.chip.registers r'.pins r'.events end'.chip.registers
      (differences_of (compared_of end) (compared_of end')))
  unfolding comparison_call
  comparison-prints text text' end end' same same' h h' =
      (go (memories-of e m w end (same ∙ h)) (memories-of f n v end' (same' ∙ h')), compares-the-last-writers text text' end end' r r')
    where
      r : Replayed text zeros zeros end
      r = (is-replayed text zeros zeros end).0 h

      r' : Replayed text' zeros zeros end'
      r' = (is-replayed text' zeros zeros end').0 h'

      lent : BothLent (compared_of end).cells (compared_of end').cells
      lent =
          let fit = end-fit text zeros zeros end r in
          let fit' = end-fit text' zeros zeros end' r' in (
            record { memory_long = fit.memory_long; writers_long = fit.writers_long },
            record { memory_long = fit'.memory_long; writers_long = fit'.writers_long },
          )

      go :
          (m ≡ end.memory) × (w ≡ end.writers) → (n ≡ end'.memory) × (v ≡ end'.writers)
          → text_unless (differences_refusal (memories m w) (memories n v)) out (comparison_of (meaning e m w) (meaning f n v) out)
          ≡ whole_text 0 (differences_of (compared_of end) (compared_of end')) out
      go is is' =
          let passed : differences_refusal (memories m w) (memories n v) ≡ 0 =
          rw (is.0, is.1, is'.0, is'.1) (both-pass (compared_of end).cells (compared_of end').cells lent) in
          ap (λ (x : Replay). text_unless (differences_refusal (memories m w) (memories n v)) out (comparison_of x (meaning f n v) out)) (same ∙ h)
          ∙ ap (λ (x : Replay). text_unless (differences_refusal (memories m w) (memories n v)) out (comparison_of (replayed end) x out)) (same' ∙ h')
          ∙ ap (λ (k : ℕ). text_unless k out (comparison_of (replayed end) (replayed end') out)) passed

  -- a memory isn't 1,717 long: 1, whatever the captures came to
  pub comparison-not-lent : (BothLent (memories m w) (memories n v) → ⊥) → comparison_call e m w f n v out ≡ output (Refused 1) out
  unfolding comparison_call
  comparison-not-lent none = rw (not-both (memories m w) (memories n v) none)

  -- both are replayed, on whatever memories
  pub both-replayed :
      BothLent (memories m w) (memories n v) → (s t : State) → meaning e m w ≡ replayed s → meaning f n v ≡ replayed t
      → comparison_call e m w f n v out ≡ whole_text 0 (differences_of (compared_of s) (compared_of t)) out
  unfolding comparison_call
  both-replayed lent s t is is' = rw (both-pass (memories m w) (memories n v) lent, is, is')

  -- one is refused by a number, as a state of a capture that is not allowed is: that number
  pub first-refused-by :
      BothLent (memories m w) (memories n v) → (k : ℕ) (s : State) → meaning e m w ≡ refused_by k s → comparison_call e m w f n v out ≡ output (Refused k) out
  unfolding comparison_call
  first-refused-by lent k s is = rw (both-pass (memories m w) (memories n v) lent, is)

  pub second-refused-by :
      BothLent (memories m w) (memories n v) → (k : ℕ) (s t : State) → meaning e m w ≡ replayed s → meaning f n v ≡ refused_by k t
      → comparison_call e m w f n v out ≡ output (Refused k) out
  unfolding comparison_call
  second-refused-by lent k s t is is' = rw (both-pass (memories m w) (memories n v) lent, is, is')

  module _ (lent : BothLent (memories m w) (memories n v)) (line : ℕ) where
    -- the first is refused at a line: that alone, whatever the second is
    pub first-refused : (s : State) → meaning e m w ≡ refused_at line s → comparison_call e m w f n v out ≡ whole_text 0 (refused_of (bytes "1\t") line) out
    unfolding comparison_call
    first-refused s is = rw (both-pass (memories m w) (memories n v) lent, is)

    -- the second is, and the first is not
    pub second-refused :
        (s t : State) → meaning e m w ≡ replayed s → meaning f n v ≡ refused_at line t
        → comparison_call e m w f n v out ≡ whole_text 0 (refused_of (bytes "2\t") line) out
    unfolding comparison_call
    second-refused s t is is' = rw (both-pass (memories m w) (memories n v) lent, is, is')
