-- What wrong definitions of a comparison would make false.
use mathlib.Core.List.Memᴰ
use mathlib.Core.List.{List, [], ◌∷◌, Memᴰ}
use mathlib.Core.Logic.{⊎_elim}
use mathlib.Core.Path.{◌≡◌, refl, subst}
use Prim.Native.Nat.{ℕ, ◌+◌}
use native.Mathlib.Omega.{arith}
use Rattle.print.specs.Chosen.{InOrder}
use Rattle.differences.specs.Differences.{Memories, CellPair, cell_pair, cells_that_differ, RegisterPair, register_pair, registers_that_differ}
use Rattle.differences.specs.Which.{DifferingCell, CellBefore, DifferingRegister, RegisterBefore}
use Rattle.differences.proofs.Laws.{cells_in_order, cells_exactly, registers_in_order, registers_exactly}

module _ (a b : Memories) where
  -- by column, then bank: column 0 of bank 1 before column 1 of bank 0
  pub not-by-column : (u v m n w x o p : ℕ) → cells_that_differ a b ≡ cell_pair 0 1 u v m n ∷ cell_pair 1 0 w x o p ∷ [] → ⊥
  not-by-column u v m n w x o p e =
      let order = subst (λ (ds : List CellPair). InOrder CellBefore ds) e (cells_in_order a b) in
      ⊎_elim (λ l. omega (arith, l)) (λ l. omega (arith, l.0)) (order.0 (cell_pair 1 0 w x o p) (Memᴰ.head refl))

  -- a cell left out: one that holds the same byte, written by other events, and one that only the second capture wrote, with a 0
  pub same-byte-not-left-out : DifferingCell a b (cell_pair 5 2 167 167 10 12) → cells_that_differ a b ≡ [] → ⊥
  same-byte-not-left-out h e =
      Memᴰ.not-nil (subst (λ (ds : List CellPair). Memᴰ (cell_pair 5 2 167 167 10 12) ds) e ((cells_exactly a b (cell_pair 5 2 167 167 10 12)).1 h))

  pub written-0-not-left-out : DifferingCell a b (cell_pair 5 2 0 0 0 12) → cells_that_differ a b ≡ [] → ⊥
  written-0-not-left-out h e =
      Memᴰ.not-nil (subst (λ (ds : List CellPair). Memᴰ (cell_pair 5 2 0 0 0 12) ds) e ((cells_exactly a b (cell_pair 5 2 0 0 0 12)).1 h))

  -- a cell listed that is the same in both
  pub same-cell-not-listed : (c k v n : ℕ) → Memᴰ (cell_pair c k v v n n) (cells_that_differ a b) → ⊥
  same-cell-not-listed c k v n m = ⊎_elim (λ no. no refl) (λ no. no refl) ((cells_exactly a b (cell_pair c k v v n n)).0 m).differs

module _ (v w : List ℕ) where
  -- X, place 9, which drawing lists don't set, left out
  pub x-not-left-out : DifferingRegister v w (register_pair 9 6 7) → registers_that_differ v w ≡ [] → ⊥
  x-not-left-out h e =
      Memᴰ.not-nil (subst (λ (ds : List RegisterPair). Memᴰ (register_pair 9 6 7) ds) e ((registers_exactly v w (register_pair 9 6 7)).1 h))

  -- the grey registers before GR
  pub gr-not-last : (i j k l : ℕ) → registers_that_differ v w ≡ register_pair 21 i j ∷ register_pair 20 k l ∷ [] → ⊥
  gr-not-last i j k l e =
      let order = subst (λ (ds : List RegisterPair). InOrder RegisterBefore ds) e (registers_in_order v w) in
      omega (arith, order.0 (register_pair 20 k l) (Memᴰ.head refl))

  -- a thirtieth: pins, status, last RS, phase or count
  pub nothing-else-listed : (k i j : ℕ) → Memᴰ (register_pair (29 + k) i j) (registers_that_differ v w) → ⊥
  nothing-else-listed k i j m = omega (arith, ((registers_exactly v w (register_pair (29 + k) i j)).0 m).register_there)
