-- What wrong definitions of the listing would make false.
use mathlib.Core.List.Memᴰ
use mathlib.Core.List.{List, [], ◌∷◌, Memᴰ}
use mathlib.Core.Logic.{⊎_elim}
use mathlib.Core.Path.{◌≡◌, refl, subst}
use Prim.Native.Nat.{ℕ, ◌+◌, ◌*◌, ◌<◌}
use native.Mathlib.Omega.{arith}
use lib.ListN.{get_or, length}
use Rattle.chip.specs.LastWriter.{StoredAt, before}
use Rattle.print.specs.Chosen.{InOrder}
use Rattle.capture.specs.Cells.{start}
use Rattle.listing.specs.LastWriters.{NamesLastWriter}
use Rattle.listing.specs.Listing.{Cell, cell, cells_of}
use Rattle.listing.specs.Order.{WrittenCell, Before}
use Rattle.listing.proofs.Laws.{cells_in_order, cells_exactly}

module _ (memory writers : List ℕ) where
  -- by column, then bank: column 0 of bank 1 before column 1 of bank 0
  pub not-by-column : (a b m n : ℕ) → cells_of memory writers ≡ cell 0 1 a m ∷ cell 1 0 b n ∷ [] → ⊥
  not-by-column a b m n e =
      let order = subst (λ (cs : List Cell). InOrder Before cs) e (cells_in_order memory writers) in
      ⊎_elim (λ l. omega (arith, l)) (λ l. omega (arith, l.0)) (order.0 (cell 1 0 b n) (Memᴰ.head refl))

  -- a cell into which event 10 wrote 0 left out
  pub byte-0-not-left-out : WrittenCell memory writers (cell 5 2 0 10) → cells_of memory writers ≡ [] → ⊥
  byte-0-not-left-out h e =
      Memᴰ.not-nil (subst (λ (cs : List Cell). Memᴰ (cell 5 2 0 10) cs) e ((cells_exactly memory writers (cell 5 2 0 10)).1 h))

module _ (pins : ℕ) (es : List ℕ) (c : Cell) (named : NamesLastWriter pins es c) where
  -- events numbered from 0
  pub not-from-0 : c.event ≡ 0 → ⊥
  not-from-0 e = omega (arith, named.numbered)

  -- an event named after which another byte was stored there
  pub not-an-earlier-one :
      (j : ℕ) → c.event < j + 1 → j < length es → StoredAt (get_or es j 0) (before es j (start pins)) (101 * c.bank + c.column) → ⊥
  not-an-earlier-one j l h stored = named.last.is_last j (omega (arith, named.numbered)) h stored
