-- The cells of a replayed capture's listing name its last writers.
use mathlib.Core.List.{List}
use mathlib.Core.Logic.{inl, inr}
use mathlib.Core.Path.{sym, ◌∙◌}
use Prim.Native.Nat.{ℕ, ◌+◌, ◌*◌}
use native.Mathlib.Nat.{zero-add}
use native.Mathlib.Omega.{arith}
use lib.ListN.{get_or-replicate}
use Rattle.registers.specs.State.{State, places}
use Rattle.chip.proofs.LastWriter.{same-last, same_byte}
use Rattle.capture.specs.Cells.{zeros, CellAfter}
use Rattle.capture.specs.Where.{Replayed}
use Rattle.capture.proofs.Laws.{last-writers}
use Rattle.listing.specs.LastWriters.{NamesLastWriter}
use Rattle.listing.specs.Listing.{Cell}
use Rattle.listing.specs.Order.{WrittenCell}

module _ (text : List ℕ) (end : State) (r : Replayed text zeros zeros end) (c : Cell) where
  pub named : WrittenCell end.memory end.writers c → NamesLastWriter r.pins r.events c
  named h = go (last-writers text end r (101 * c.bank + c.column))
    where
      go : CellAfter r.pins r.events end (101 * c.bank + c.column) → NamesLastWriter r.pins r.events c
      go (inl u) =
          absurd
          (h.written
          (sym h.writer ∙ u.writer ∙ get_or-replicate {A = ℕ} places (101 * c.bank + c.column) 0 0 (omega (arith, h.column_there, h.bank_there))))
      go (inr w) =
          record {
            column_there = h.column_there;
            bank_there = h.bank_there;
            last = w.last;
            numbered = sym h.writer ∙ w.writer ∙ zero-add (w.last.event + 1);
            byte = sym h.stored ∙ w.byte;
          }

  pub listed : NamesLastWriter r.pins r.events c → WrittenCell end.memory end.writers c
  listed n = go (last-writers text end r (101 * c.bank + c.column))
    where
      go : CellAfter r.pins r.events end (101 * c.bank + c.column) → WrittenCell end.memory end.writers c
      go (inl u) = absurd (u.none n.last.event n.last.is_done n.last.is_stored)
      go (inr w) =
          record {
            column_there = n.column_there;
            bank_there = n.bank_there;
            written = λ e. omega (arith, n.numbered, e);
            writer = w.writer ∙ omega (arith, n.numbered, same-last w.last n.last);
            stored = w.byte ∙ same_byte w.last n.last ∙ sym n.byte;
          }
