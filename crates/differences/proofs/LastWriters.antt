-- What a replayed capture left in a cell; so which cells differ comes from the last display bytes of both captures.
use mathlib.Core.List.{List}
use mathlib.Core.Logic.{inl, inr}
use mathlib.Core.Path.{◌≡◌, sym, ◌∙◌}
use Prim.Native.Nat.{ℕ, ◌+◌, ◌*◌, ◌≤◌}
use native.Mathlib.Omega.{arith}
use lib.ListN.{get_or, get_or-replicate}
use Rattle.registers.specs.State.{State, places}
use Rattle.capture.specs.Cells.{zeros, CellAfter}
use Rattle.capture.specs.Where.{Replayed}
use Rattle.capture.proofs.Laws.{last-writers}
use Rattle.listing.specs.Listing.{Cell}
use Rattle.listing.proofs.LastWriters.{named, listed}
use Rattle.differences.specs.Comparison.{compared_of}
use Rattle.differences.specs.Differences.{CellPair}
use Rattle.differences.specs.LastWriters.{LeftBy, DifferingWriters}
use Rattle.differences.specs.Which.{DifferingCell, first_cell, second_cell}

-- the cell's byte and event are those at its place
record CellThere (memory writers : List ℕ) (c : Cell) : Type 0 where
  pub column_there : c.column ≤ 100
  pub bank_there : c.bank ≤ 16
  pub writer : get_or writers (101 * c.bank + c.column) 0 ≡ c.event
  pub stored : get_or memory (101 * c.bank + c.column) 0 ≡ c.byte

module _ (text : List ℕ) (end : State) (r : Replayed text zeros zeros end) (c : Cell) where
  zero-there : c.column ≤ 100 → c.bank ≤ 16 → get_or zeros (101 * c.bank + c.column) 0 ≡ 0
  zero-there column bank = get_or-replicate {A = ℕ} places (101 * c.bank + c.column) 0 0 (omega arith)

  left_by : CellThere end.memory end.writers c → LeftBy r.pins r.events c
  left_by h = go (last-writers text end r (101 * c.bank + c.column))
    where
      zero-here : get_or zeros (101 * c.bank + c.column) 0 ≡ 0
      zero-here = zero-there h.column_there h.bank_there

      go : CellAfter r.pins r.events end (101 * c.bank + c.column) → LeftBy r.pins r.events c
      go (inl u) =
          inl
          (record {
            column_there = h.column_there;
            bank_there = h.bank_there;
            no_event = sym h.writer ∙ u.writer ∙ zero-here;
            no_byte = sym h.stored ∙ u.byte ∙ zero-here;
            none_stored = u.none;
          })
      go (inr w) =
          inr
          (named text end r c
          (record {
            column_there = h.column_there;
            bank_there = h.bank_there;
            written = λ z. omega (arith, h.writer, w.writer);
            writer = h.writer;
            stored = h.stored;
          }))

  so-there : LeftBy r.pins r.events c → CellThere end.memory end.writers c
  so-there (inl never) = go (last-writers text end r (101 * c.bank + c.column))
    where
      zero-here : get_or zeros (101 * c.bank + c.column) 0 ≡ 0
      zero-here = zero-there never.column_there never.bank_there

      go : CellAfter r.pins r.events end (101 * c.bank + c.column) → CellThere end.memory end.writers c
      go (inl u) =
          record {
            column_there = never.column_there;
            bank_there = never.bank_there;
            writer = u.writer ∙ zero-here ∙ sym never.no_event;
            stored = u.byte ∙ zero-here ∙ sym never.no_byte;
          }
      go (inr w) = absurd (never.none_stored w.last.event w.last.is_done w.last.is_stored)
  so-there (inr n) =
      let h = listed text end r c n in
      record { column_there = h.column_there; bank_there = h.bank_there; writer = h.writer; stored = h.stored }

module _
    (text text' : List ℕ) (end end' : State) (r : Replayed text zeros zeros end) (r' : Replayed text' zeros zeros end') (d : CellPair) where
  pub differing-writers :
      DifferingCell (compared_of end).cells (compared_of end').cells d → DifferingWriters r.pins r.events r'.pins r'.events d
  differing-writers h =
      record {
        first_left =
            left_by text end r (first_cell d)
            (record { column_there = h.column_there; bank_there = h.bank_there; writer = h.first_writer; stored = h.first_stored });
        second_left =
            left_by text' end' r' (second_cell d)
            (record { column_there = h.column_there; bank_there = h.bank_there; writer = h.second_writer; stored = h.second_stored });
        differs = h.differs;
      }

  pub so-differing :
      DifferingWriters r.pins r.events r'.pins r'.events d → DifferingCell (compared_of end).cells (compared_of end').cells d
  so-differing h =
      let first = so-there text end r (first_cell d) h.first_left in
      let second = so-there text' end' r' (second_cell d) h.second_left in
      record {
        column_there = first.column_there;
        bank_there = first.bank_there;
        first_stored = first.stored;
        second_stored = second.stored;
        first_writer = first.writer;
        second_writer = second.writer;
        differs = h.differs;
      }
