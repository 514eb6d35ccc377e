-- The cells of the listing, place by place.
use mathlib.Core.List.{List}
use mathlib.Core.Logic.{◌⊎◌, inl, inr}
use mathlib.Core.Path.{◌≡◌, sym, ap, subst}
use Prim.Native.Nat.{ℕ, ◌+◌, ◌*◌, ◌/◌, ◌%◌, ◌<◌}
use native.Mathlib.Decide.{dec_lt}
use native.Mathlib.Omega.{arith}
use lib.ListN.{get_or}
use Rattle.print.specs.Chosen.{IsChosen}
use Rattle.print.proofs.Chosen.{not_same, so-not-same}
use Rattle.listing.specs.Listing.{Cell, cell_at, is_written}
use Rattle.listing.specs.Order.{WrittenCell}

-- a smaller place comes before a larger one, by bank, then column
pub place-order : (k p : ℕ) → k < p → (k / 101 < p / 101) ⊎ ((k / 101 ≡ p / 101) × (k % 101 < p % 101))
place-order k p h = go (dec_lt (k / 101) (p / 101))
  where
    go : Dec (k / 101 < p / 101) → (k / 101 < p / 101) ⊎ ((k / 101 ≡ p / 101) × (k % 101 < p % 101))
    go (yes l) = inl l
    go (no m) = inr (omega arith, omega arith)

-- ---- which cells have a writer

module _ (memory writers : List ℕ) where
  pub from-chosen : (end : ℕ) (r : Cell) → end ≡ 1717 → IsChosen (is_written writers) (cell_at memory writers) 0 end r → WrittenCell memory writers r
  from-chosen end r e c =
      subst (λ (q : Cell). WrittenCell memory writers q) (sym c.same)
      (go c.place (omega (arith, c.high)) (not_same (get_or writers c.place 0) 0 c.chosen))
    where
      go : (p : ℕ) → p < 1717 → (get_or writers p 0 ≡ 0 → ⊥) → WrittenCell memory writers (cell_at memory writers p)
      go p h w =
          let place : 101 * (p / 101) + p % 101 ≡ p = omega arith in
          record {
            column_there = omega arith;
            bank_there = omega arith;
            written = w;
            writer = ap (λ (q : ℕ). get_or writers q 0) place;
            stored = ap (λ (q : ℕ). get_or memory q 0) place;
          }

  pub so-chosen : (end : ℕ) (r : Cell) → end ≡ 1717 → WrittenCell memory writers r → IsChosen (is_written writers) (cell_at memory writers) 0 end r
  so-chosen end r e h =
      let column : (101 * r.bank + r.column) % 101 ≡ r.column = omega (arith, h.column_there) in
      let bank : (101 * r.bank + r.column) / 101 ≡ r.bank = omega (arith, h.column_there) in
      record {
        place = 101 * r.bank + r.column;
        low = omega arith;
        high = omega (arith, h.column_there, h.bank_there);
        chosen = so-not-same (get_or writers (101 * r.bank + r.column) 0) 0 (λ z. h.written (subst (λ (n : ℕ). n ≡ 0) h.writer z));
        same = rw (column, bank, h.writer, h.stored);
      }
