-- Which cells and registers differ, place by place.
use mathlib.Core.Bool.{Bool, true, false, not, ◌||◌}
use mathlib.Core.List.{List}
use mathlib.Core.Logic.{◌⊎◌, inl, inr}
use mathlib.Core.Path.{◌≡◌, refl, sym, ap, subst}
use Prim.Native.Nat.{ℕ, ◌+◌, ◌*◌, ◌/◌, ◌%◌, ◌<◌}
use native.Mathlib.Omega.{arith}
use borrow.Author.Tests.{eq-eqb, ne_eqb, eqb-false, eqb-true}
use lib.Dec.{eqb}
use lib.ListN.{get_or}
use Rattle.print.specs.Chosen.{IsChosen}
use Rattle.print.proofs.Chosen.{not_same, so-not-same, so-same}
use Rattle.differences.specs.Differences.{Memories, CellPair, cell_pair_at, cell_differs, RegisterPair, register_pair_at, register_differs}
use Rattle.differences.specs.Which.{DifferingCell, CellBefore, DifferingRegister}

-- ---- the tests

module _ (a b c d : ℕ) where
  one-differs : not (eqb a b) || not (eqb c d) ≡ true → (a ≡ b → ⊥) ⊎ (c ≡ d → ⊥)
  one-differs = go (eqb a b) refl
    where
      go : (t : Bool) → eqb a b ≡ t → not t || not (eqb c d) ≡ true → (a ≡ b → ⊥) ⊎ (c ≡ d → ⊥)
      go true e h = inr (not_same c d h)
      go false e h = inl (eqb-false a b e)

  pub so-one-differs : (a ≡ b → ⊥) ⊎ (c ≡ d → ⊥) → not (eqb a b) || not (eqb c d) ≡ true
  so-one-differs (inl n) = rw (ne_eqb a b n)
  so-one-differs (inr n) = go (eqb a b)
    where
      go : (t : Bool) → not t || not (eqb c d) ≡ true
      go true = so-not-same c d n
      go false = refl

  pub none-differs : a ≡ b → c ≡ d → not (eqb a b) || not (eqb c d) ≡ false
  none-differs e f = rw (eq-eqb a b e, eq-eqb c d f)

-- ---- cells

pub cell-one-way : (c d : CellPair) → CellBefore c d → CellBefore d c → ⊥
cell-one-way c d (inl a) (inl b) = omega (arith, a, b)
cell-one-way c d (inl a) (inr b) = omega (arith, a, b.0)
cell-one-way c d (inr a) (inl b) = omega (arith, a.0, b)
cell-one-way c d (inr a) (inr b) = omega (arith, a.1, b.1)

module _ (a b : Memories) where
  pub cell-from-chosen : (end : ℕ) (d : CellPair) → end ≡ 1717 → IsChosen (cell_differs a b) (cell_pair_at a b) 0 end d → DifferingCell a b d
  cell-from-chosen end d e c = subst (λ (q : CellPair). DifferingCell a b q) (sym c.same) (go c.place (omega (arith, c.high)) c.chosen)
    where
      go : (p : ℕ) → p < 1717 → cell_differs a b p ≡ true → DifferingCell a b (cell_pair_at a b p)
      go p h t =
          let place : 101 * (p / 101) + p % 101 ≡ p = omega arith in
          record {
            column_there = omega arith;
            bank_there = omega arith;
            first_stored = ap (λ (q : ℕ). get_or a.memory q 0) place;
            second_stored = ap (λ (q : ℕ). get_or b.memory q 0) place;
            first_writer = ap (λ (q : ℕ). get_or a.writers q 0) place;
            second_writer = ap (λ (q : ℕ). get_or b.writers q 0) place;
            differs = one-differs (get_or a.memory p 0) (get_or b.memory p 0) (get_or a.writers p 0) (get_or b.writers p 0) t;
          }

  pub cell-so-chosen : (end : ℕ) (d : CellPair) → end ≡ 1717 → DifferingCell a b d → IsChosen (cell_differs a b) (cell_pair_at a b) 0 end d
  cell-so-chosen end d e h =
      let column : (101 * d.bank + d.column) % 101 ≡ d.column = omega (arith, h.column_there) in
      let bank : (101 * d.bank + d.column) / 101 ≡ d.bank = omega (arith, h.column_there) in
      record {
        place = 101 * d.bank + d.column;
        low = omega arith;
        high = omega (arith, h.column_there, h.bank_there);
        chosen =
            rw (h.first_stored, h.second_stored, h.first_writer, h.second_writer)
            (so-one-differs d.first_byte d.second_byte d.first_event d.second_event h.differs);
        same = rw (column, bank, h.first_stored, h.second_stored, h.first_writer, h.second_writer);
      }

-- ---- registers

module _ (v w : List ℕ) (d : RegisterPair) where
  pub register-from-chosen : IsChosen (register_differs v w) (register_pair_at v w) 0 29 d → DifferingRegister v w d
  register-from-chosen c =
      subst (λ (q : RegisterPair). DifferingRegister v w q) (sym c.same)
      (record {
        register_there = omega (arith, c.high);
        first_value = refl;
        second_value = refl;
        differs = not_same (get_or v c.place 0) (get_or w c.place 0) c.chosen;
      })

  pub register-so-chosen : DifferingRegister v w d → IsChosen (register_differs v w) (register_pair_at v w) 0 29 d
  register-so-chosen h =
      record {
        place = d.place;
        low = omega arith;
        high = omega (arith, h.register_there);
        chosen = rw (h.first_value, h.second_value) (so-not-same d.first d.second h.differs);
        same = rw (h.first_value, h.second_value);
      }

-- ---- the two exchanged

pub same-exchanged : (a b : ℕ) → not (eqb a b) ≡ not (eqb b a)
same-exchanged a b = go (eqb a b) refl
  where
    go : (t : Bool) → eqb a b ≡ t → not t ≡ not (eqb b a)
    go true e = sym (so-same b a (sym (eqb-true a b e)))
    go false e = sym (so-not-same b a (λ z. eqb-false a b e (sym z)))

pub differs-exchanged : (a b c d : ℕ) → not (eqb a b) || not (eqb c d) ≡ not (eqb b a) || not (eqb d c)
differs-exchanged a b c d = rw (same-exchanged a b, same-exchanged c d)
