-- The limits of a line, as tests and as facts.
use mathlib.Core.Path.{◌≡◌, refl, subst}
use mathlib.Core.Bool.{Bool, true, false, not, ◌&&◌, ◌||◌}
use Prim.Native.Nat.{ℕ, ◌≤◌, ◌<◌}
use native.Mathlib.Decide.{dec_lt}
use native.Mathlib.Omega.{arith}
use borrow.Author.Tests.{eq-eqb, ne_eqb, leb-true, ltb-true, le-leb, lt-ltb, le-ltb}
use lib.Dec.{eqb, leb, ltb}
use Rattle.registers.specs.Places.{H, X, Y, GR}
use Rattle.text.proofs.Numbers.{and_both}
use Rattle.lists.specs.Line.{is_field, fill_fits}
use Rattle.lists.specs.Syntax.{Field, ValidFill}

-- six bits, or a bank before 16
narrow : (b1 n : ℕ) → ltb b1 16 || leb n 63 ≡ true → b1 ≡ 16 → n ≤ 63
narrow b1 n h e = go (ltb b1 16) refl h
  where
    go : (t : Bool) → ltb b1 16 ≡ t → t || leb n 63 ≡ true → n ≤ 63
    go true l d = absurd (omega (arith, ltb-true b1 16 l))
    go false l d = leb-true n 63 d

narrow-test : (b1 n : ℕ) → b1 ≤ 16 → (b1 ≡ 16 → n ≤ 63) → ltb b1 16 || leb n 63 ≡ true
narrow-test b1 n l h = go (dec_lt b1 16)
  where
    go : Dec (b1 < 16) → ltb b1 16 || leb n 63 ≡ true
    go (yes d) = rw (lt-ltb b1 16 d)
    go (no m) = rw (le-ltb b1 16 (omega arith), le-leb n 63 (h (omega arith)))

module _ (c0 c1 b0 b1 n : ℕ) where
  pub fit-cells : fill_fits c0 c1 b0 b1 n ≡ true → ValidFill c0 c1 b0 b1 n
  fit-cells h =
      let t7 = and_both (leb c0 100 && leb c1 100 && leb b0 16 && leb b1 16 && leb c0 c1 && leb b0 b1 && leb n 255) (ltb b1 16 || leb n 63) h in
      let t6 = and_both (leb c0 100 && leb c1 100 && leb b0 16 && leb b1 16 && leb c0 c1 && leb b0 b1) (leb n 255) t7.0 in
      let t5 = and_both (leb c0 100 && leb c1 100 && leb b0 16 && leb b1 16 && leb c0 c1) (leb b0 b1) t6.0 in
      let t4 = and_both (leb c0 100 && leb c1 100 && leb b0 16 && leb b1 16) (leb c0 c1) t5.0 in
      let t3 = and_both (leb c0 100 && leb c1 100 && leb b0 16) (leb b1 16) t4.0 in
      let t2 = and_both (leb c0 100 && leb c1 100) (leb b0 16) t3.0 in
      let t1 = and_both (leb c0 100) (leb c1 100) t2.0 in
      record {
        columns = leb-true c0 c1 t4.1;
        last_column = leb-true c1 100 t1.1;
        banks = leb-true b0 b1 t5.1;
        last_bank = leb-true b1 16 t3.1;
        byte = leb-true n 255 t6.1;
        six_bits = narrow b1 n t7.1;
      }

  pub cells_fit : ValidFill c0 c1 b0 b1 n → fill_fits c0 c1 b0 b1 n ≡ true
  cells_fit h =
      rw (
        le-leb c0 100 (omega arith),
        le-leb c1 100 h.last_column,
        le-leb b0 16 (omega arith),
        le-leb b1 16 h.last_bank,
        le-leb c0 c1 h.columns,
        le-leb b0 b1 h.banks,
        le-leb n 255 h.byte,
        narrow-test b1 n h.last_bank h.six_bits,
      )

-- a register that a `set` line can name
not_equal : (f g : ℕ) → not (eqb f g) ≡ true → f ≡ g → ⊥
not_equal f g t e =
    let q : not true ≡ true = subst (λ (b : Bool). not b ≡ true) (eq-eqb f g e) t in
    let z : ◌≡◌ {A = ℕ} 0 1 = cc in
    omega arith

module _ (f : ℕ) where
  pub field-tested : is_field f ≡ true → Field f
  field-tested h =
      let t3 = and_both (ltb f 29 && not (eqb f H) && not (eqb f X) && not (eqb f Y)) (not (eqb f GR)) h in
      let t2 = and_both (ltb f 29 && not (eqb f H) && not (eqb f X)) (not (eqb f Y)) t3.0 in
      let t1 = and_both (ltb f 29 && not (eqb f H)) (not (eqb f X)) t2.0 in
      let t0 = and_both (ltb f 29) (not (eqb f H)) t1.0 in
      record {
        place = ltb-true f 29 t0.0;
        not_h = not_equal f H t0.1;
        not_x = not_equal f X t1.1;
        not_y = not_equal f Y t2.1;
        not_gr = not_equal f GR t3.1;
      }

  pub field-test : Field f → is_field f ≡ true
  field-test h = rw (lt-ltb f 29 h.place, ne_eqb f H h.not_h, ne_eqb f X h.not_x, ne_eqb f Y h.not_y, ne_eqb f GR h.not_gr)
