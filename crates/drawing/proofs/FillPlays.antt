-- A whole fill, whatever V and MX are: its events leave the cells that the plain reading says.
use mathlib.Core.Bool.{Bool, true, false, cond, ◌&&◌}
use mathlib.Core.List.{List, [], ◌∷◌}
use mathlib.Core.Path.{◌≡◌, refl, sym, ap, ◌∙◌, subst}
use Prim.Native.Nat.{ℕ, zero, suc, ◌+◌, ◌-◌, ◌/◌, ◌%◌, ◌≤◌, ◌<◌}
use native.Mathlib.Nat.{zero-add, suc-add, add-suc, add-zero, le_of_suc-le-suc, not-suc-le-zero}
use native.Mathlib.Omega.{arith}
use borrow.Author.Tests.{eqb-true, eqb-false, leb-true, le-leb}
use lib.Dec.{eqb, leb}
use lib.ListN.{get_or, length}
use lib.Seq.{ext_get_or}
use Rattle.registers.specs.declared.Registers.{Registers}
use Rattle.registers.specs.Places.{«V»}
use Rattle.registers.specs.Record.{blank}
use Rattle.registers.specs.State.{State}
use Rattle.registers.proofs.Below.{true-false}
use Rattle.registers.proofs.Within.{register-bound, both_left, both_right}
use Rattle.chip.specs.Rectangles.{In, Fills}
use Rattle.chip.specs.Plays.{Plays, Visible}
use Rattle.chip.proofs.Plays.{plays-weaken}
use Rattle.lists.specs.Syntax.{ValidFill}
use Rattle.drawing.specs.Plain.{is_inside, filled_from, filled}
use Rattle.drawing.specs.Stream.{across, down, fill, first_x}
use Rattle.drawing.proofs.RunPlays.{Drawn, seen-allowed, across-plays, down-plays}

-- ---- the plain reading fills the same cells

from-length : (c0 c1 b0 b1 n k : ℕ) (m : List ℕ) → length (filled_from c0 c1 b0 b1 n k m) ≡ length m
from-length c0 c1 b0 b1 n k [] = refl
from-length c0 c1 b0 b1 n k (x ∷ m) = ap suc (from-length c0 c1 b0 b1 n (suc k) m)

from_at :
    (c0 c1 b0 b1 n k : ℕ) (m : List ℕ) (i : ℕ) → i < length m → get_or (filled_from c0 c1 b0 b1 n k m) i 0 ≡ cond (is_inside c0 c1 b0 b1 (k + i)) n (get_or m i 0)
from_at c0 c1 b0 b1 n k [] i h = absurd (not-suc-le-zero h)
from_at c0 c1 b0 b1 n k (x ∷ m) zero h = ap (λ (j : ℕ). cond (is_inside c0 c1 b0 b1 j) n x) (sym (add-zero k))
from_at c0 c1 b0 b1 n k (x ∷ m) (suc i) h =
    from_at c0 c1 b0 b1 n (suc k) m i (le_of_suc-le-suc h) ∙ ap (λ (j : ℕ). cond (is_inside c0 c1 b0 b1 j) n (get_or m i 0)) (suc-add k i ∙ sym (add-suc k i))

pub filled-length : (c0 c1 b0 b1 n : ℕ) (m : List ℕ) → length (filled c0 c1 b0 b1 n m) ≡ length m
unfolding filled
filled-length c0 c1 b0 b1 n m = from-length c0 c1 b0 b1 n 0 m

filled_at :
    (c0 c1 b0 b1 n : ℕ) (m : List ℕ) (i : ℕ) → i < length m → get_or (filled c0 c1 b0 b1 n m) i 0 ≡ cond (is_inside c0 c1 b0 b1 i) n (get_or m i 0)
unfolding filled
filled_at c0 c1 b0 b1 n m i h =
    from_at c0 c1 b0 b1 n 0 m i h ∙ ap (λ (j : ℕ). cond (is_inside c0 c1 b0 b1 j) n (get_or m i 0)) (zero-add i)

record Bounds (c0 c1 b0 b1 k : ℕ) : Type 0 where
  first-column : c0 ≤ k % 101
  last_column : k % 101 ≤ c1
  first-bank : b0 ≤ k / 101
  last_bank : k / 101 ≤ b1

inside-bounds : (c0 c1 b0 b1 k : ℕ) → is_inside c0 c1 b0 b1 k ≡ true → Bounds c0 c1 b0 b1 k
inside-bounds c0 c1 b0 b1 k h =
    let abc = both_left (leb c0 (k % 101) && leb (k % 101) c1 && leb b0 (k / 101)) (leb (k / 101) b1) h in
    let ab = both_left (leb c0 (k % 101) && leb (k % 101) c1) (leb b0 (k / 101)) abc in
    record {
      first-column = leb-true _ _ (both_left (leb c0 (k % 101)) (leb (k % 101) c1) ab);
      last_column = leb-true _ _ (both_right (leb c0 (k % 101)) (leb (k % 101) c1) ab);
      first-bank = leb-true _ _ (both_right (leb c0 (k % 101) && leb (k % 101) c1) (leb b0 (k / 101)) abc);
      last_bank = leb-true _ _ (both_right (leb c0 (k % 101) && leb (k % 101) c1 && leb b0 (k / 101)) (leb (k / 101) b1) h);
    }

bounds-inside : (c0 c1 b0 b1 k : ℕ) → Bounds c0 c1 b0 b1 k → is_inside c0 c1 b0 b1 k ≡ true
bounds-inside c0 c1 b0 b1 k i =
    simp (le-leb _ _ i.first-column, le-leb _ _ i.last_column, le-leb _ _ i.first-bank, le-leb _ _ i.last_bank)

-- ---- columns and X-addresses

module _ (t : Bool) (c0 c1 c : ℕ) (order : c0 ≤ c1) (last : c1 ≤ 100) (low : c ≤ 100) where
  left_in : cond t (100 - c1) c0 ≤ cond t (100 - c) c → cond t (100 - c) c < cond t (100 - c1) c0 + (c1 - c0 + 1) → (c0 ≤ c) × (c ≤ c1)
  left_in = go t
    where
      go : (t : Bool) → cond t (100 - c1) c0 ≤ cond t (100 - c) c → cond t (100 - c) c < cond t (100 - c1) c0 + (c1 - c0 + 1) → (c0 ≤ c) × (c ≤ c1)
      go true a b = (omega arith, omega arith)
      go false a b = (omega arith, omega arith)

  in_left : c0 ≤ c → c ≤ c1 → (cond t (100 - c1) c0 ≤ cond t (100 - c) c) × (cond t (100 - c) c < cond t (100 - c1) c0 + (c1 - c0 + 1))
  in_left = go t
    where
      go : (t : Bool) → c0 ≤ c → c ≤ c1 → (cond t (100 - c1) c0 ≤ cond t (100 - c) c) × (cond t (100 - c) c < cond t (100 - c1) c0 + (c1 - c0 + 1))
      go true a b = (omega arith, omega arith)
      go false a b = (omega arith, omega arith)

-- the columns of a fill are X-addresses of the glass
pub first-x-limit : (t : Bool) (c0 c1 : ℕ) → c0 ≤ c1 → c1 ≤ 100 → (cond t (100 - c1) c0 + (c1 - c0 + 1) ≤ 101) × (cond t (100 - c1) c0 ≤ 100)
first-x-limit true c0 c1 o l = (omega arith, omega arith)
first-x-limit false c0 c1 o l = (omega arith, omega arith)

-- ---- the fill

module _ (mx c0 c1 b0 b1 n : ℕ) (fits : ValidFill c0 c1 b0 b1 n) (m m' : List ℕ)
    (fills : Fills (In mx (first_x mx c0 c1) (c1 - c0 + 1) b0 (b1 - b0 + 1)) n m m')
  where
    pub filled-plain : m' ≡ filled c0 c1 b0 b1 n m
    filled-plain =
        ext_get_or 0 m' (filled c0 c1 b0 b1 n m) (fills.same_length ∙ sym (filled-length c0 c1 b0 b1 n m))
        (λ i h. let l : i < length m = subst (λ (k : ℕ). i < k) fills.same_length h in
        at i l (is_inside c0 c1 b0 b1 i) refl ∙ sym (filled_at c0 c1 b0 b1 n m i l))
      where
        at : (i : ℕ) → i < length m → (t : Bool) → is_inside c0 c1 b0 b1 i ≡ t → get_or m' i 0 ≡ cond (is_inside c0 c1 b0 b1 i) n (get_or m i 0)
        at i l true e =
            let w = inside-bounds c0 c1 b0 b1 i e in
            let x = in_left (eqb mx 1) c0 c1 (i % 101) fits.columns fits.last_column (omega arith) w.first-column w.last_column in
            fills.inside i l (record { left = x.0; right = x.1; top = w.first-bank; bottom = omega (arith, w.last_bank, fits.banks) })
            ∙ sym (ap (λ (t : Bool). cond t n (get_or m i 0)) e)
        at i l false e =
            fills.outside i
            (λ w. let x = left_in (eqb mx 1) c0 c1 (i % 101) fits.columns fits.last_column (omega arith) w.left w.right in
            true-false (sym (bounds-inside c0 c1 b0 b1 i
            (record { first-column = x.0; last_column = x.1; first-bank = w.top; last_bank = omega (arith, w.bottom, fits.banks) })) ∙ e))
            ∙ sym (ap (λ (t : Bool). cond t n (get_or m i 0)) e)

-- a state that shows registers q, but H, X and Y, and the cells m
pub record Shows (q : Registers) (m : List ℕ) (pins n : ℕ) (s : State) : Type 0 where
  pub full : Registers
  pub visible : Visible full m pins n s
  pub same : blank full ≡ q

pub fill-plays :
    (c0 c1 b0 b1 n : ℕ) → ValidFill c0 c1 b0 b1 n → (q : Registers) (m : List ℕ) (pins k : ℕ) (s : State)
    → Shows q m pins (length (fill pins q c0 c1 b0 b1 n) + k) s
    → Plays (fill pins q c0 c1 b0 b1 n) (Shows q (filled c0 c1 b0 b1 n m) pins k) s
fill-plays c0 c1 b0 b1 n fits q m pins k s shows = go (eqb q.v 1) refl
  where
    end :
        (es : List ℕ) → Plays es (Drawn (In q.mx (first_x q.mx c0 c1) (c1 - c0 + 1) b0 (b1 - b0 + 1)) n m q pins k) s
        → Plays es (Shows q (filled c0 c1 b0 b1 n m) pins k) s
    end es p =
        plays-weaken es (Drawn (In q.mx (first_x q.mx c0 c1) (c1 - c0 + 1) b0 (b1 - b0 + 1)) n m q pins k) (Shows q (filled c0 c1 b0 b1 n m) pins k) s
        (λ t d.
        record {
          full = d.full;
          visible = subst (λ (x : List ℕ). Visible d.full x pins k t) (filled-plain q.mx c0 c1 b0 b1 n fits m d.memory d.fills) d.visible;
          same = d.same;
        })
        p

    low : (first_x q.mx c0 c1 + (c1 - c0 + 1) ≤ 101) × (first_x q.mx c0 c1 ≤ 100)
    low = first-x-limit (eqb q.mx 1) c0 c1 fits.columns fits.last_column

    v_low : q.v ≤ 1
    v_low =
        subst (λ (v : ℕ). v ≤ 1) (ap (λ (x : Registers). x.v) shows.same)
        (register-bound shows.full (seen-allowed shows.full m pins (length (fill pins q c0 c1 b0 b1 n) + k) s shows.visible) «V»)

    go : (x : Bool) → eqb q.v 1 ≡ x → Plays (fill pins q c0 c1 b0 b1 n) (Shows q (filled c0 c1 b0 b1 n m) pins k) s
    go true e =
        let D = down pins q b0 (b1 - b0 + 1) n (first_x q.mx c0 c1) (c1 - c0 + 1) in
        let A = across pins q (first_x q.mx c0 c1) (c1 - c0 + 1) n b0 (b1 - b0 + 1) in
        subst (λ (x : Bool). Plays (cond x D A) (Shows q (filled c0 c1 b0 b1 n m) pins k) s) (sym e)
        (end D
        (down-plays (c1 - c0 + 1) shows.full q (first_x q.mx c0 c1) (b1 - b0 + 1) b0 n pins k m s shows.same (eqb-true _ _ e) low.0
        (omega (arith, fits.banks, fits.last_bank)) (omega (arith, fits.banks, fits.last_bank)) (omega (arith, fits.byte))
        (λ w. omega (arith, fits.six_bits (omega (arith, fits.banks))))
        (subst (λ (x : Bool). Visible shows.full m pins (length (cond x D A) + k) s) e shows.visible)))
    go false e =
        let D = down pins q b0 (b1 - b0 + 1) n (first_x q.mx c0 c1) (c1 - c0 + 1) in
        let A = across pins q (first_x q.mx c0 c1) (c1 - c0 + 1) n b0 (b1 - b0 + 1) in
        subst (λ (x : Bool). Plays (cond x D A) (Shows q (filled c0 c1 b0 b1 n m) pins k) s) (sym e)
        (end A
        (across-plays (b1 - b0 + 1) shows.full q (first_x q.mx c0 c1) (c1 - c0 + 1) b0 n pins k m s shows.same
        (omega (arith, v_low, eqb-false q.v 1 e)) low.0 low.1 (omega (arith, fits.banks, fits.last_bank)) (omega (arith, fits.byte))
        (λ w. omega (arith, fits.six_bits (omega (arith, fits.banks))))
        (subst (λ (x : Bool). Visible shows.full m pins (length (cond x D A) + k) s) e shows.visible)))
