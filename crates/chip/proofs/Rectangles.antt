-- Runs of display bytes fill rectangles, one X or one bank wide; rectangles that touch join.
use mathlib.Core.Bool.{Bool, true, false, cond}
use mathlib.Core.List.{List}
use mathlib.Core.Path.{◌≡◌, refl, sym, ap, ◌∙◌, subst}
use Prim.Native.Nat.{ℕ, zero, suc, ◌+◌, ◌*◌, ◌/◌, ◌%◌, ◌-◌, ◌≤◌, ◌<◌}
use native.Mathlib.Decide.{dec_le, dec_lt, ℕ_discrete}
use native.Mathlib.Omega.{arith}
use borrow.Author.Tests.{eq-eqb, ne_eqb, lt-ltb}
use lib.Dec.{eqb, ltb, eqb→eq, ltb→lt}
use lib.ListN.{get_or, set, length, replicate, length-set}
use lib.Seq.{get_or-set_same, get_or-set_other}
use Rattle.registers.specs.declared.Registers.{Registers}
use Rattle.registers.specs.Places.{X, Y}
use Rattle.registers.specs.Record.{put}
use Rattle.registers.specs.Reversed.{reversed_of, ordered}
use Rattle.registers.proofs.Below.{below_at}
use Rattle.display.specs.Display
use Rattle.display.specs.Display.{stored_of, place_of, next_address}
use Rattle.chip.specs.Rectangles.{mirrored_by, In, Fills}
use Rattle.chip.specs.Plays
use Rattle.chip.specs.Plays.{written}

-- ---- filling

pub in-or-out : (mx x nx y ny k : ℕ) → Dec (In mx x nx y ny k)
in-or-out mx x nx y ny k =
    go (dec_le x (mirrored_by mx (k % 101))) (dec_lt (mirrored_by mx (k % 101)) (x + nx)) (dec_le y (k / 101)) (dec_lt (k / 101) (y + ny))
  where
    go :
        Dec (x ≤ mirrored_by mx (k % 101)) → Dec (mirrored_by mx (k % 101) < x + nx) → Dec (y ≤ k / 101) → Dec (k / 101 < y + ny) → Dec (In mx x nx y ny k)
    go (yes a) (yes b) (yes c) (yes d) = yes (record { left = a; right = b; top = c; bottom = d })
    go (no a) _ _ _ = no (λ i. a i.left)
    go (yes a) (no b) _ _ = no (λ i. b i.right)
    go (yes a) (yes b) (no c) _ = no (λ i. c i.top)
    go (yes a) (yes b) (yes c) (no d) = no (λ i. d i.bottom)

-- nothing inside: nothing filled
pub fills-none : (In' : ℕ → Type 0) (b : ℕ) (m : List ℕ) → ((k : ℕ) → In' k → ⊥) → Fills In' b m m
fills-none In' b m n = record { same_length = refl; inside = λ k l i. absurd (n k i); outside = λ k o. refl }

-- A, then B: together C
pub fills-both :
    (A B C : ℕ → Type 0) (b : ℕ) (m m₁ m₂ : List ℕ) → ((k : ℕ) → Dec (B k)) → ((k : ℕ) → A k → C k) → ((k : ℕ) → B k → C k)
    → ((k : ℕ) → C k → (B k → ⊥) → A k) → Fills A b m m₁ → Fills B b m₁ m₂ → Fills C b m m₂
fills-both A B C b m m₁ m₂ dec ac bc rest p q =
    record {
      same_length = q.same_length ∙ p.same_length;
      inside = λ k l c. here k l c (dec k);
      outside = λ k o. q.outside k (λ x. o (bc k x)) ∙ p.outside k (λ x. o (ac k x));
    }
  where
    here : (k : ℕ) → k < length m → C k → Dec (B k) → get_or m₂ k 0 ≡ b
    here k l c (yes x) = q.inside k (subst (λ (n : ℕ). k < n) (sym p.same_length) l) x
    here k l c (no x) = q.outside k x ∙ p.inside k l (rest k c x)

-- ---- one display byte

involution : (t : Bool) (a n : ℕ) → n ≤ 100 → a ≤ 100 → cond t (100 - a) a ≡ n → a ≡ cond t (100 - n) n
involution true a n l h e = omega arith
involution false a n l h e = e

mirror-low : (t : Bool) (n : ℕ) → n ≤ 100 → cond t (100 - n) n ≤ 100
mirror-low true n h = omega arith
mirror-low false n h = h

one_place : (mx x y k : ℕ) → x ≤ 100 → In mx x 1 y 1 k → k ≡ 101 * y + mirrored_by mx x
one_place mx x y k h i =
    let c : k % 101 ≡ mirrored_by mx x = involution (eqb mx 1) (k % 101) x h (omega arith) (omega (arith, i.left, i.right)) in
    omega (arith, c, i.top, i.bottom)

at_place : (mx x y : ℕ) → x ≤ 100 → In mx x 1 y 1 (101 * y + mirrored_by mx x)
at_place mx x y h =
    let low = mirror-low (eqb mx 1) x h in
    let c : (101 * y + mirrored_by mx x) % 101 ≡ mirrored_by mx x = omega (arith, low) in
    let d : (101 * y + mirrored_by mx x) / 101 ≡ y = omega (arith, low) in
    let back : mirrored_by mx ((101 * y + mirrored_by mx x) % 101) ≡ x = ap (mirrored_by mx) c ∙ sym (involution (eqb mx 1) x (mirrored_by mx x) low h refl) in
    record { left = omega (arith, back); right = omega (arith, back); top = omega (arith, d); bottom = omega (arith, d) }

fills-cell :
    (mx x y b : ℕ) (m : List ℕ) → x ≤ 100 → y ≤ 16 → length m ≡ 1717 → Fills (In mx x 1 y 1) b m (set m (101 * y + mirrored_by mx x) b)
fills-cell mx x y b m hx hy len =
    record {
      same_length = length-set m (101 * y + mirrored_by mx x) b;
      inside = λ k l i.
          ap (λ (n : ℕ). get_or (set m (101 * y + mirrored_by mx x) b) n 0) (one_place mx x y k hx i)
          ∙ get_or-set_same m (101 * y + mirrored_by mx x) b 0 (omega (arith, mirror-low (eqb mx 1) x hx));
      outside = λ k o. get_or-set_other m (101 * y + mirrored_by mx x) k b 0 (λ e. o (subst (In mx x 1 y 1) (sym e) (at_place mx x y hx)));
    }

-- a byte that was sent as DO says is stored as it was meant
reversed-twice : (b : ℕ) → b < 256 → reversed_of (reversed_of b) ≡ b
reversed-twice b h = eqb→eq (reversed_of (reversed_of b)) b (below_at 256 (λ (n : ℕ). eqb (reversed_of (reversed_of n)) n) tt b h)

pub reversed-byte : (b : ℕ) → b < 256 → reversed_of b < 256
reversed-byte b h = ltb→lt (reversed_of b) 256 (below_at 256 (λ (n : ℕ). ltb (reversed_of n) 256) tt b h)

ordered-twice : (t : Bool) (b : ℕ) → b < 256 → cond t (reversed_of (cond t (reversed_of b) b)) (cond t (reversed_of b) b) ≡ b
ordered-twice true b h = reversed-twice b h
ordered-twice false b h = refl

pub stored_back : (r : Registers) (b : ℕ) → b < 256 → (r.y ≡ 16 → b < 64) → stored_of r (ordered r.data_order b) ≡ b
unfolding stored_of
stored_back r b h bank = go (ℕ_discrete r.y 16)
  where
    go : Dec (r.y ≡ 16) → cond (eqb r.y 16) (ordered r.data_order (ordered r.data_order b) % 64) (ordered r.data_order (ordered r.data_order b)) ≡ b
    go (yes e) = simp (eq-eqb _ _ e, ordered-twice (eqb r.data_order 1) b h) (omega (arith, bank e))
    go (no n) = simp (ne_eqb _ _ n) (ordered-twice (eqb r.data_order 1) b h)

-- ---- a run of display bytes

same_run : (r : Registers) → r.v ≡ 0 → r.x < 100 → next_address r ≡ put Y r.y (put X (r.x + 1) r)
unfolding next_address
same_run r v h = simp (ne_eqb r.v 1 (λ e. omega (arith, v)), lt-ltb r.x 100 h)

next_down : (r : Registers) → r.v ≡ 1 → r.y < 16 → next_address r ≡ put Y (r.y + 1) (put X r.x r)
unfolding next_address
next_down r v h = simp (eq-eqb r.v 1 v, lt-ltb r.y 16 h)

one_cell :
    (r : Registers) (m : List ℕ) (b : ℕ) → r.x ≤ 100 → r.y ≤ 16 → length m ≡ 1717 → b < 256 → (r.y ≡ 16 → b < 64)
    → Fills (In r.mx r.x 1 r.y 1) b m (set m (place_of r) (stored_of r (ordered r.data_order b)))
unfolding place_of Display.column_of
one_cell r m b hx hy len hb bank =
    subst (λ (n : ℕ). Fills (In r.mx r.x 1 r.y 1) b m (set m (101 * r.y + mirrored_by r.mx r.x) n)) (sym (stored_back r b hb bank))
    (fills-cell r.mx r.x r.y b m hx hy len)

-- V = 0: n bytes along a bank
pub across-fills :
    (n : ℕ) (r : Registers) (m : List ℕ) (b : ℕ) → r.v ≡ 0 → r.x + n ≤ 101 → r.y ≤ 16 → length m ≡ 1717 → b < 256 → (r.y ≡ 16 → b < 64)
    → Fills (In r.mx r.x n r.y 1) b m (written (replicate n (ordered r.data_order b)) r m)
unfolding Plays.written
across-fills zero r m b v hx hy len hb bank = fills-none _ b m (λ k i. omega (arith, i.left, i.right))
across-fills (suc zero) r m b v hx hy len hb bank = one_cell r m b (omega arith) hy len hb bank
across-fills (suc (suc n)) r m b v hx hy len hb bank =
    let first = one_cell r m b (omega arith) hy len hb bank in
    let m₁ = set m (place_of r) (stored_of r (ordered r.data_order b)) in
    let rest = across-fills (suc n) (put Y r.y (put X (r.x + 1) r)) m₁ b v (omega arith) hy (first.same_length ∙ len) hb bank in
    subst (λ (q : Registers). Fills (In r.mx r.x (suc (suc n)) r.y 1) b m (written (replicate (suc n) (ordered r.data_order b)) q m₁))
    (sym (same_run r v (omega arith)))
    (fills-both (In r.mx r.x 1 r.y 1) (In r.mx (r.x + 1) (suc n) r.y 1) (In r.mx r.x (suc (suc n)) r.y 1) b m m₁ _
    (in-or-out r.mx (r.x + 1) (suc n) r.y 1)
    (λ k i. record { left = i.left; right = omega (arith, i.right); top = i.top; bottom = i.bottom })
    (λ k i. record { left = omega (arith, i.left); right = omega (arith, i.right); top = i.top; bottom = i.bottom })
    (λ k i o. record { left = i.left; right = narrow k i o (dec_lt (mirrored_by r.mx (k % 101)) (r.x + 1)); top = i.top; bottom = i.bottom })
    first rest)
  where
    narrow :
        (k : ℕ) → In r.mx r.x (suc (suc n)) r.y 1 k → (In r.mx (r.x + 1) (suc n) r.y 1 k → ⊥)
        → Dec (mirrored_by r.mx (k % 101) < r.x + 1) → mirrored_by r.mx (k % 101) < r.x + 1
    narrow k i o (yes h) = h
    narrow k i o (no h) = absurd (o (record { left = omega arith; right = omega (arith, i.right); top = i.top; bottom = i.bottom }))

-- V = 1: n bytes down a column
pub down-fills :
    (n : ℕ) (r : Registers) (m : List ℕ) (b : ℕ) → r.v ≡ 1 → r.x ≤ 100 → r.y + n ≤ 17 → length m ≡ 1717 → b < 256 → (r.y + n ≡ 17 → b < 64)
    → Fills (In r.mx r.x 1 r.y n) b m (written (replicate n (ordered r.data_order b)) r m)
unfolding Plays.written
down-fills zero r m b v hx hy len hb bank = fills-none _ b m (λ k i. omega (arith, i.top, i.bottom))
down-fills (suc zero) r m b v hx hy len hb bank = one_cell r m b hx (omega arith) len hb (λ e. bank (omega arith))
down-fills (suc (suc n)) r m b v hx hy len hb bank =
    let first = one_cell r m b hx (omega arith) len hb (λ e. absurd (omega arith)) in
    let m₁ = set m (place_of r) (stored_of r (ordered r.data_order b)) in
    let rest = down-fills (suc n) (put Y (r.y + 1) (put X r.x r)) m₁ b v hx (omega arith) (first.same_length ∙ len) hb (λ e. bank (omega arith)) in
    subst (λ (q : Registers). Fills (In r.mx r.x 1 r.y (suc (suc n))) b m (written (replicate (suc n) (ordered r.data_order b)) q m₁))
    (sym (next_down r v (omega arith)))
    (fills-both (In r.mx r.x 1 r.y 1) (In r.mx r.x 1 (r.y + 1) (suc n)) (In r.mx r.x 1 r.y (suc (suc n))) b m m₁ _
    (in-or-out r.mx r.x 1 (r.y + 1) (suc n))
    (λ k i. record { left = i.left; right = i.right; top = i.top; bottom = omega (arith, i.bottom) })
    (λ k i. record { left = i.left; right = i.right; top = omega (arith, i.top); bottom = omega (arith, i.bottom) })
    (λ k i o. record { left = i.left; right = i.right; top = i.top; bottom = narrow k i o (dec_lt (k / 101) (r.y + 1)) })
    first rest)
  where
    narrow :
        (k : ℕ) → In r.mx r.x 1 r.y (suc (suc n)) k → (In r.mx r.x 1 (r.y + 1) (suc n) k → ⊥)
        → Dec (k / 101 < r.y + 1) → k / 101 < r.y + 1
    narrow k i o (yes h) = h
    narrow k i o (no h) = absurd (o (record { left = i.left; right = i.right; top = omega arith; bottom = omega (arith, i.bottom) }))
