-- A row past the table, and the test of a row's range, over plain variables.
use mathlib.Core.Path.{◌≡◌, refl, sym, ap}
use mathlib.Core.Bool.{Bool, true, false, ◌&&◌, ◌||◌}
use mathlib.Core.List.{List, [], ◌∷◌, map}
use Prim.Native.Nat.{ℕ, ◌≤◌, ◌<◌}
use native.Mathlib.Decide.{dec_lt}
use native.Mathlib.Omega.{arith}
use borrow.Author.Tests.{ne_eqb}
use lib.Dec.{T, eqb}
use lib.ListN.{get_or-eq_default}
use Rattle.registers.specs.declared.Registers.{Registers}
use Rattle.registers.specs.Table.{Target, Row, Part, rows, taken, in_range_of, value, in_range}
use Rattle.registers.specs.Table.Target.{register, bounded, selected, unheld}
use Rattle.registers.proofs.Below.{all_below, below_at, and_left, and_right}
use Rattle.commands.specs.Command.{parts_at}

-- a row past the table does nothing
pub by-none : (b : ℕ) (r : Registers) (i : ℕ) → 21 ≤ i → r ≡ taken (parts_at i) b r
by-none b r i h = sym (ap (λ (ps : List Part). taken ps b r) (get_or-eq_default (map (λ (w : Row). w.parts) rows) [] h))

-- ---- the range

-- a target that has no bound
abbrev unbounded : Target → Bool
unbounded (register f) = true
unbounded (bounded f) = false
unbounded selected = true
unbounded unheld = true

abbrev all_unbounded : List Part → Bool
all_unbounded [] = true
all_unbounded (p ∷ ps) = unbounded p.target && all_unbounded ps

unbounded-in-range : (ps : List Part) → T (all_unbounded ps) → (b : ℕ) → true ≡ in_range ps b
unbounded-in-range [] t b = refl
unbounded-in-range (p ∷ ps) t b =
    go p.target (and_left (unbounded p.target) (all_unbounded ps) t) (unbounded-in-range ps (and_right (unbounded p.target) (all_unbounded ps) t) b)
  where
    go : (x : Target) → T (unbounded x) → true ≡ in_range ps b → true ≡ in_range_of x (value p b) && in_range ps b
    go (register f) u rest = rest
    go (bounded f) u rest = absurd u
    go selected u rest = rest
    go unheld u rest = rest

-- the three rows that have a bound: pages, Y and X
abbrev has_bound : ℕ → Bool
has_bound i = eqb i 2 || (eqb i 4 || eqb i 5)

others-unbounded : T (all_below 21 (λ (i : ℕ). has_bound i || all_unbounded (parts_at i)))
others-unbounded = tt

-- it is none of the three, or past the table
pub other-in-range : (i b : ℕ) → (i ≡ 2 → ⊥) → (i ≡ 4 → ⊥) → (i ≡ 5 → ⊥) → true ≡ in_range (parts_at i) b
other-in-range i b n2 n4 n5 = go (dec_lt i 21)
  where
    go : Dec (i < 21) → true ≡ in_range (parts_at i) b
    go (yes l) =
        unbounded-in-range (parts_at i) (rw (ne_eqb i 2 n2, ne_eqb i 4 n4, ne_eqb i 5 n5) at (below_at 21 (λ (j : ℕ). has_bound j || all_unbounded (parts_at j)) others-unbounded i l)) b
    go (no n) = ap (λ (ps : List Part). in_range ps b) (sym (get_or-eq_default (map (λ (w : Row). w.parts) rows) [] {n = i} (omega arith)))
