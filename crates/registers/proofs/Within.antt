-- The folded test of an allowed record gives each register's bound, and a register may be set to anything within its limit.
use mathlib.Core.Path.{◌≡◌, refl, sym, subst}
use mathlib.Core.Bool.{Bool, true, false, ◌&&◌}
use mathlib.Core.List.{List, [], ◌∷◌}
use Prim.Native.Nat.{ℕ, zero, suc, ◌≤◌, zero-le}
use borrow.Author.Tests.{leb-true, le-leb}
use lib.Dec.{leb}
use lib.ListN.{get_or, set}
use Rattle.registers.specs.declared.Registers.{Registers}
use Rattle.registers.specs.declared.Chip.{Chip}
use Rattle.registers.proofs.Below.{false-true}
use Rattle.registers.specs.declared.PixelCounts.{PixelCounts}
use Rattle.registers.specs.Record.{within, values, limits, allowed, allowed_registers, counts, count_for, count_limits, allowed_counts}

pub both_left : (a b : Bool) → a && b ≡ true → a ≡ true
both_left true b h = refl
both_left false b h = h

pub both_right : (a b : Bool) → a && b ≡ true → b ≡ true
both_right true b h = h
both_right false b h = absurd (false-true h)

-- a test that fails fails the whole
within-so-far : (t : Bool) (ns ls : List ℕ) → within t ns ls ≡ true → t ≡ true
within-so-far t [] ls h = h
within-so-far t (n ∷ ns) [] h = absurd (false-true h)
within-so-far t (n ∷ ns) (l ∷ ls) h = both_left t (leb n l) (within-so-far (t && leb n l) ns ls h)

pub within-at : (t : Bool) (ns ls : List ℕ) → within t ns ls ≡ true → (f : ℕ) → get_or ns f 0 ≤ get_or ls f 0
within-at t [] ls h f = zero-le
within-at t (n ∷ ns) [] h f = absurd (false-true h)
within-at t (n ∷ ns) (l ∷ ls) h zero = leb-true n l (both_right t (leb n l) (within-so-far (t && leb n l) ns ls h))
within-at t (n ∷ ns) (l ∷ ls) h (suc f) = within-at (t && leb n l) ns ls h f

pub within-set : (t : Bool) (ns ls : List ℕ) → within t ns ls ≡ true → (f v : ℕ) → v ≤ get_or ls f 0 → within t (set ns f v) ls ≡ true
within-set t [] ls h f v b = h
within-set t (n ∷ ns) [] h zero v b = h
within-set t (n ∷ ns) [] h (suc f) v b = h
within-set t (n ∷ ns) (l ∷ ls) h zero v b =
    let all : t && leb n l ≡ true = within-so-far (t && leb n l) ns ls h in
    let so : t && leb v l ≡ t && leb n l = simp (both_left t (leb n l) all, le-leb v l b, both_right t (leb n l) all) in
    subst (λ (u : Bool). within u ns ls ≡ true) (sym so) h
within-set t (n ∷ ns) (l ∷ ls) h (suc f) v b = within-set (t && leb n l) ns ls h f v b

-- of an allowed record
module _ (c : Chip) (h : allowed c ≡ true) where
  pub allowed-registers : allowed_registers c.registers ≡ true
  unfolding allowed
  allowed-registers = both_left (allowed_registers c.registers) (leb c.pins 3) (both_left _ (allowed_counts c.pixels) h)

  pub allowed-pins : c.pins ≤ 3
  unfolding allowed
  allowed-pins = leb-true c.pins 3 (both_right (allowed_registers c.registers) (leb c.pins 3) (both_left _ (allowed_counts c.pixels) h))

  pub allowed-counts : allowed_counts c.pixels ≡ true
  unfolding allowed
  allowed-counts = both_right (allowed_registers c.registers && leb c.pins 3) (allowed_counts c.pixels) h

-- and back
pub allowed-parts :
    (c : Chip) → allowed_registers c.registers ≡ true → c.pins ≤ 3 → allowed_counts c.pixels ≡ true → allowed c ≡ true
unfolding allowed
allowed-parts c hr hp hn = simp (hr, le-leb c.pins 3 hp, hn)

-- register f of an allowed record is within its limit
pub register-bound : (r : Registers) → allowed_registers r ≡ true → (f : ℕ) → get_or (values r) f 0 ≤ get_or limits f 0
register-bound r h f = within-at true (values r) limits h f

-- and so is the count of value v
pub count-bound : (n : PixelCounts) → allowed_counts n ≡ true → (v : ℕ) → count_for n v ≤ get_or count_limits v 0
count-bound n h v = within-at true (counts n) count_limits h v
