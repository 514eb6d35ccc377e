-- What the laws rest on: a chip with one register changed, answers that are refusals, and what darkens.
use mathlib.Core.Path.{◌≡◌, refl, sym, ap₂, ◌∙◌}
use mathlib.Core.Bool.{Bool, true, false, cond, not, ◌||◌}
use mathlib.Core.Logic.{◌⊎◌, inl, inr}
use Rattle.std.specs.Prelude.{Ok, Err}
use Prim.Native.Nat.{ℕ, zero, suc, ◌-◌, ◌%◌, ◌≤◌}
use native.Mathlib.Omega.{arith}
use borrow.Author.Tests.{le-ltb, eq-eqb, eqb-true}
use lib.Dec.{eqb}
use lib.ListN.{get_or}
use Rattle.registers.specs.declared.Registers.{Registers}
use Rattle.registers.specs.declared.Chip.{Chip}
use Rattle.registers.specs.Places.{MY}
use Rattle.registers.specs.Refusals.{refuse, ◌then◌}
use Rattle.registers.specs.Record.{limits, allowed}
use Rattle.registers.proofs.Within.{register-bound, allowed-registers, allowed-pins, allowed-counts, allowed-parts}
use Rattle.registers.proofs.Put.{put-allowed}
use Rattle.glass.specs.declared.answer.Shown.TheVariants as shown
use Rattle.glass.specs.Pixel.{dark, undriven, uses, ram_row, value_in, is_off, is_undriven, register_used, pixel_of}
use Rattle.glass.specs.Changed.{changed}
use Rattle.glass.specs.Glass.{off_glass, place_refusal, told_unless, shown_by}

-- ---- one register changed

pub changed-allowed : (f n : ℕ) (c : Chip) → n ≤ get_or limits f 0 → allowed c ≡ true → allowed (changed f n c) ≡ allowed c
changed-allowed f n c b h =
    allowed-parts (changed f n c) (put-allowed f n c.registers b (allowed-registers c h)) (allowed-pins c h) (allowed-counts c h) ∙ sym h

same-refusal :
    (c d : Chip) (row other column : ℕ) → allowed c ≡ allowed d → off_glass row column ≡ off_glass other column
    → place_refusal c row column ≡ place_refusal d other column
unfolding place_refusal
same-refusal c d row other column a o = ap₂ (λ (a o : Bool). refuse (not a) 2 then refuse o 5) a o

pub changed-refusal :
    (f n : ℕ) (c : Chip) → n ≤ get_or limits f 0 → allowed c ≡ true → (row column : ℕ) → place_refusal (changed f n c) row column ≡ place_refusal c row column
changed-refusal f n c b h row column = same-refusal (changed f n c) c row row column (changed-allowed f n c b h) refl

-- row 66 − row is on the glass too
pub mirrored-refusal :
    (c : Chip) → allowed c ≡ true → (row column : ℕ) → row ≤ 66
    → place_refusal (changed MY (1 - c.registers.my) c) row column ≡ place_refusal c (66 - row) column
mirrored-refusal c h row column l =
    same-refusal (changed MY (1 - c.registers.my) c) c row (66 - row) column (changed-allowed MY (1 - c.registers.my) c (omega arith) h)
    (simp (le-ltb 66 row l, le-ltb 66 (66 - row) (omega arith)))

-- MY flipped and the row mirrored is the same RAM row
pub flipped-row : (my row : ℕ) → my ≤ 1 → row ≤ 66 → ram_row (1 - my) row ≡ ram_row my (66 - row)
flipped-row zero row m h = refl
flipped-row (suc zero) row m h = omega arith
flipped-row (suc (suc my)) row m h = absurd (omega arith)

pub my-bound : (c : Chip) → allowed c ≡ true → c.registers.my ≤ 1
my-bound c h = register-bound c.registers (allowed-registers c h) MY

-- ---- refused answers

pub refused-by : {A : Type 0} (x k : ℕ) (a : A) → told_unless x a ≡ Err (suc k) → x ≡ suc k
refused-by zero k a e = cc
refused-by (suc j) k a e = cc

-- an answer that is no refusal is the one that was found
pub found-at : {A : Type 0} (x : ℕ) (p q : A) → told_unless x p ≡ Ok q → (x ≡ 0) × (p ≡ q)
found-at zero p q e = (refl, cc)
found-at (suc j) p q e = (cc, cc)

-- ---- dark

-- either of the two is enough
pub dark-either : (r : Registers) → (r.pd ≡ 1) ⊎ (r.dof ≡ 1) → is_off r ≡ true
dark-either r (inl e) = simp (eq-eqb r.pd 1 e)
dark-either r (inr e) = go (eqb r.pd 1)
  where
    go : (t : Bool) → t || eqb r.dof 1 ≡ true
    go true = refl
    go false = eq-eqb r.dof 1 e

pub dark-by : (level : ℕ → ℕ) (r : Registers) (ram byte : ℕ) → shown_by level (pixel_of r ram byte) ≡ shown.Dark → (r.pd ≡ 1) ⊎ (r.dof ≡ 1)
dark-by level r ram byte = go (eqb r.pd 1) (eqb r.dof 1) (is_undriven r.ps r.dp ram) refl refl
  where
    go :
        (a b u : Bool) → eqb r.pd 1 ≡ a → eqb r.dof 1 ≡ b
        → shown_by level (cond (a || b) dark (cond u undriven (uses (register_used r.d r.e (value_in byte (ram % 4)))))) ≡ shown.Dark
        → (r.pd ≡ 1) ⊎ (r.dof ≡ 1)
    go true b u ea eb e = inl (eqb-true r.pd 1 ea)
    go false true u ea eb e = inr (eqb-true r.dof 1 eb)
    go false false true ea eb e = let z : ◌≡◌ {A = ℕ} 0 1 = cc in absurd (omega arith)
    go false false false ea eb e = let z : ◌≡◌ {A = ℕ} 0 1 = cc in absurd (omega arith)
