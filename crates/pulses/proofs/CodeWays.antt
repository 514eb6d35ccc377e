-- Ways through the code, over plain variables.
use mathlib.Core.Path.{◌≡◌, refl, sym, ap, subst, ◌∙◌}
use mathlib.Core.Bool.{Bool, true, false, cond}
use mathlib.Core.List.{List}
use Prim.Native.Nat.{ℕ, zero, suc, ◌*◌, ◌-◌, ◌^◌, ◌≤◌, ◌<◌}
use native.Mathlib.Omega.{arith}
use native.Mathlib.Nat.{mul-le-mul}
use lib.Dec.{eqb}
use lib.ListN.{length, get_or}
use Rattle.std.specs.Prelude.{Ok}
use Rattle.refusals.specs.declared.Refusal.{Refusal}
use Rattle.refusals.specs.Numbers.{number}
use Rattle.refusals.proofs.Positive.{positive}
use Rattle.registers.specs.declared.Chip.{Chip}
use Rattle.registers.proofs.Refusals.{then-zero}
use Rattle.glass.specs.declared.answer.Shown.{Shown}
use Rattle.glass.specs.Pixel.{place_at}
use Rattle.glass.specs.Glass.{glass_refusal, ram_row_of, shown_of, shown_at, glass_of}
use Rattle.glass.proofs.Laws.{as-its-row}
use Rattle.print.specs.Printed.{Wrote, parts_from}
use Rattle.print.proofs.Writing.{wrote-all}
use Rattle.pulses.specs.declared.answer.Pulses.{Pulses}
use Rattle.pulses.specs.Pulse.{pulses_for, pulses_of}
use Rattle.pulses.specs.Row.{pixel_bytes, columns, row_bytes, buffer_refusal, row_refusal, row_unless, pulse_row, row_of}
use Rattle.pulses.proofs.Refusals.{row-exactly}
use Rattle.pulses.proofs.Rows.{row-long}

-- ---- one pulse

-- both products are numbers of 16 bits
pub product-fits : (g k : ℕ) → g < 256 → k ≤ 256 → k * g < 2 ^ 16
product-fits g k hg hk =
    let g-bound : g ≤ 255 = omega arith in
    let most : k * g ≤ 256 * 255 = mul-le-mul hk g-bound in
    omega arith

-- ---- a row that is not refused

-- none of its pixels is: each is what its RAM row shows
pub pixel-passes :
    (c : Chip) (memory : List ℕ) (row column out ram byte : ℕ) (s : Shown) (p : Pulses) → 0 ≡ row_refusal c (length memory) row out → column ≤ 100
    → ram ≡ ram_row_of c row → byte ≡ get_or memory (place_at ram column) 0 → s ≡ shown_of c.registers ram byte → Ok p ≡ pulses_for (Ok s)
    → Ok p ≡ pulses_of c memory row column
unfolding row_refusal glass_of
pixel-passes c memory row column out ram byte s p e h er eb es ep =
    let first = (then-zero (glass_refusal c (length memory) row 0) (buffer_refusal out) (sym e)).0 in
    let passed : glass_refusal c (length memory) row column ≡ 0 = as-its-row c (length memory) row column h ∙ first in
    let same : s ≡ shown_at c.registers memory (ram_row_of c row) column = es ∙ rw (eb, er) refl in
    ep ∙ rw (same, passed) refl

-- and the RAM row is one of the glass
pub ram-row-bound : (c : Chip) (n row out ram : ℕ) → 0 ≡ row_refusal c n row out → ram ≡ ram_row_of c row → ram ≤ 66
ram-row-bound c n row out ram e er = rw er (go (eqb c.registers.my 1))
  where
    inside : row ≤ 66
    inside = omega (arith, ((row-exactly c n row out 0).0 (sym e)).2)

    go : (t : Bool) → cond t (66 - row) row ≤ 66
    go true = omega arith
    go false = inside

-- a buffer of its length, written from its start on, is the row's bytes
pub row_written :
    {l r : List ℕ} {j k : ℕ} (c : Chip) (memory : List ℕ) (row : ℕ) (out : List ℕ)
    → 0 ≡ row_refusal c (length memory) row (length out) → k ≡ columns → Wrote out 0 (parts_from (pixel_bytes c memory row) 0 k) l j → r ≡ l
    → pulse_row 0 r ≡ row_of c memory row out
unfolding row_of row_bytes
row_written {l} {r} {j} c memory row out e all w s =
    let passed = (row-exactly c (length memory) row (length out) 0).0 (sym e) in
    let whole = subst (λ (n : ℕ). Wrote out 0 (parts_from (pixel_bytes c memory row) 0 n) l j) all w in
    rw (sym e, s, wrote-all (row-long c memory row ∙ sym passed.3) whole)

pub row_refused :
    (c : Chip) (memory : List ℕ) (row : ℕ) (out : List ℕ) (r : Refusal) → number r ≡ row_refusal c (length memory) row (length out)
    → pulse_row (number r) out ≡ row_of c memory row out
unfolding row_of
row_refused c memory row out r e = go (row_refusal c (length memory) row (length out)) e
  where
    go : (x : ℕ) → number r ≡ x → pulse_row (number r) out ≡ row_unless x (row_bytes c memory row) out
    go zero z = absurd (omega (arith, positive r, z))
    go (suc k) z = ap (λ (n : ℕ). pulse_row n out) z
