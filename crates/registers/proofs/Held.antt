-- What allowed registers hold is in range, and fits every row that stands in one page: its byte can say it. Shown over the parts, once for all rows.
use mathlib.Core.Bool.{Bool, true, false, ◌&&◌, ◌||◌}
use mathlib.Core.List.{List, [], ◌∷◌}
use mathlib.Core.Path.{◌≡◌, refl}
use Prim.Native.Nat.{ℕ, ◌+◌, ◌%◌, ◌^◌, ◌≤◌, ◌<◌}
use native.Mathlib.Nat.{lt_of_le_of_lt, mod-lt}
use native.Mathlib.Omega.{arith}
use borrow.Author.Tests.{ne_eqb, le-leb}
use lib.Dec.{T, eqb, ltb, ltb→lt}
use lib.ListN.{get_or}
use lib.Pow.{pow_pos}
use Rattle.registers.specs.declared.Registers.{Registers}
use Rattle.registers.specs.Encode.{held, holds_in_range}
use Rattle.registers.specs.Places.{GS0}
use Rattle.registers.specs.Record.{limits, allowed_registers}
use Rattle.registers.specs.Table.{Target, Part, every_page, in_range_of}
use Rattle.registers.specs.Table.Target.{register, bounded, selected, unheld}
use Rattle.registers.proofs.Below.{all_below, below_at, and_left, and_right}
use Rattle.registers.proofs.Encode.{FitParts}
use Rattle.registers.proofs.Parts.{grey-limit}
use Rattle.registers.proofs.TableTest.{row_no}
use Rattle.registers.proofs.Within.{register-bound}

-- every value that the target may hold has room in so many bits
abbrev has_room : Target → ℕ → Bool
has_room (register f) w = ltb (get_or limits f 0) (2 ^ w)
has_room (bounded f) w = ltb (get_or limits f 0) (2 ^ w)
has_room selected w = ltb 63 (2 ^ w)
has_room unheld w = true

abbrev all_have_room : List Part → Bool
all_have_room [] = true
all_have_room (p ∷ ps) = has_room p.target p.width && all_have_room ps

-- so it is in every row of one page. Those of every page are left out: page return says 0 and no value
rows-have-room : T (all_below 21 (λ (i : ℕ). eqb (row_no i).page every_page || all_have_room (row_no i).parts))
rows-have-room = tt

module _ (t : Registers) (ok : allowed_registers t ≡ true) where
  grey-bound : held selected t ≤ 63
  grey-bound = rw (← grey-limit (t.gr % 4) (mod-lt t.gr (omega arith))) (register-bound t ok (GS0 + t.gr % 4))

  held-room : (x : Target) (w : ℕ) → T (has_room x w) → held x t < 2 ^ w
  held-room (register f) w r = lt_of_le_of_lt (register-bound t ok f) (ltb→lt (get_or limits f 0) (2 ^ w) r)
  held-room (bounded f) w r = lt_of_le_of_lt (register-bound t ok f) (ltb→lt (get_or limits f 0) (2 ^ w) r)
  held-room selected w r = lt_of_le_of_lt grey-bound (ltb→lt 63 (2 ^ w) r)
  held-room unheld w r = pow_pos w

  parts-fit : (ps : List Part) → T (all_have_room ps) → FitParts ps t
  parts-fit [] r = tt
  parts-fit (p ∷ ps) r = (
    held-room p.target p.width (and_left (has_room p.target p.width) (all_have_room ps) r),
    parts-fit ps (and_right (has_room p.target p.width) (all_have_room ps) r),
  )

  pub held_fits : (i : ℕ) → i < 21 → (row_no i).page ≤ 4 → FitParts (row_no i).parts t
  held_fits i l page =
      let own : eqb (row_no i).page every_page ≡ false = ne_eqb (row_no i).page every_page (λ q. omega (arith, q, page)) in
      parts-fit (row_no i).parts (rw own at (below_at 21 (λ (j : ℕ). eqb (row_no j).page every_page || all_have_room (row_no j).parts) rows-have-room i l))

  pub target-in-range : (x : Target) → in_range_of x (held x t) ≡ true
  target-in-range (register f) = refl
  target-in-range (bounded f) = le-leb (held (bounded f) t) (get_or limits f 0) (register-bound t ok f)
  target-in-range selected = refl
  target-in-range unheld = refl

  pub parts-in-range : (ps : List Part) → holds_in_range ps t ≡ true
  parts-in-range [] = refl
  parts-in-range (p ∷ ps) = rw (target-in-range p.target) (parts-in-range ps)
