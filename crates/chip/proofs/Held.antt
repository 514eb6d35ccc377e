-- A command that says what the registers hold already is taken, and changes nothing: it is the table that tells a known command, not its effect.
use mathlib.Core.Bool.{true}
use mathlib.Core.List.{List, [], ◌∷◌}
use mathlib.Core.Path.{◌≡◌, refl, ap, ◌∙◌}
use Prim.Native.Nat.{ℕ, ◌+◌, ◌%◌, ◌≤◌, ◌<◌}
use native.Mathlib.Omega.{arith}
use lib.ListN.{get_or}
use lib.Seq.{set-get_or}
use Rattle.registers.specs.declared.Registers.{Registers}
use Rattle.registers.specs.Encode.{held, row_byte, with_parts}
use Rattle.registers.specs.Places.{H, GS0}
use Rattle.registers.specs.Record.{values, of_values, put, allowed_registers}
use Rattle.registers.specs.Table.{Target, Part, put_to}
use Rattle.registers.specs.Table.Target.{register, bounded, selected, unheld}
use Rattle.registers.proofs.Held.{held_fits, target-in-range, parts-in-range}
use Rattle.registers.proofs.TableTest.{row_no}
use Rattle.registers.proofs.Within.{register-bound}
use Rattle.chip.specs.Plays.{Does}
use Rattle.chip.proofs.Rows.{row-does}

module _ (r : Registers) (ok : allowed_registers r ≡ true) where
  put_self : (f : ℕ) → put f (get_or (values r) f 0) r ≡ r
  put_self f = ap of_values (set-get_or (values r) f 0)

  putTo-self : (x : Target) → put_to x (held x r) r ≡ r
  putTo-self (register f) = put_self f
  putTo-self (bounded f) = rw (target-in-range r ok (bounded f)) (put_self f)
  putTo-self selected = put_self (GS0 + r.gr % 4)
  putTo-self unheld = refl

  parts_self : (ps : List Part) → with_parts ps r r ≡ r
  parts_self [] = refl
  parts_self (p ∷ ps) = ap (with_parts ps r) (putTo-self p.target) ∙ parts_self ps

  -- row i's byte, saying what r holds, in the row's page
  pub held-does : (i : ℕ) → i < 21 → (row_no i).page ≡ r.h → Does (row_byte (row_no i) r) r r
  held-does i l e =
      let page : r.h ≤ 4 = register-bound r ok H in
      let d = row-does i l r (held_fits r ok i l (omega (arith, e, page))) (parts-in-range r ok (row_no i).parts) r page e in
      record { is-byte = d.is-byte; is-taken = d.is-taken; leaves = d.leaves ∙ parts_self (row_no i).parts }
