-- The registers that a list is compiled from stay blank and within their widths along it.
use mathlib.Core.Bool.{Bool, true, false, cond}
use mathlib.Core.Path.{◌≡◌, refl, subst}
use Prim.Native.Nat.{ℕ, ◌-◌, ◌≤◌}
use native.Mathlib.Omega.{arith}
use Rattle.registers.specs.declared.Registers.{Registers}
use Rattle.registers.specs.Encode.{is_grey}
use Rattle.registers.specs.Places.{H, GR, GS0}
use Rattle.registers.specs.Record.{put, blank, allowed_registers}
use Rattle.registers.proofs.Put.{put-allowed}
use Rattle.registers.proofs.Within.{register-bound}
use Rattle.chip.specs.Plays.{Bytes}
use Rattle.lists.specs.declared.Line.{Line}
use Rattle.lists.specs.declared.Line.TheVariants.{Fill, Set}
use Rattle.drawing.specs.Plain.{set_to, registers_after}
use Rattle.drawing.specs.Stream.{set_commands}
use Rattle.drawing.proofs.Fits.{LineFits}
use Rattle.drawing.proofs.SetPlays.{SetFits, put-blank, blank-allowed, set-bytes, grey-bounds}
use Rattle.compiler.specs.Writes.{Tracked}

pub blank-tracked : (r : Registers) → allowed_registers r ≡ true → Tracked (blank r)
blank-tracked r ok = record { is_blank = refl; within = blank-allowed r ok }

put-tracked : (f n : ℕ) (q : Registers) → SetFits f n → Tracked q → Tracked (put f n q)
put-tracked f n q fits t =
    record {
      is_blank = put-blank f n q fits.not-page fits.not_x fits.not_y t.is_blank;
      within = put-allowed f n q fits.value t.within;
    }

-- GR, which selects a grey register
select-fits : (k : ℕ) → k ≤ 3 → SetFits GR k
select-fits k h = record { place = omega arith; not-page = λ e. omega arith; not_x = λ e. omega arith; not_y = λ e. omega arith; value = h }

set_tracked : (f n : ℕ) (q : Registers) → SetFits f n → Tracked q → Tracked (set_to f n q)
unfolding set_to
set_tracked f n q fits t = go (is_grey f) refl
  where
    go : (b : Bool) → is_grey f ≡ b → Tracked (cond b (put f n (put GR (f - GS0) q)) (put f n q))
    go true e =
        put-tracked f n (put GR (f - GS0) q) fits
        (put-tracked GR (f - GS0) q (select-fits (f - GS0) (omega (arith, (grey-bounds f e).0, (grey-bounds f e).1))) t)
    go false e = put-tracked f n q fits t

pub after-tracked : (l : Line) (q : Registers) → LineFits l → Tracked q → Tracked (registers_after l q)
after-tracked (Fill c0 c1 b0 b1 n) q fits t = t
after-tracked (Set f n) q fits t = set_tracked f n q fits t

-- what a set sends are bytes
pub tracked-bytes : (f n : ℕ) (q : Registers) → SetFits f n → Tracked q → Bytes (set_commands f (set_to f n q))
tracked-bytes f n q fits t =
    subst (λ (r : Registers). Bytes (set_commands f (set_to f n r))) t.is_blank
    (set-bytes f n fits q (register-bound q t.within H) t.within)
