-- An allowed address is a place of the memories, and stays allowed as it moves on.
use mathlib.Core.Path.{◌≡◌, refl}
use mathlib.Core.Bool.{Bool, true, false, cond}
use Prim.Native.Nat.{ℕ, ◌+◌, ◌-◌, ◌≤◌, ◌<◌, zero-le}
use native.Mathlib.Omega.{arith}
use borrow.Author.Tests.{ltb-true}
use lib.Dec.{ltb, eqb}
use Rattle.registers.specs.declared.Registers.{Registers}
use Rattle.registers.specs.Places.{X, Y}
use Rattle.registers.specs.Record.{put, allowed_registers}
use Rattle.registers.proofs.Put.{put-allowed}
use Rattle.registers.proofs.Within.{register-bound}
use Rattle.display.specs.Display.{column_of, place_of, next, next_on_wrap, next_x, next_y, next_address}

column-bound : (t : Bool) (x : ℕ) → x ≤ 100 → cond t (100 - x) x ≤ 100
column-bound true x h = omega arith
column-bound false x h = h

-- by the column and bank alone
module _ (r : Registers) (column : r.x ≤ 100) where
  pub column-low : column_of r ≤ 100
  unfolding column_of
  column-low = column-bound (eqb r.mx 1) r.x column

  pub place-low : r.y ≤ 16 → place_of r < 1717
  unfolding place_of
  place-low bank = omega (arith, column-low)

pub place-bound : (r : Registers) → allowed_registers r ≡ true → place_of r < 1717
place-bound r h = place-low r (register-bound r h X) (register-bound r h Y)

next-bound : (n last : ℕ) → n ≤ last → next n last ≤ last
next-bound n last h = go (ltb n last) refl
  where
    go : (t : Bool) → ltb n last ≡ t → cond t (n + 1) 0 ≤ last
    go true e = omega (arith, ltb-true n last e)
    go false e = zero-le

wrap-bound : (t : Bool) (m mLast : ℕ) → m ≤ mLast → cond t m (next m mLast) ≤ mLast
wrap-bound true m mLast h = h
wrap-bound false m mLast h = next-bound m mLast h

nextX-bound : (t : Bool) (x y : ℕ) → x ≤ 100 → cond t (next_on_wrap y 16 x 100) (next x 100) ≤ 100
nextX-bound true x y h = wrap-bound (ltb y 16) x 100 h
nextX-bound false x y h = next-bound x 100 h

nextY-bound : (t : Bool) (x y : ℕ) → y ≤ 16 → cond t (next y 16) (next_on_wrap x 100 y 16) ≤ 16
nextY-bound true x y h = next-bound y 16 h
nextY-bound false x y h = wrap-bound (ltb x 100) y 16 h

pub next_low : (r : Registers) → r.x ≤ 100 → r.y ≤ 16 → ((next_address r).x ≤ 100) × ((next_address r).y ≤ 16)
unfolding next_address
next_low r column bank = (nextX-bound (eqb r.v 1) r.x r.y column, nextY-bound (eqb r.v 1) r.x r.y bank)

pub next-allowed : (r : Registers) → allowed_registers r ≡ true → allowed_registers (next_address r) ≡ true
unfolding next_address
next-allowed r h =
    put-allowed Y (next_y r.v r.x r.y) (put X (next_x r.v r.x r.y) r)
    (nextY-bound (eqb r.v 1) r.x r.y (register-bound r h Y))
    (put-allowed X (next_x r.v r.x r.y) r (nextX-bound (eqb r.v 1) r.x r.y (register-bound r h X)) h)
