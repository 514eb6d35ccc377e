-- Where a pixel stands: its row is one of the memory's, and its place is within the memories.
use mathlib.Core.Path.{◌≡◌}
use mathlib.Core.Bool.{Bool, true, false, cond}
use Prim.Native.Nat.{ℕ, ◌/◌, ◌%◌, ◌-◌, ◌≤◌, ◌<◌}
use native.Mathlib.Omega.{arith}
use lib.Dec.{eqb}
use Rattle.registers.specs.State.{places}
use Rattle.glass.specs.Pixel.{ram_row, place_at}

either-bound : (t : Bool) (row : ℕ) → row ≤ 66 → cond t (66 - row) row ≤ 66
either-bound true row h = omega arith
either-bound false row h = h

pub ram-bound : (my row : ℕ) → row ≤ 66 → ram_row my row ≤ 66
ram-bound my row h = either-bound (eqb my 1) row h

-- x is what the code found
pub row-bound : {x : ℕ} (my row : ℕ) → row ≤ 66 → x ≡ ram_row my row → x ≤ 66
row-bound my row h e = omega (arith, e, ram-bound my row h)

-- a place is within the memories, and gives its bank and its column back
pub place_of : (ram column p : ℕ) → ram ≤ 66 → column ≤ 100 → place_at ram column ≡ p → (p < places) × (p / 101 ≡ ram / 4) × (p % 101 ≡ column)
place_of ram column p h l e = (omega arith, omega arith, omega arith)
