-- What a wrong definition would make true: it implies ⊥, computed.
use mathlib.Core.Path.{◌≡◌}
use Prim.Native.Nat.{ℕ}
use native.Mathlib.Omega.{arith}
use Rattle.text.specs.Text.{bytes}
use Rattle.print.specs.Printed.{decimal_of}

-- a leading zero printed
pub no-leading-zero-printed : decimal_of 5 ≡ bytes "05" → ⊥
unfolding decimal_of
no-leading-zero-printed e = let z : ◌≡◌ {A = ℕ} 0 1 = cc in omega arith
