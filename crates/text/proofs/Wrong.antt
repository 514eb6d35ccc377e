-- What a wrong definition would make true: each of these implies ⊥, computed.
use mathlib.Core.Path.{◌≡◌}
use Prim.Native.Nat.{ℕ}
use native.Mathlib.Omega.{arith}
use Rattle.std.specs.Prelude.{Some, None}
use Rattle.text.specs.Decimal.{number_of}
use Rattle.text.specs.Text.{bytes}

-- four digits cut to three
pub not-cut : number_of (bytes "1000") ≡ Some 100 → ⊥
unfolding number_of
not-cut e = let z : ◌≡◌ {A = ℕ} 0 1 = cc in omega arith

-- a leading zero accepted
pub no-leading-zero-read : number_of (bytes "05") ≡ Some 5 → ⊥
unfolding number_of
no-leading-zero-read e = let z : ◌≡◌ {A = ℕ} 0 1 = cc in omega arith

-- the lone 0 refused as a leading one
pub zero-is-read : number_of (bytes "0") ≡ None → ⊥
unfolding number_of
zero-is-read e = let z : ◌≡◌ {A = ℕ} 0 1 = cc in omega arith

-- a field with nothing in it taken for 0
pub nothing-is-no-number : number_of (bytes "") ≡ Some 0 → ⊥
unfolding number_of
nothing-is-no-number e = let z : ◌≡◌ {A = ℕ} 0 1 = cc in omega arith
