-- Digits: what the tests for one give.
use mathlib.Core.Path.{◌≡◌, refl}
use mathlib.Core.Bool.{Bool, true, false, ◌&&◌}
use Prim.Native.Nat.{ℕ, ◌≤◌}
use native.Mathlib.Omega.{arith}
use borrow.Author.Tests.{leb-true, le-leb}
use lib.Dec.{leb}
use Rattle.text.specs.Decimal.{is_digit, is_leading}

pub and_both : (a b : Bool) → a && b ≡ true → (a ≡ true) × (b ≡ true)
and_both true b h = (refl, h)
and_both false b h = (h, cc)

pub digit-bounds : (x : ℕ) → is_digit x ≡ true → (48 ≤ x) × (x ≤ 57)
digit-bounds x h = (leb-true _ _ (and_both (leb 48 x) (leb x 57) h).0, leb-true _ _ (and_both (leb 48 x) (leb x 57) h).1)

pub leading-bounds : (x : ℕ) → is_leading x ≡ true → (49 ≤ x) × (x ≤ 57)
leading-bounds x h = (leb-true _ _ (and_both (leb 49 x) (leb x 57) h).0, leb-true _ _ (and_both (leb 49 x) (leb x 57) h).1)

pub bounds-digit : (x : ℕ) → 48 ≤ x → x ≤ 57 → is_digit x ≡ true
bounds-digit x l u = rw (le-leb _ _ l, le-leb _ _ u)

pub bounds-leading : (x : ℕ) → 49 ≤ x → x ≤ 57 → is_leading x ≡ true
bounds-leading x l u = rw (le-leb _ _ l, le-leb _ _ u)

pub leading-digit : (x : ℕ) → is_leading x ≡ true → is_digit x ≡ true
leading-digit x h = bounds-digit x (omega (arith, leading-bounds x h)) (leading-bounds x h).1
