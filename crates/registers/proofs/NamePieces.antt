-- The registers' names: a name is the piece of the text of all names that stands at its register's place, and none is long.
use mathlib.Core.Bool.{Bool, true, ◌&&◌}
use mathlib.Core.List.{List, [], ◌∷◌}
use mathlib.Core.Path.{◌≡◌, refl}
use Prim.Native.Nat.{ℕ, zero, suc, ◌≤◌}
use native.Mathlib.Omega.{arith}
use borrow.Author.Tests.{leb-true}
use lib.Dec.{leb}
use lib.ListN.{get_or, length}
use Rattle.text.specs.Text.{split, join}
use Rattle.registers.specs.Record.{names}
use Rattle.registers.proofs.Within.{both_left, both_right}

pub name-there : (place : ℕ) → get_or (split 32 (join 32 names)) place [] ≡ get_or names place []
name-there place = refl

-- no name has more than three letters
abbrev all_short : List (List ℕ) → Bool
all_short [] = true
all_short (n ∷ ns) = leb (length n) 3 && all_short ns

short-there : (ns : List (List ℕ)) (k : ℕ) → all_short ns ≡ true → length (get_or ns k []) ≤ 3
short-there [] k e = omega arith
short-there (n ∷ ns) zero e = leb-true (length n) 3 (both_left (leb (length n) 3) (all_short ns) e)
short-there (n ∷ ns) (suc k) e = short-there ns k (both_right (leb (length n) 3) (all_short ns) e)

pub name-bound : (k : ℕ) → length (get_or names k []) ≤ 3
name-bound k = short-there names k refl
