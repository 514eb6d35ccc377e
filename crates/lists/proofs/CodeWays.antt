-- Ways through the code of a line, over plain variables.
use Rattle.std.specs.Prelude.{Option, Some, None, Result, Ok}
use mathlib.Core.Path.{◌≡◌, sym, ◌∙◌}
use mathlib.Core.List.{List}
use Prim.Native.Nat.{ℕ}
use borrow.Author.Tests.{eq-eqb}
use lib.ListN.{length}
use Rattle.registers.specs.Record.{names}
use Rattle.text.specs.Text.{index_of}
use Rattle.lists.specs.declared.Line.{Line}
use Rattle.lists.specs.Line.{piece_at, number_at, or_malformed, set_of, set_line}

-- a field that is a number
read : (o : Option ℕ) (n : ℕ) → Ok n ≡ or_malformed o → o ≡ Some n
read (Some m) n e = cc
read None n e = cc

-- a `set` line of three pieces
pub set-three :
    (ps : List (List ℕ)) (m : ℕ) → m ≡ length ps → m ≡ 3 → (w : List ℕ) (k n : ℕ) (x : Result Line ℕ) → w ≡ piece_at ps 1 → k ≡ index_of w names
    → Ok n ≡ or_malformed (number_at ps 2) → x ≡ set_of k (Some n) → x ≡ set_line ps
set-three ps m e h w k n x ew ek en ex = rw (eq-eqb (length ps) 3 (sym e ∙ h), ← ew, ← ek, read (number_at ps 2) n en) ex
