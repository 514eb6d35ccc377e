-- How many samples were unclear, in words.
use Rattle.std.specs.Prelude.{Bool, cond, List, [], ◌∷◌, ◌++◌, ℕ, eqb}
use Rattle.text.specs.Text.{bytes}
use Rattle.print.specs.Printed.{decimal_of}

abbrev pub words : Bool → List ℕ
words one = cond one (bytes " unclear sample") (bytes " unclear samples") ++ (10 ∷ [])

abbrev pub unclear_line : ℕ → List ℕ
unclear_line n = bytes "wires: " ++ decimal_of n ++ words (eqb n 1)
