-- The events of a capture, one a line.
use Rattle.std.specs.Prelude.{List, [], ◌∷◌, ◌++◌, ℕ, length, get_or}
use Rattle.print.specs.Printed.{decimal_of, parts_from}

abbrev pub event_line : List ℕ → ℕ → List ℕ
event_line es k = decimal_of (get_or es k 0) ++ 10 ∷ []

abbrev pub events_text : List ℕ → List ℕ
events_text es = parts_from (event_line es) 0 (length es)
