use mathlib.Core.Path.{◌≡◌}
use Rattle.row_search.specs.Search.{found_among}
use Rattle.row_search.proofs.CodeWays.{looked_from}
use Rattle.row_search.proofs.look.Given as goal

abbrev pub invariant-loop-row : goal.invariant-loop-row
invariant-loop-row l = (l.looked ≡ l.row-index) × (looked_from l.rows l.byte l.row-index ≡ found_among l.rows l.byte)
