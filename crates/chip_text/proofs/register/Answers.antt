use mathlib.Core.List.{List}
use mathlib.Core.Path.{ap}
use Prim.Native.Nat.{ℕ}
use Rattle.print.specs.Chosen.{named_line}
use Rattle.print.proofs.Writing.{prints-same}
use Rattle.chip_text.proofs.CodeWays.{name-found}
use Rattle.chip_text.proofs.register.Goals as goal

pub returns : goal.returns
returns c =
    prints-same (ap (λ (n : List ℕ). named_line n c.args.value) (name-found _ _ _ c.all-all.ensures c.piece.ensures))
    (rw c.from.ensures at c.named_line.ensures)
