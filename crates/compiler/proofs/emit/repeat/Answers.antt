use native.Mathlib.Omega.{arith}
use lib.ListN.{length-take, length-drop}
use Rattle.compiler.proofs.CodeRuns.{filled}
use Rattle.compiler.proofs.emit.repeat.Goals as goal

pub returns : goal.returns
returns c =
    filled _ _ c.args.at _ c.args.n _ c.args.event c.requires (c.fill.ensures.after (λ y h. h))
    (simp (length-take, length-drop) (omega arith))
    (omega arith)
