use mathlib.Core.Path.{sym}
use native.Mathlib.Omega.{arith}
use borrow.Author.Rules.{rules}
use Rattle.program_io.proofs.CodeWays.{began}
use Rattle.program_io.proofs.words.title.Goals as goal

pub returns : goal.returns
returns c =
    let buffer = sym c.whole_title.ensures.buffer in
    began _ _ (omega arith) (c.whole_title.ensures.wrote (omega arith)) (search rules) c.min.ensures
