use native.Mathlib.Omega.{arith}
use Prim.Native.Nat.{◌+◌}
use borrow.Author.Rules.{rules}
use Rattle.listing.proofs.Lines.{refused-bound}
use Rattle.listing.proofs.refused_at.Goals as goal

pub returns : goal.returns
returns c =
    let bound = refused-bound c.args.file.now (c.args.n + c.args.k) (omega arith) in
    c.whole.ensures _ (omega (arith, bound)) (λ p q post. search rules)
