use borrow.Author.Rules.{rules}
use native.Mathlib.Omega.{arith}
use Rattle.print.proofs.WholeTexts.{refused-text, unrefused-text}
use Rattle.listing.proofs.Lines.{listing-bound}
use Rattle.listing.proofs.listing.Goals as goal

pub returns-in_err-lengths : goal.returns-in_err-lengths
returns-in_err-lengths c = refused-text _ _ _ _ c.from_residual.ensures.1 c.in_err-lengths.ensures

pub returns : goal.returns
returns c =
    let bound = listing-bound c.args.memory.now c.args.writers.now (λ k. search rules) (λ k. search rules) in
    unrefused-text _ _ c.in_ok-lengths.ensures (c.whole.ensures _ (omega (arith, bound)) (λ p q post. search rules))
