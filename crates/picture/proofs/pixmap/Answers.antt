use native.Mathlib.Omega.{arith}
use borrow.Author.Rules.{rules}
use Rattle.print.proofs.WholeTexts.{refused-text, unrefused-text}
use Rattle.picture.proofs.Lines.{pixmap-bound}
use Rattle.picture.proofs.pixmap.Goals as goal

pub returns-in_err-refusal : goal.returns-in_err-refusal
returns-in_err-refusal c = refused-text _ _ _ _ c.from_residual.ensures.1 c.in_err-refusal.ensures

pub returns : goal.returns
returns c =
    let bound = pixmap-bound c.args.chip c.args.memory.now in
    unrefused-text _ _ c.in_ok-refusal.ensures (c.whole.ensures _ (omega arith) (λ p q post. search rules))
