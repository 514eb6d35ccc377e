use mathlib.Core.Path.{sym}
use native.Mathlib.Omega.{arith}
use borrow.Author.Rules.{rules}
use Rattle.print.proofs.WholeTexts.{whole-short, whole-printed}
use Rattle.print.proofs.whole.Goals as goal

pub returns-then-out-needed : goal.returns-then-out-needed
returns-then-out-needed g c text bound prints = whole-short text _ bound ((prints _ _ c.write.ensures).wrote (omega arith)) c.if-out-needed.true

pub returns : goal.returns
returns g c text bound prints =
    let printed = prints _ _ c.write-2.ensures in
    let buffer = sym printed.buffer in
    whole-printed text _ bound ((prints _ _ c.write.ensures).wrote (omega arith)) c.if-out-needed.false (printed.wrote (omega arith)) (search rules)
