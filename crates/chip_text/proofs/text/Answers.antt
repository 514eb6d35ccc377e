use mathlib.Core.Path.{sym}
use native.Mathlib.Omega.{arith}
use borrow.Author.Rules.{rules}
use Rattle.print.proofs.WholeTexts.{refused-text, unrefused-text}
use Rattle.chip_text.proofs.Bounds.{record-allowed, chip-text-bound}
use Rattle.chip_text.proofs.text.Goals as goal

pub returns-in_err-record : goal.returns-in_err-record
returns-in_err-record c = refused-text _ _ _ _ c.from_residual.ensures.1 c.in_err-record.ensures

pub returns : goal.returns
returns c =
    let args = c.args in
    let is_allowed = record-allowed args.chip (sym c.in_ok-record.ensures) in
    -- the numbers of the record, the count and those of the tally are a machine's
    let bound =
    chip-text-bound args.chip args.count args.tally is_allowed (omega (arith, c.well_formed.0)) (omega (arith, c.well_formed.1.0))
    (omega (arith, c.well_formed.1.1.0)) (omega (arith, c.well_formed.1.1.0)) in
    unrefused-text _ _ c.in_ok-record.ensures (c.whole.ensures _ (omega (arith, bound)) (λ p q post. search rules))
