use mathlib.Core.Path.{◌∙◌}
use Rattle.refusals.specs.Numbers.{numbered}
use Rattle.listing.proofs.CodeWays.{ended, not-whole, err-not-whole, refused-by-number, unless-refused, unless-passed}
use Rattle.origin.specs.Call.{origin_text_call}
use Rattle.origin.proofs.CodeWays.{refused-told, whole-told}
use Rattle.origin.proofs.origin_text.Goals as goal

pub returns-in_err-lengths : goal.returns-in_err-lengths
unfolding origin_text_call
returns-in_err-lengths c = unless-refused _ _ _ _ c.from_residual.ensures.1 c.in_err-lengths.ensures

pub returns-in_err-chip : goal.returns-in_err-chip
unfolding origin_text_call
returns-in_err-chip c =
    let args = c.args in
    unless-passed _ c.in_ok-lengths.ensures
    (refused-by-number _ _ _ _ _ c.from_residual-in_err-chip.ensures.1 c.in_err-chip.was
    ∙ refused-told (numbered args.end) args.memory.now args.writers.now args.row args.column args.out.now (err-not-whole c.in_err-chip.was))

pub returns-in_default : goal.returns-in_default
unfolding origin_text_call
returns-in_default c =
    let args = c.args in
    unless-passed _ c.in_ok-lengths.ensures
    (c.refused.ensures
    ∙ refused-told (numbered args.end) args.memory.now args.writers.now args.row args.column args.out.now (not-whole c.in_ok-chip.was c.in_default.not-Whole))

pub returns-in-Whole : goal.returns-in-Whole
unfolding origin_text_call
returns-in-Whole c =
    let args = c.args in
    unless-passed _ c.in_ok-lengths.ensures
    (c.of_pixel.ensures
    ∙ whole-told _ _ (numbered args.end) args.memory.now args.writers.now args.row args.column args.out.now (ended c.in_ok-chip.was c.in-Whole.is))
