use mathlib.Core.Path.{◌∙◌}
use Rattle.refusals.specs.Numbers.{numbered}
use Rattle.listing.proofs.CodeWays.{ended, not-whole, err-not-whole, refused-by-number}
use Rattle.chip_text.proofs.CodeWays.{refused_end, whole-end}
use Rattle.chip_text.proofs.chip_text.Goals as goal

pub returns-in_err-chip : goal.returns-in_err-chip
returns-in_err-chip c =
    refused-by-number _ _ _ _ _ c.from_residual.ensures.1 c.in_err-chip.was ∙ refused_end (numbered c.args.end) _ _ (err-not-whole c.in_err-chip.was)

pub returns-in_default : goal.returns-in_default
returns-in_default c = c.refused.ensures ∙ refused_end (numbered c.args.end) _ _ (not-whole c.in_ok-chip.was c.in_default.not-Whole)

pub returns-in-Whole : goal.returns-in-Whole
returns-in-Whole c = c.text.ensures ∙ whole-end _ _ _ _ _ (ended c.in_ok-chip.was c.in-Whole.is)
