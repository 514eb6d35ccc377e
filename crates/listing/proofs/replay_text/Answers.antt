use mathlib.Core.Path.{◌∙◌}
use Rattle.refusals.specs.Numbers.{numbered}
use Rattle.listing.specs.ReplayText.{replay_text_call}
use Rattle.listing.proofs.CodeWays.{ended, not-whole, refused_end, unless-refused, unless-passed, refused-by-number, err-not-whole, text-whole}
use Rattle.listing.proofs.replay_text.Goals as goal

pub returns-in_err-lengths : goal.returns-in_err-lengths
unfolding replay_text_call
returns-in_err-lengths c = unless-refused _ _ _ _ c.from_residual.ensures.1 c.in_err-lengths.ensures

pub returns-in_err-end : goal.returns-in_err-end
unfolding replay_text_call
returns-in_err-end c =
    let args = c.args in
    unless-passed _ c.in_ok-lengths.ensures
    (refused-by-number _ _ _ _ _ c.from_residual-in_err-end.ensures.1 c.in_err-end.was
    ∙ refused_end (numbered args.end) args.memory.now args.writers.now args.out.now (err-not-whole c.in_err-end.was))

pub returns-in_default : goal.returns-in_default
unfolding replay_text_call
returns-in_default c =
    let args = c.args in
    unless-passed _ c.in_ok-lengths.ensures
    (c.refused.ensures ∙ refused_end (numbered args.end) args.memory.now args.writers.now args.out.now (not-whole c.in_ok-end.was c.in_default.not-Whole))

pub returns-in-Whole : goal.returns-in-Whole
unfolding replay_text_call
returns-in-Whole c =
    let args = c.args in
    unless-passed _ c.in_ok-lengths.ensures
    (c.listing.ensures ∙ text-whole _ _ (numbered args.end) args.memory.now args.writers.now args.out.now (ended c.in_ok-end.was c.in-Whole.is))
