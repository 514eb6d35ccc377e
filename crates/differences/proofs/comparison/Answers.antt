use mathlib.Core.Path.{◌∙◌}
use Rattle.refusals.specs.Numbers.{numbered}
use Rattle.listing.proofs.CodeWays.{ended, not-whole, err-not-whole, refused-by-number, unless-refused, unless-passed}
use Rattle.differences.specs.Comparison.{comparison_call}
use Rattle.differences.proofs.CodeWays.{first-refused-end, second-refused-end, both-whole}
use Rattle.differences.proofs.comparison.Goals as goal

pub returns-in_err-refusal : goal.returns-in_err-refusal
unfolding comparison_call
returns-in_err-refusal c = unless-refused _ _ _ _ c.from_residual.ensures.1 c.in_err-refusal.ensures

pub returns-in_err-first_chip : goal.returns-in_err-first_chip
unfolding comparison_call
returns-in_err-first_chip c =
    let args = c.args in
    unless-passed _ c.in_ok-refusal.ensures
    (refused-by-number _ _ _ _ _ c.from_residual-in_err-first_chip.ensures.1 c.in_err-first_chip.was
    ∙ first-refused-end (numbered args.first) args.first_memory.now args.first_writers.now _ args.out.now (err-not-whole c.in_err-first_chip.was))

pub returns-in_default : goal.returns-in_default
unfolding comparison_call
returns-in_default c =
    let args = c.args in
    unless-passed _ c.in_ok-refusal.ensures
    (c.refused.ensures
    ∙ first-refused-end (numbered args.first) args.first_memory.now args.first_writers.now _ args.out.now
    (not-whole c.in_ok-first_chip.was c.in_default.not-Whole))

pub returns-in_err-second_chip : goal.returns-in_err-second_chip
unfolding comparison_call
returns-in_err-second_chip c =
    let args = c.args in
    unless-passed _ c.in_ok-refusal.ensures
    (refused-by-number _ _ _ _ _ c.from_residual-in_err-second_chip.ensures.1 c.in_err-second_chip.was
    ∙ second-refused-end _ _ (numbered args.first) args.first_memory.now args.first_writers.now (numbered args.second) args.second_memory.now
    args.second_writers.now args.out.now (ended c.in_ok-first_chip.was c.in-Whole.is) (err-not-whole c.in_err-second_chip.was))

pub returns-in_default-2 : goal.returns-in_default-2
unfolding comparison_call
returns-in_default-2 c =
    let args = c.args in
    unless-passed _ c.in_ok-refusal.ensures
    (c.refused-in_default-2.ensures
    ∙ second-refused-end _ _ (numbered args.first) args.first_memory.now args.first_writers.now (numbered args.second) args.second_memory.now
    args.second_writers.now args.out.now (ended c.in_ok-first_chip.was c.in-Whole.is) (not-whole c.in_ok-second_chip.was c.in_default-2.not-Whole))

pub returns : goal.returns
unfolding comparison_call
returns c =
    let args = c.args in
    unless-passed _ c.in_ok-refusal.ensures
    (c.differences.ensures
    ∙ both-whole _ _ _ _ (numbered args.first) args.first_memory.now args.first_writers.now (numbered args.second) args.second_memory.now
    args.second_writers.now args.out.now (ended c.in_ok-first_chip.was c.in-Whole.is) (ended c.in_ok-second_chip.was c.in-Whole-2.is)
    c.in_ok-refusal.ensures)
