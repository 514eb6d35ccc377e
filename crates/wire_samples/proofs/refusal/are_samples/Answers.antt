use Rattle.std.proofs.Common.{rules, ◌≡◌, List, ℕ, Bool, ap, ◌∙◌, true}
use Rattle.std.proofs.lemmas.Fn.{fold_over, slice_gives, fronts}
use Rattle.wire_samples.specs.Feed.{are_samples}
use Rattle.wire_samples.proofs.Tested.{tested-more, none-tested}
use Rattle.wire_samples.proofs.refusal.are_samples.Goals as goal

pub returns : goal.returns
returns c =
    fold_over fronts (λ y. y.now) _ (λ (ss : List ℕ) (good : Bool). good ≡ are_samples ss) _
    (λ ss good x now f' e k. (tested-more ss good x.now now e (search rules), search rules))
    c.iter.result _ true _ (slice_gives c.iter.result) none-tested c.fold.ensures.ran
    ∙ ap are_samples (search rules)
