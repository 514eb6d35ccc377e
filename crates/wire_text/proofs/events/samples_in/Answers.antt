use Rattle.std.proofs.Common.{rules, tests, refl, sym, ap, ltb, ℕ, length, ◌∙◌}
use Rattle.std.proofs.lemmas.Iterator.{YieldsList-from_slice}
use Rattle.std.proofs.lemmas.Iterator.Search.{position_from_yields_List}
use Rattle.wire_text.proofs.CodeWays.{position-samples}
use Rattle.wire_text.proofs.Samples.{good-all}
use Rattle.wire_text.proofs.events.samples_in.Goals as goal

pub returns-then-are_samples : goal.returns-then-are_samples
returns-then-are_samples c = sym (ap length (good-all _ (sym c.are_samples.ensures ∙ c.if-are_samples.true)))

pub returns : goal.returns
returns c =
    c.unwrap_or.ensures
    ∙ position-samples c.args.part.now _ _
    (position_from_yields_List (λ (x : ℕ). ltb 3 x) _ _ _ c.position.ensures.ran (YieldsList-from_slice _ c.iter.ensures.rest)
    (λ x b q k. search (rules, tests)))
    refl
