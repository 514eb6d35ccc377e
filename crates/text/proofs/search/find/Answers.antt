use Rattle.std.proofs.Common.{rules, eqb, tests, refl, ◌∙◌, ℕ, Some, None}
use Rattle.std.proofs.lemmas.Iterator.{YieldsList-from_slice}
use Rattle.std.proofs.lemmas.Iterator.Search.{position_from_yields_List}
use Rattle.text.proofs.Chains.{behind_lem, position-find}
use Rattle.text.proofs.search.find.Goals as goal

pub returns-in-Some : goal.returns-in-Some
returns-in-Some c =
    position-find c.args.s.now c.args.from c.args.byte (Some c.in-Some.passed)
    (position_from_yields_List (λ (x : ℕ). eqb x c.args.byte) _ _ (Some c.in-Some.passed) c.in-Some.ensures.ran
    (YieldsList-from_slice _ (c.iter.ensures.rest ∙ behind_lem c.args.s.now c.args.from c.get.result _ _ refl c.get.ensures.lookup c.unwrap_or-behind.ensures))
    (λ x b q k. search (rules, tests)))

pub returns-in-None : goal.returns-in-None
returns-in-None c =
    position-find c.args.s.now c.args.from c.args.byte None
    (position_from_yields_List (λ (x : ℕ). eqb x c.args.byte) _ _ None c.in-None.ensures.ran
    (YieldsList-from_slice _ (c.iter.ensures.rest ∙ behind_lem c.args.s.now c.args.from c.get.result _ _ refl c.get.ensures.lookup c.unwrap_or-behind.ensures))
    (λ x b q k. search (rules, tests)))
