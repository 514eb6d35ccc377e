use Rattle.std.proofs.Common.{arith, rules, eqb, tests, refl, ℕ}
use Rattle.std.proofs.lemmas.Iterator.Consumers.{nth_from_yields_List}
use Rattle.std.proofs.lemmas.Iterator.Splits.{YieldsList-from_slice_split}
use Rattle.text.proofs.Chains.{nth-piece}
use Rattle.text.proofs.pieces.piece.Goals as goal

pub returns : goal.returns
returns c =
    nth-piece c.args.separator c.args.s.now c.args.k _ c.nth.result _ _ refl
    (nth_from_yields_List c.nth.result _ _ c.nth.ensures.ran
    (YieldsList-from_slice_split _ (λ (x : ℕ). eqb x c.args.separator) c.args.s.now c.split.ensures.rest c.split.ensures.done c.split.ensures.closure
    (λ x b q k. search (rules, tests))))
    c.unwrap_or.ensures
    (omega arith)
