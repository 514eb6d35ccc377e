use Rattle.std.proofs.Common.{rules, eqb, tests, ap, ◌∙◌, ℕ, List, not}
use Rattle.std.proofs.lemmas.Iterator.Consumers.{count_from_yields_List, YieldsList-at}
use Rattle.std.proofs.lemmas.Iterator.Search.{YieldsList-from_take_while}
use Rattle.std.proofs.lemmas.Iterator.Splits.{YieldsList-from_slice_split}
use Rattle.std.proofs.lemmas.List.Folds.{length-prefix_len}
use Rattle.text.specs.Text.{same_bytes, index_of}
use Rattle.text.proofs.Chains.{place-index, split_lem}
use Rattle.text.proofs.pieces.index_of.Goals as goal

pub returns : goal.returns
returns c =
    count_from_yields_List c.take_while.result _ c.count.ensures.ran
    (YieldsList-from_take_while _ (λ (p : List ℕ). not (same_bytes p c.args.word.now))
    (YieldsList-at c.take_while.ensures.source
    (YieldsList-from_slice_split _ (λ (x : ℕ). eqb x c.args.separator) c.args.s.now c.split.ensures.rest c.split.ensures.done c.split.ensures.closure (λ x b q k. search (rules, tests))))
    c.take_while.ensures.closure
    c.take_while.ensures.done
    (λ x b q k. search (rules, tests)))
    ∙ length-prefix_len (λ (p : List ℕ). not (same_bytes p c.args.word.now)) _
    ∙ place-index c.args.word.now _
    ∙ ap (index_of c.args.word.now) (split_lem c.args.separator c.args.s.now)
