use Rattle.std.proofs.Common.{rules, ◌∙◌, true, ℕ}
use Rattle.std.proofs.lemmas.Iterator.{YieldsList-from_slice, YieldsList-from_zip}
use Rattle.std.proofs.lemmas.Iterator.Search.{all_from_yields_List}
use lib.Dec.{leb}
use Rattle.record_words.specs.Words.{word_limits}
use Rattle.record_words.proofs.CodeWays.{all-within}
use Rattle.record_words.proofs.within_limits.Goals as goal

pub returns : goal.returns
returns c =
    all_from_yields_List (λ (p : ℕ × ℕ). leb p.0 p.1) c.all.new.self _ _ c.all.ensures.ran
    (YieldsList-from_zip (YieldsList-from_slice c.args.words.now cc) (YieldsList-from_slice word_limits c.zip.ensures.second.0))
    (λ x b q k. search rules)
    ∙ all-within true c.args.words.now word_limits c.requires
