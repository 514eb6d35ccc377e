use borrow.Author.Tests.{eq-eqb, ne_eqb}
use Rattle.record_words.specs.Words.{stands_for}
use Rattle.record_words.proofs.stand_for_a_chip.Goals as goal

pub returns-then-words-ne-WORDS : goal.returns-then-words-ne-WORDS
unfolding stands_for
returns-then-words-ne-WORDS c = simp (ne_eqb _ _ c.if-words-ne-WORDS.true)

pub returns : goal.returns
unfolding stands_for
returns c = simp (eq-eqb _ _ c.if-words-ne-WORDS.false, c.within_limits.ensures)
