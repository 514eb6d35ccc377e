use native.Mathlib.Omega.{arith}
use mathlib.Core.Path.{sym, ◌∙◌}
use Rattle.pixel_counts.proofs.Laws.{so-fits}
use Rattle.pixel_counts.proofs.mending.moved.Goals as goal

pub overflow_sub-result : goal.overflow_sub-result
overflow_sub-result c = let args = c.args in omega (arith, (so-fits args.count args.left args.joined (sym c.fits.ensures ∙ c.if-fits.true)).0)

pub overflow_cast-result-then-fits-3 : goal.overflow_cast-result-then-fits-3
overflow_cast-result-then-fits-3 c = let args = c.args in omega (arith, (so-fits args.count args.left args.joined (sym c.fits.ensures ∙ c.if-fits.true)).1)

pub returns-then-fits : goal.returns-then-fits
returns-then-fits c = simp (sym c.fits.ensures ∙ c.if-fits.true)

pub returns : goal.returns
returns c = simp (sym c.fits.ensures ∙ c.if-fits.false)
