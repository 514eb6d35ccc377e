use mathlib.Core.Path.{◌∙◌}
use Rattle.pixel_counts.specs.Mending.{mendable}
use Rattle.pixel_counts.proofs.mending.mendable.Goals as goal

pub returns : goal.returns
unfolding mendable
returns c = c.all_fit.ensures ∙ simp (c.shown.ensures, c.shown-2.ensures)
