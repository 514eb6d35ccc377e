use Rattle.pixel_counts.proofs.mending.all_moved.Goals as goal

pub returns : goal.returns
returns c = simp (c.moved.ensures, c.moved-2.ensures, c.moved-3.ensures, c.moved-4.ensures)
