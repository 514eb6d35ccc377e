use Rattle.pixel_counts.proofs.mending.all_fit.Goals as goal

pub returns : goal.returns
returns c = simp (c.fits.ensures, c.fits-2.ensures, c.fits-3.ensures, c.fits-4.ensures)
