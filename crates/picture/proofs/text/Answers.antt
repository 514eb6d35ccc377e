use Rattle.print.proofs.Writing.{prints_then}
use Rattle.picture.specs.Picture.{pixmap_of}
use Rattle.picture.proofs.text.Goals as goal

pub returns : goal.returns
unfolding pixmap_of
returns c = prints_then c.bytes.ensures c.pixels.ensures
