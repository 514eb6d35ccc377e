use mathlib.Core.Path.{ap, ◌∙◌}
use Rattle.print.proofs.Writing.{prints-same}
use Rattle.picture.specs.Picture.{colour_of, pixel_text}
use Rattle.picture.proofs.pixel_at.Goals as goal

pub returns : goal.returns
returns c = prints-same (ap pixel_text (c.colour_of.ensures ∙ ap colour_of c.glass-shown.ensures)) c.pixel.ensures
