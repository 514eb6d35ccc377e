-- The states that the cases start from have true counts of pixels: those of a counting start.
use mathlib.Core.List.{List}
use mathlib.Core.Path.{sym}
use Rattle.pixel_counts.proofs.Laws.{zeros-cleared}
use Rattle.cases_proved.specs.Cited.{places, TrueCounts}
use Rattle.cases_proved.specs.Start.{Setting, upon}

pub upon-true : (before : List Setting) → TrueCounts (upon before)
upon-true before = sym (zeros-cleared places)
