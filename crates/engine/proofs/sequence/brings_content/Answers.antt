use mathlib.Core.Bool.{Bool, ◌&&◌}
use mathlib.Core.Path.{ap}
use lib.Dec.{ltb}
use Rattle.engine.proofs.sequence.brings_content.Goals as goal

pub returns : goal.returns
returns c = ap (λ (t : Bool). ltb c.args.event 256 && t) c.awaits_content.ensures
