use mathlib.Core.Path.{sym}
use lib.Seq.{set_out}
use Rattle.display.proofs.store.Goals as goal

pub returns-else-at-memory : goal.returns-else-at-memory
returns-else-at-memory g c = sym (set_out _ _ _ c.if-at-memory.false)
