use mathlib.Core.Path.{sym, ◌∙◌}
use Rattle.engine.proofs.sequence.content_end.Goals as goal

pub returns-else-is_endless : goal.returns-else-is_endless
returns-else-is_endless c = rw (sym c.is_endless.ensures ∙ c.if-is_endless.false)
