use Rattle.compiler.proofs.Lines.{after-fill, after-set}
use Rattle.compiler.proofs.line.registers_after.Goals as goal

pub returns-in-Fill : goal.returns-in-Fill
returns-in-Fill c = after-fill _ _ _ _ _ _ _ c.in-Fill.is

pub returns-in-Set : goal.returns-in-Set
returns-in-Set c = after-set _ _ _ _ _ c.in-Set.is c.with_field.ensures
