use mathlib.Core.Path.{refl}
use Rattle.registers.proofs.Refusals.{refused-first, refused-later}
use Rattle.host.proofs.no_record.Goals as goal

pub returns-then-refused-ne0 : goal.returns-then-refused-ne0
returns-then-refused-ne0 c = refused-first _ _ _ c.other_length-refused.ensures c.if-refused-ne0.true

pub returns : goal.returns
returns c = refused-later _ _ _ _ c.other_length-refused.ensures c.if-refused-ne0.false refl
