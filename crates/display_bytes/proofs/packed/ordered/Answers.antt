use borrow.Author.Tests.{ne_eqb}
use Rattle.display_bytes.proofs.packed.ordered.Goals as goal

pub returns-else-data_order-eq1 : goal.returns-else-data_order-eq1
returns-else-data_order-eq1 c = simp (ne_eqb _ _ c.if-data_order-eq1.false)
