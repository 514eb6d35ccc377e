use borrow.Author.Tests.{eq-eqb, ne_eqb}
use Rattle.compiler.proofs.runs.first_x.Goals as goal

pub returns-then-mx-eq1 : goal.returns-then-mx-eq1
returns-then-mx-eq1 c = simp (eq-eqb _ _ c.if-mx-eq1.true)

pub returns-else-mx-eq1 : goal.returns-else-mx-eq1
returns-else-mx-eq1 c = simp (ne_eqb _ _ c.if-mx-eq1.false)
