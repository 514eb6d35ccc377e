use borrow.Author.Tests.{eq-eqb, ne_eqb}
use Rattle.compiler.specs.Writes.{runs_of}
use Rattle.compiler.proofs.runs.runs_of.Goals as goal

pub returns-then-registers-eq1 : goal.returns-then-registers-eq1
unfolding runs_of
returns-then-registers-eq1 c =
    simp (
      eq-eqb _ _ c.if-registers-eq1.true,
      c.span-banks.ensures,
      c.span-columns.ensures,
      c.from-event.ensures,
      c.ordered.ensures,
      c.from-y.ensures,
      c.from-x.ensures,
      c.first_x.ensures,
    )

pub returns-else-registers-eq1 : goal.returns-else-registers-eq1
unfolding runs_of
returns-else-registers-eq1 c =
    simp (
      ne_eqb _ _ c.if-registers-eq1.false,
      c.span-banks.ensures,
      c.span-columns.ensures,
      c.from-event.ensures,
      c.ordered.ensures,
      c.from-y.ensures,
      c.from-x.ensures,
      c.first_x.ensures,
    )
