use mathlib.Core.Bool.{true, false}
use borrow.Author.Tests.{eq-eqb, ne_eqb}
use Rattle.print.proofs.Writing.{prints_then, prints-known}
use Rattle.wires.specs.Unclear.{words}
use Rattle.wires.proofs.unclear.line.Goals as goal

pub returns-then-samples-eq1 : goal.returns-then-samples-eq1
returns-then-samples-eq1 c =
    prints_then (prints_then c.bytes.ensures c.decimal.ensures)
    (prints-known words true (eq-eqb c.args.samples 1 c.if-samples-eq1.true) c.bytes-then-samples-eq1.ensures)

pub returns-else-samples-eq1 : goal.returns-else-samples-eq1
returns-else-samples-eq1 c =
    prints_then (prints_then c.bytes.ensures c.decimal.ensures)
    (prints-known words false (ne_eqb c.args.samples 1 c.if-samples-eq1.false) c.bytes-else-samples-eq1.ensures)
