use mathlib.Core.Path.{ap}
use borrow.Author.Rules.{rules}
use Rattle.print.proofs.Writing.{prints_then, prints-same}
use Rattle.chip_text.specs.ChipText.{register_lines, record_lines}
use Rattle.chip_text.proofs.record_lines.Goals as goal

pub returns : goal.returns
unfolding record_lines
returns c =
    prints_then (prints-same (ap register_lines c.bytes.ensures) c.register_lines.ensures)
    (prints_then (rw c.from.ensures at c.named_line.ensures)
    (prints_then (rw c.from-2.ensures at c.named_line-2.ensures) (search rules)))
