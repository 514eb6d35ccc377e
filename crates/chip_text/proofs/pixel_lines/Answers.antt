use Rattle.print.proofs.Writing.{prints_then}
use Rattle.chip_text.specs.ChipText.{pixel_lines}
use Rattle.chip_text.proofs.pixel_lines.Goals as goal

pub returns : goal.returns
unfolding pixel_lines
returns c =
    prints_then (rw c.from.ensures at c.named_line.ensures)
    (prints_then (rw c.from-2.ensures at c.named_line-2.ensures)
    (prints_then (rw c.from-3.ensures at c.named_line-3.ensures) (rw c.from-4.ensures at c.named_line-4.ensures)))
