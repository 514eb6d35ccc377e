use mathlib.Core.Path.{sym}
use mathlib.Core.List.{append-nil}
use Rattle.print.proofs.Writing.{prints_then, prints-same}
use Rattle.origin.proofs.cell_lines.Goals as goal

pub returns : goal.returns
returns c =
    prints_then c.named_line.ensures
    (prints_then c.named_line-2.ensures (prints_then c.named_line-3.ensures (prints-same (sym (append-nil _)) c.named_line-4.ensures)))
