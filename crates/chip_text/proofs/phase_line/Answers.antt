use Rattle.text.specs.Text.{bytes}
use Rattle.print.proofs.Writing.{prints_then, prints-same}
use Rattle.chip_text.specs.ChipText.{phase_words}
use Rattle.chip_text.proofs.CodeWays.{line-fields}
use Rattle.chip_text.proofs.phase_line.Goals as goal

pub returns : goal.returns
returns c =
    prints-same (line-fields (bytes "phase") (phase_words c.args.phase))
    (prints_then c.bytes.ensures (prints_then (rw c.phase_words.ensures at c.bytes-2.ensures) c.byte.ensures))
