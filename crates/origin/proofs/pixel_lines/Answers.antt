use Rattle.text.specs.Text.{bytes}
use Rattle.print.proofs.Writing.{prints_then, prints-same}
use Rattle.origin.specs.Origin.{shown_text}
use Rattle.origin.proofs.CodeWays.{last-line}
use Rattle.origin.proofs.pixel_lines.Goals as goal

pub returns : goal.returns
returns c =
    prints_then c.named_line.ensures
    (prints_then c.named_line-2.ensures
    (prints-same (last-line (bytes "shows") (shown_text c.args.origin.shows)) (prints_then c.bytes.ensures (prints_then c.shown_words.ensures c.byte.ensures))))
