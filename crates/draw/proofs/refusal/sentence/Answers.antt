use Rattle.print.proofs.Writing.{prints_then}
use Rattle.draw.proofs.refusal.sentence.Goals as goal

pub returns : goal.returns
returns c =
    let front = prints_then (prints_then c.bytes.ensures c.place.ensures) c.bytes-2.ensures in
    let numbered = prints_then (prints_then front (rw (c.from.ensures, c.number.ensures.value) at c.decimal.ensures)) c.bytes-3.ensures in
    prints_then (prints_then numbered c.reason.ensures) c.byte.ensures
