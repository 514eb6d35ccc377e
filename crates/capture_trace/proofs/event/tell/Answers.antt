use mathlib.Core.Bool.{Bool, true}
use Rattle.print.proofs.Writing.{prints-known}
use Rattle.capture_trace.specs.Follow.{told_line}
use Rattle.engine.specs.Answer.{told}
use Rattle.capture_trace.proofs.event.tell.Goals as goal

pub returns-then-told : goal.returns-then-told
returns-then-told c =
    let args = c.args in
    prints-known (λ (b : Bool). told_line b args.event args.before.chip args.before.count (told args.answer)) true c.if-told.true c.line.ensures
