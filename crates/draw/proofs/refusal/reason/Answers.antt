use mathlib.Core.Path.{sym, ap}
use Rattle.refusals.specs.declared.Refusal.{Refusal}
use Rattle.refusals.specs.Numbers.{number}
use Rattle.print.proofs.Writing.{prints-same}
use Rattle.draw.specs.Refusal.{reason_of}
use Rattle.draw.proofs.CodeWays.{other-reason}
use Rattle.draw.proofs.refusal.reason.Goals as goal

pub returns-in-MalformedLine : goal.returns-in-MalformedLine
unfolding reason_of
returns-in-MalformedLine c =
    prints-same (ap (λ (r : Refusal). reason_of (number r)) (sym c.in-MalformedLine.is)) c.bytes.ensures

pub returns-in-NumberOutOfRange : goal.returns-in-NumberOutOfRange
unfolding reason_of
returns-in-NumberOutOfRange c =
    prints-same (ap (λ (r : Refusal). reason_of (number r)) (sym c.in-NumberOutOfRange.is)) c.bytes-in-NumberOutOfRange.ensures

pub returns-in-UnreadableRow : goal.returns-in-UnreadableRow
unfolding reason_of
returns-in-UnreadableRow c =
    prints-same (ap (λ (r : Refusal). reason_of (number r)) (sym c.in-UnreadableRow.is)) c.bytes-in-UnreadableRow.ensures

pub returns-in_default : goal.returns-in_default
returns-in_default c =
    prints-same (other-reason _ c.in_default.not-MalformedLine c.in_default.not-NumberOutOfRange c.in_default.not-UnreadableRow) c.bytes-in_default.ensures
