use Rattle.host.proofs.CodeWays.{pulse-row-no-record, pulse-row-done}
use Rattle.host.proofs.pcf8820_pulse_row.Goals as goal

pub returns-in_default : goal.returns-in_default
returns-in_default c = pulse-row-no-record _ _ c.read_record.ensures c.in_default.is _ _ _ _ c.no_record.ensures

pub returns : goal.returns
returns c =
    rw c.refused_by.ensures (pulse-row-done _ _ _ c.read_record.ensures c.in-Some.is _ _ _ _ _ c.of_row.ensures)
