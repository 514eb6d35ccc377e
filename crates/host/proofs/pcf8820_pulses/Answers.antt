use Rattle.host.proofs.CodeWays.{pulses-no-record, pulses-done}
use Rattle.host.proofs.pcf8820_pulses.Goals as goal

pub returns-in_default : goal.returns-in_default
returns-in_default c = pulses-no-record _ _ c.read_record.ensures c.in_default.is _ _ _ _ c.no_record.ensures

pub returns : goal.returns
returns c =
    pulses-done _ _ _ c.read_record.ensures c.in-Some.is _ _ _ _ _ c.of_pixel-pulses.ensures c.pulses_number.ensures
