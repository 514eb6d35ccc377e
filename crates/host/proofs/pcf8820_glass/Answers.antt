use Rattle.host.proofs.CodeWays.{glass-no-record, glass-done}
use Rattle.host.proofs.pcf8820_glass.Goals as goal

pub returns-in_default : goal.returns-in_default
returns-in_default c = glass-no-record _ _ c.read_record.ensures c.in_default.is _ _ _ _ c.no_record.ensures

pub returns : goal.returns
returns c =
    glass-done _ _ _ c.read_record.ensures c.in-Some.is _ _ _ _ _ c.glass-shown.ensures c.shown_number.ensures
