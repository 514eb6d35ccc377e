use Rattle.host.proofs.CodeWays.{step-no-record, step-other-length, step-done}
use Rattle.host.proofs.pcf8820_step.Goals as goal

pub returns-in_default : goal.returns-in_default
returns-in_default c = step-no-record _ _ c.read_record.ensures c.in_default.is _ _ _ _ _ c.no_record.ensures

pub returns-then-refused-ne0 : goal.returns-then-refused-ne0
returns-then-refused-ne0 c = step-other-length _ _ _ c.read_record.ensures c.in-Some.is _ _ _ _ c.other_length-refused.ensures _ c.if-refused-ne0.true

pub returns : goal.returns
returns c =
    step-done _ _ _ c.read_record.ensures c.in-Some.is _ _ _ _ _ _ _ _ _ _ _ _ c.other_length-refused.ensures c.if-refused-ne0.false
    c.step-stepped.ensures c.write_record.ensures c.number.ensures
