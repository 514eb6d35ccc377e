use mathlib.Core.Path.{◌∙◌}
use Rattle.host.proofs.CodeWays.{run-no-record, run-other-length, run-done}
use Rattle.host.proofs.pcf8820_run.Goals as goal

pub returns-in_default : goal.returns-in_default
returns-in_default c = run-no-record _ _ c.read_record.ensures c.in_default.is _ _ _ _ _ c.no_record.ensures

pub returns-then-refused-ne0 : goal.returns-then-refused-ne0
returns-then-refused-ne0 c = run-other-length _ _ _ c.read_record.ensures c.in-Some.is _ _ _ _ c.other_length-refused.ensures _ c.if-refused-ne0.true

pub returns : goal.returns
returns c =
    let played = c.run-ran.ensures in
    rw (c.from.ensures ∙ c.number_of.ensures)
    (run-done _ _ _ c.read_record.ensures c.in-Some.is _ _ _ _ _ _ _ _ _ _ _ _ _ _ c.other_length-refused.ensures c.if-refused-ne0.false
    played.count_after played.unknown_value played.out_of_range_value c.write_record.ensures)
