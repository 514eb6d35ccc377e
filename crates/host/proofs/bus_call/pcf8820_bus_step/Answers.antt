use mathlib.Core.Path.{◌∙◌}
use Rattle.bus_host.proofs.CodeWays.{call-no-record, call-done}
use Rattle.host.proofs.bus_call.pcf8820_bus_step.Goals as goal

pub returns-in_default : goal.returns-in_default
returns-in_default c =
    call-no-record _ _ _ _ _ _ _ _ _ _ _ _ _ _ _ _ c.read_four.ensures _ c.in_default.is (c.from.ensures ∙ c.number.ensures.value ∙ c.no_record-refusal.ensures)

pub returns : goal.returns
returns c =
    call-done _ _ _ _ _ _ _ _ _ _ _ _ _ _ _ _ c.read_four.ensures _ c.step-stepped.result.chips _ _ _ _ _ _ _ _ _ _ _ _ _ _ _
    c.in-Some.is c.step-stepped.ensures c.write_four.ensures.record0_after c.write_four.ensures.record1_after
    c.write_four.ensures.record2_after c.write_four.ensures.record3_after c.number-2.ensures
