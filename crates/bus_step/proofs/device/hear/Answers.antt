use Rattle.bus_step.proofs.CodeWays.{missed, heard-told}
use Rattle.bus_step.proofs.device.hear.Goals as goal

pub returns-then-is_sensor_reading-own_pins : goal.returns-then-is_sensor_reading-own_pins
returns-then-is_sensor_reading-own_pins c =
    missed _ _ _ _ _ c.is_sensor_reading.ensures (rw c.from-own_pins.ensures at c.if-is_sensor_reading-own_pins.true)

pub returns : goal.returns
returns c =
    heard-told
    _ _ _ _ _ c.is_sensor_reading.ensures _ _ _ _ _ _ (rw c.from-own_pins.ensures at c.if-is_sensor_reading-own_pins.false)
    c.run-ran.ensures.count_after c.run-ran.ensures.unknown_value c.run-ran.ensures.out_of_range_value c.answer.ensures
