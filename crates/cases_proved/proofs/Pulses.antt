-- Wrong pulses are shut out: one computed test over the table.
use lib.Dec.{T}
use Rattle.cases_proved.specs.Cited.{allowed, place_refusal, glass_refusal, glass_of, row_bytes, row_refusal, row_of}
use Rattle.cases_proved.specs.Pulses.{pulsing, pulse_rows}
use Rattle.cases_proved.specs.Observed.{Distinguishes}
use Rattle.cases_proved.specs.Table.{EachRow, each_passes}
use Rattle.cases_proved.proofs.Observed.{passes, passes-distinguishes}
use Rattle.cases_proved.proofs.Table.{each_row}

all_pass : T (each_passes (passes pulsing) pulse_rows)
unfolding pulsing pulse_rows allowed place_refusal glass_refusal glass_of row_bytes row_refusal row_of
all_pass = tt

pub wrong-pulses : EachRow (Distinguishes pulsing) pulse_rows
wrong-pulses = each_row (Distinguishes pulsing) (passes pulsing) (passes-distinguishes pulsing) pulse_rows all_pass
