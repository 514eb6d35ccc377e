-- Wrong calls for samples of the wires are shut out: one computed test over the table.
use lib.Dec.{T}
use Rattle.cases_proved.specs.Cited.{signal_of, on_stop, on_bit, on_signal, sample_of, after_all, events_of, fitting, is_allowed, are_samples}
use Rattle.cases_proved.specs.Cited.{samplesRefusal, feed_of, areWires, wires_of, start_call, wires_call}
use Rattle.cases_proved.specs.Wires.{wire_calls, wire_rows}
use Rattle.cases_proved.specs.Observed.{Distinguishes}
use Rattle.cases_proved.specs.Table.{EachRow, each_passes}
use Rattle.cases_proved.proofs.Observed.{passes, passes-distinguishes}
use Rattle.cases_proved.proofs.Table.{each_row}

all_pass : T (each_passes (passes wire_calls) wire_rows)
unfolding wire_calls wire_rows start_call wires_call areWires wires_of
    feed_of samplesRefusal is_allowed are_samples fitting events_of after_all sample_of on_signal on_bit on_stop signal_of
all_pass = tt

pub wrong-wire-calls : EachRow (Distinguishes wire_calls) wire_rows
wrong-wire-calls = each_row (Distinguishes wire_calls) (passes wire_calls) (passes-distinguishes wire_calls) wire_rows all_pass
