-- Wrong chips are shut out: one computed test over the table.
use lib.Dec.{T}
use Rattle.cases_proved.specs.Cited.{allowed, row_at, command_of, answer_to, stored_of, place_of, next_address, refusal_of, applied, accepted, step_of, run_of}
use Rattle.cases_proved.specs.Cited.{pixel_refusal, pixels_fit, pixels_after, mendable, mended, shown, pixelTally}
use Rattle.cases_proved.specs.Cited.{entry_refusal, event_refusal, is_addressed, phase_after_address, phase_after_last_read, acknowledge}
use Rattle.cases_proved.specs.Cited.{is_acknowledged, controlled, read_byte, pulsed, sensed, column_of, run_from, tally}
use Rattle.cases_proved.specs.Behaviour.{chip}
use Rattle.cases_proved.specs.Chips.{bus_events, command_bytes, command_answers, display_data, refusals_and_runs, chip_rows}
use Rattle.cases_proved.specs.Pixels.{pixel_counts}
use Rattle.cases_proved.specs.Observed.{Distinguishes}
use Rattle.cases_proved.specs.Table.{EachRow, each_passes}
use Rattle.cases_proved.proofs.Observed.{passes, passes-distinguishes}
use Rattle.cases_proved.proofs.Table.{each_row}

all_pass : T (each_passes (passes chip) chip_rows)
unfolding chip chip_rows bus_events command_bytes command_answers display_data pixel_counts refusals_and_runs
    step_of refusal_of accepted applied allowed command_of answer_to row_at stored_of place_of next_address run_of
    entry_refusal event_refusal pixel_refusal pixels_fit pixels_after mendable mended shown pixelTally is_addressed phase_after_address phase_after_last_read acknowledge is_acknowledged controlled read_byte pulsed sensed column_of run_from tally
all_pass = tt

pub wrong-chips : EachRow (Distinguishes chip) chip_rows
wrong-chips = each_row (Distinguishes chip) (passes chip) (passes-distinguishes chip) chip_rows all_pass
