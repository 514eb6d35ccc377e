-- Wrong calls are shut out: one computed test over the table.
use lib.Dec.{T}
use Rattle.cases_proved.specs.Cited.{allowed, refusal_of, applied, accepted, step_of, run_of, run_from, tally, entry_refusal, event_refusal, is_addressed}
use Rattle.cases_proved.specs.Cited.{counts_of, count_of, in_rows, in_row, counts_call, counting_start, stored_of, next_address}
use Rattle.cases_proved.specs.Cited.{pixel_refusal, pixels_fit, pixels_after, mendable, mended, shown, pixelTally}
use Rattle.cases_proved.specs.Cited.{phase_after_address, controlled, acknowledge, command_of, answer_to, row_at, place_of, column_of, place_refusal, glass_refusal, cell_of, glass_of, row_bytes, row_refusal, row_of}
use Rattle.cases_proved.specs.Cited.{compile_of, reading_of, reading_from, line_of, number_of, stream, line_events}
use Rattle.cases_proved.specs.Cited.{stands_for, chip_of, words_of, reset_call, step_call, run_call, glass_call, place_call, pulses_call, pulse_row_call, compile_call}
use Rattle.cases_proved.specs.Calls.{calls, call_rows}
use Rattle.cases_proved.specs.Observed.{Distinguishes}
use Rattle.cases_proved.specs.Table.{EachRow, each_passes}
use Rattle.cases_proved.proofs.Observed.{passes, passes-distinguishes}
use Rattle.cases_proved.proofs.Table.{each_row}

all_pass : T (each_passes (passes calls) call_rows)
unfolding calls call_rows counts_call counting_start counts_of count_of in_rows in_row stands_for chip_of words_of
    reset_call step_call run_call glass_call place_call pulses_call pulse_row_call compile_call
    allowed refusal_of applied accepted step_of run_of run_from tally entry_refusal event_refusal pixel_refusal pixels_fit pixels_after mendable mended shown pixelTally is_addressed phase_after_address controlled acknowledge command_of answer_to row_at stored_of place_of next_address column_of
    place_refusal glass_refusal cell_of glass_of row_bytes row_refusal row_of
    compile_of reading_of reading_from line_of number_of stream line_events
all_pass = tt

pub wrong-calls : EachRow (Distinguishes calls) call_rows
wrong-calls = each_row (Distinguishes calls) (passes calls) (passes-distinguishes calls) call_rows all_pass
