-- Wrong steps and runs past the entry are shut out: one computed test over the table.
use lib.Dec.{T}
use Rattle.cases_proved.specs.Cited.{row_at, command_of, answer_to, stored_of, place_of, next_address, applied, accepted}
use Rattle.cases_proved.specs.Cited.{pixel_refusal, pixels_fit, pixels_after, mendable, mended, shown, pixelTally}
use Rattle.cases_proved.specs.Cited.{event_refusal, is_addressed, phase_after_address, acknowledge}
use Rattle.cases_proved.specs.Cited.{controlled, column_of}
use Rattle.cases_proved.specs.Cited.{refusal_past_entry, step_past_entry, run_past_entry, tally_past_entry}
use Rattle.cases_proved.specs.Behaviour.{past_entry}
use Rattle.cases_proved.specs.Observed.{Distinguishes}
use Rattle.cases_proved.specs.PastEntry.{past_entry_rows}
use Rattle.cases_proved.specs.Table.{EachRow, each_passes}
use Rattle.cases_proved.proofs.Observed.{passes, passes-distinguishes}
use Rattle.cases_proved.proofs.Table.{each_row}

all_pass : T (each_passes (passes past_entry) past_entry_rows)
unfolding past_entry past_entry_rows step_past_entry refusal_past_entry run_past_entry tally_past_entry
    accepted applied command_of answer_to row_at stored_of place_of next_address
    event_refusal pixel_refusal pixels_fit pixels_after mendable mended shown pixelTally is_addressed phase_after_address acknowledge controlled column_of
all_pass = tt

pub wrong-past-entry : EachRow (Distinguishes past_entry) past_entry_rows
wrong-past-entry = each_row (Distinguishes past_entry) (passes past_entry) (passes-distinguishes past_entry) past_entry_rows all_pass
