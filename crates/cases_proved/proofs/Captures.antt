-- Wrong replays are shut out: one computed test over the table.
use lib.Dec.{T}
use Rattle.cases_proved.specs.Cited.{allowed, row_at, command_of, stored_of, place_of, next_address, refusal_of, applied, accepted, number_of, pins_of, replay_of}
use Rattle.cases_proved.specs.Cited.{counts_of, count_of, in_rows, in_row}
use Rattle.cases_proved.specs.Cited.{pixel_refusal, pixels_fit, pixels_after, mendable, mended, shown, pixelTally}
use Rattle.cases_proved.specs.Cited.{entry_refusal, event_refusal, is_addressed, phase_after_address, acknowledge, controlled, column_of}
use Rattle.cases_proved.specs.Cited.{run_from, run_of}
use Rattle.cases_proved.specs.Captures.{capture_rows}
use Rattle.cases_proved.specs.Observed.{Distinguishes}
use Rattle.cases_proved.specs.Table.{EachRow, each_passes}
use Rattle.cases_proved.proofs.Observed.{passes, passes-distinguishes}
use Rattle.cases_proved.proofs.Table.{each_row}

all_pass : T (each_passes (passes replay_of) capture_rows)
unfolding capture_rows refusal_of accepted applied allowed command_of row_at stored_of place_of next_address number_of pins_of replay_of
    entry_refusal event_refusal pixel_refusal pixels_fit pixels_after mendable mended shown pixelTally is_addressed phase_after_address acknowledge controlled column_of run_from run_of counts_of count_of in_rows in_row
all_pass = tt

pub wrong-replays : EachRow (Distinguishes replay_of) capture_rows
wrong-replays = each_row (Distinguishes replay_of) (passes replay_of) (passes-distinguishes replay_of) capture_rows all_pass
