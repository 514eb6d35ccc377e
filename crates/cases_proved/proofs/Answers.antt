-- Wrong answers of a compiler are shut out: one computed test over the table.
use lib.Dec.{T}
use Rattle.cases_proved.specs.Cited.{allowed, compile_of, reading_of, reading_from, line_of, number_of, stream, line_events, set_to}
use Rattle.cases_proved.specs.Answers.{answer_rows}
use Rattle.cases_proved.specs.Observed.{Distinguishes}
use Rattle.cases_proved.specs.Table.{EachRow, each_passes}
use Rattle.cases_proved.proofs.Observed.{passes, passes-distinguishes}
use Rattle.cases_proved.proofs.Table.{each_row}

all_pass : T (each_passes (passes compile_of) answer_rows)
unfolding answer_rows allowed compile_of reading_of reading_from line_of number_of stream line_events set_to
all_pass = tt

pub wrong-answers : EachRow (Distinguishes compile_of) answer_rows
wrong-answers = each_row (Distinguishes compile_of) (passes compile_of) (passes-distinguishes compile_of) answer_rows all_pass
