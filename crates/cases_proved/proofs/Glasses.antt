-- Wrong glasses are shut out: one computed test over the table.
use lib.Dec.{T}
use Rattle.cases_proved.specs.Cited.{allowed, place_refusal, glass_refusal, cell_of, glass_of}
use Rattle.cases_proved.specs.Glasses.{glass, glass_rows}
use Rattle.cases_proved.specs.Observed.{Distinguishes}
use Rattle.cases_proved.specs.Table.{EachRow, each_passes}
use Rattle.cases_proved.proofs.Observed.{passes, passes-distinguishes}
use Rattle.cases_proved.proofs.Table.{each_row}

all_pass : T (each_passes (passes glass) glass_rows)
unfolding glass glass_rows allowed place_refusal glass_refusal cell_of glass_of
all_pass = tt

pub wrong-glasses : EachRow (Distinguishes glass) glass_rows
wrong-glasses = each_row (Distinguishes glass) (passes glass) (passes-distinguishes glass) glass_rows all_pass
