-- The marked cases hold: one statement over the whole table, computed. And demand 3 speaks of something: the first marked stream is one of its cases.
use mathlib.Core.List.{[], ◌∷◌}
use mathlib.Core.Path.{refl}
use native.Mathlib.Omega.{arith}
use lib.Dec.{T}
use Rattle.cases_proved.specs.Cited.{Fill, bytes, Demand3, allowed, row_at, command_of, answer_to, stored_of, place_of, next_address, refusal_of, applied}
use Rattle.cases_proved.specs.Cited.{pixel_refusal, pixels_fit, pixels_after, mendable, mended, shown, pixelTally}
use Rattle.cases_proved.specs.Cited.{accepted, step_of}
use Rattle.cases_proved.specs.Cited.{entry_refusal, event_refusal, is_addressed, phase_after_address, phase_after_last_read, acknowledge}
use Rattle.cases_proved.specs.Cited.{is_acknowledged, controlled, read_byte, pulsed, sensed, column_of}
use Rattle.cases_proved.specs.Cited.{place_refusal, glass_refusal, glass_of, number_of, line_of, reading_from, reading_of, set_to, line_events, stream, compile_of}
use Rattle.cases_proved.specs.Start.{upon}
use Rattle.cases_proved.specs.Table.{each_passes}
use Rattle.drawing.proofs.Demand3.{text-demand-3}
use Rattle.cases_proved.proofs.Start.{upon-true}
use Rattle.cases_proved.specs.Marked.{holds, marked, put_events}

pub all-marked : T (each_passes holds marked)
unfolding holds marked
    step_of refusal_of accepted applied allowed command_of answer_to row_at stored_of place_of next_address
    entry_refusal event_refusal pixel_refusal pixels_fit pixels_after mendable mended shown pixelTally is_addressed phase_after_address phase_after_last_read acknowledge is_acknowledged controlled read_byte pulsed sensed column_of
    place_refusal glass_refusal glass_of
    compile_of reading_of reading_from line_of number_of stream line_events set_to
all-marked = tt

pub marked-plays : Demand3 (Fill 5 5 2 2 167 ∷ []) (put_events 0x85 0xA7) (upon [])
unfolding reading_of reading_from line_of number_of stream line_events allowed
marked-plays =
    text-demand-3 (bytes "put\t5\t2\t167\n") (Fill 5 5 2 2 167 ∷ []) refl (upon [])
    (record { memory_long = refl; writers_long = refl; is-allowed = refl }) (upon-true []) (omega arith)
