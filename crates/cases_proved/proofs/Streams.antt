-- Wrong compilers are shut out: one computed test over each table.
use mathlib.Core.Bool.{Bool, true, false, not, ◌&&◌}
use mathlib.Core.List.{List, [], ◌∷◌}
use mathlib.Core.Path.{◌≡◌, refl, sym, ap, subst}
use Prim.Native.Nat.{ℕ, ◌^◌, ◌<◌}
use native.Mathlib.Omega.{arith}
use lib.Dec.{T, T_not, ltb, ltb→lt}
use lib.ListN.{length, take}
use Rattle.registers.proofs.Below.{and_left, and_right}
use Rattle.cases_proved.specs.Cited.{Line, Reading, faulty, lines, lines_of, bytes, same_bytes, blank, Fit, Demand3, Draws}
use Rattle.cases_proved.specs.Cited.{pixel_refusal, pixels_fit, pixels_after, mendable, mended, shown, pixelTally}
use Rattle.cases_proved.specs.Cited.{allowed, row_at, command_of, answer_to, stored_of, place_of, next_address, refusal_of, applied, accepted, step_of}
use Rattle.cases_proved.specs.Cited.{entry_refusal, event_refusal, is_addressed, phase_after_address, phase_after_last_read, acknowledge}
use Rattle.cases_proved.specs.Cited.{is_acknowledged, controlled, read_byte, pulsed, sensed, column_of}
use Rattle.cases_proved.specs.Cited.{number_of, line_of, reading_from, reading_of, filled, set_to, line_events, stream}
use Rattle.cases_proved.specs.Start.{zeros}
use Rattle.cases_proved.specs.Table.{EachRow, each_passes}
use Rattle.cases_proved.specs.Streams.{Output, start, lines_in, Wrong, Other, wrong_outputs, other_outputs}
use Rattle.cases_proved.proofs.Meets.{meets, meets-holds, meets-is, not_same, is_true}
use Rattle.cases_proved.proofs.Start.{upon-true}
use Rattle.cases_proved.proofs.Table.{each_row}

-- ---- the tests

abbrev is_met : Output → Bool
is_met o = meets (lines_in o) o.events (start o)

abbrev is_read : Reading → Bool
is_read (faulty k n) = false
is_read (lines ls) = true

-- the list is accepted, and so are the record and the room in the count
abbrev is_accepted : Output → Bool
is_accepted o = is_read (reading_of (bytes o.text)) && (allowed (start o).chip && ltb (length o.events) (2 ^ 64))

abbrev is_wrong : Output → Bool
is_wrong o = is_accepted o && not (is_met o)

abbrev right_events : Output → List ℕ
right_events o = stream 0 (lines_in o) (blank (start o).chip.registers)

abbrev is_other : Output → Bool
is_other o = is_accepted o && (is_met o && not (same_bytes (right_events o) o.events))

-- ---- what they show

read-lines : (r : Reading) → T (is_read r) → r ≡ lines (lines_of r)
read-lines (faulty k n) t = absurd t
read-lines (lines ls) t = refl

module _ (o : Output) (t : T (is_accepted o)) where
  reading : reading_of (bytes o.text) ≡ lines (lines_in o)
  reading = read-lines _ (and_left (is_read (reading_of (bytes o.text))) _ t)

  fit : Fit (start o)
  fit =
      record {
        memory_long = refl;
        writers_long = refl;
        is-allowed = is_true _ (and_left (allowed (start o).chip) _ (and_right (is_read (reading_of (bytes o.text))) _ t));
      }

  room : length o.events < 2 ^ 64
  room = ltb→lt (length o.events) (2 ^ 64) (and_right (allowed (start o).chip) _ (and_right (is_read (reading_of (bytes o.text))) _ t))

  draws-met : Draws (start o).chip (bytes o.text) (length o.events) o.events → Demand3 (lines_in o) o.events (start o)
  draws-met d =
      subst (λ (ls : List Line). Demand3 ls o.events (start o)) (sym (ap lines_of d.reads))
      (subst (λ (es : List ℕ). Demand3 d.list es (start o)) (take_all o.events) (d.plays zeros zeros 0 fit (upon-true o.before) (omega (arith, room))))
    where
      take_all : (es : List ℕ) → take (length es) es ≡ es
      take_all [] = refl
      take_all (e ∷ es) = ap (λ (xs : List ℕ). e ∷ xs) (take_all es)

wrong_row : (o : Output) → T (is_wrong o) → Wrong o
wrong_row o t =
    let accepted = and_left (is_accepted o) (not (is_met o)) t in
    let not_met : Demand3 (lines_in o) o.events (start o) → ⊥ = λ d.
    T_not (is_met o) (and_right (is_accepted o) (not (is_met o)) t) (meets-holds (lines_in o) o.events (start o) d)
    in
    record { reads = reading o accepted; not_met = not_met; not_promised = λ d. not_met (draws-met o accepted d) }

other_row : (o : Output) → T (is_other o) → Other o
other_row o t =
    let accepted = and_left (is_accepted o) _ t in
    let rest = and_right (is_accepted o) _ t in
    record {
      reads = reading o accepted;
      met = meets-is (lines_in o) o.events (start o) (fit o accepted) (upon-true o.before) (and_left (is_met o) _ rest);
      not_the_stream = not_same (right_events o) o.events (and_right (is_met o) _ rest);
    }

-- ---- the statements

all-wrong : T (each_passes is_wrong wrong_outputs)
unfolding wrong_outputs
    step_of refusal_of accepted applied allowed command_of answer_to row_at stored_of place_of next_address
    entry_refusal event_refusal pixel_refusal pixels_fit pixels_after mendable mended shown pixelTally is_addressed phase_after_address phase_after_last_read acknowledge is_acknowledged controlled read_byte pulsed sensed column_of
    reading_of reading_from line_of number_of set_to filled
all-wrong = tt

all-other : T (each_passes is_other other_outputs)
unfolding other_outputs
    step_of refusal_of accepted applied allowed command_of answer_to row_at stored_of place_of next_address
    entry_refusal event_refusal pixel_refusal pixels_fit pixels_after mendable mended shown pixelTally is_addressed phase_after_address phase_after_last_read acknowledge is_acknowledged controlled read_byte pulsed sensed column_of
    reading_of reading_from line_of number_of set_to filled stream line_events
all-other = tt

pub wrong-outputs : EachRow Wrong wrong_outputs
wrong-outputs = each_row Wrong is_wrong wrong_row wrong_outputs all-wrong

pub other-outputs : EachRow Other other_outputs
other-outputs = each_row Other is_other other_row other_outputs all-other
