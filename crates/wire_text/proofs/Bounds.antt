-- How long the text of a part is at most: a sample tells one event at most, whose number has three digits at most.
use mathlib.Core.Bool.{Bool, true, false, cond}
use mathlib.Core.List.{List, [], ◌∷◌, ◌++◌}
use Prim.Native.Nat.{ℕ, suc, ◌+◌, ◌*◌, ◌≤◌, ◌<◌}
use native.Mathlib.Omega.{arith}
use lib.Dec.{ltb}
use lib.ListN.{length, length-append}
use Rattle.print.specs.Chosen.{lines_of}
use Rattle.print.specs.Printed.{top, decimal_of}
use Rattle.print.proofs.Digits.{decimal-bound}
use Rattle.print.proofs.Writing.{after-bound}
use Rattle.wire_samples.specs.declared.Stage.{Stage}
use Rattle.wire_samples.specs.declared.Stage.TheVariants as stages
use Rattle.wire_samples.specs.declared.Wires.{Wires}
use Rattle.wire_samples.specs.declared.signal.Signal.{Signal}
use Rattle.wire_samples.specs.declared.signal.Signal.TheVariants.{Quiet, Start, Stop, Bit, Unclear}
use Rattle.std.specs.Prelude.{Option, None, Some}
use Rattle.wire_samples.specs.Signal.{signal_of}
use Rattle.wire_samples.specs.Sample.{quiet, anew, is_waiting, on_stop, in_message, one_bit_more, event_of, byte_done, on_bit}
use Rattle.wire_samples.specs.Sample.{on_signal, sample_of, told_by}
use Rattle.wire_samples.specs.Feed.{after_sample, events_at, events_of, are_samples}
use Rattle.wire_traffic.specs.When.{InRanges, Samples}
use Rattle.wire_traffic.proofs.Ranges.{sample-in-ranges}
use Rattle.wire_traffic.proofs.Rooms.{samples}
use Rattle.wire_text.specs.declared.Reading.{Reading}
use Rattle.wire_text.specs.Capture.{samples_in, pins_line, event_line, event_lines, last_line}
use Rattle.wire_text.specs.Parts.{is_over, first_line, samples_after, part_text}
use Rattle.wire_text.proofs.CodeWays.{lines-append}
use Rattle.wire_text.proofs.Samples.{no_more, are-samples-in}

-- ---- one sample

line_of : Option ℕ → List ℕ
line_of t = lines_of event_line (told_by t)

short : (e : ℕ) → e < 1000 → length (line_of (Some e)) ≤ 4
unfolding line_of
short e h = simp length-append (omega (arith, decimal-bound 2 e h))

none : length (line_of None) ≤ 4
unfolding line_of
none = omega arith

module _ (w : Wires) (r : InRanges w) (s : ℕ) where
  of-byte : (st : Stage) (b : Bool) → event_of st w.value b < 1000
  of-byte stages.Outside b = omega (arith, r.value)
  of-byte stages.Waiting b = omega (arith, r.value)
  of-byte stages.First b = omega (arith, r.value)
  of-byte stages.Writing b = omega (arith, r.value)
  of-byte stages.Reading true = omega arith
  of-byte stages.Reading false = omega arith

  of-bit : (b : Bool) → length (line_of (on_bit w s b).told) ≤ 4
  unfolding on_bit
  of-bit b = go (in_message w.stage) (ltb w.bits 8)
    where
      go : (t u : Bool) → length (line_of (cond t (cond u (one_bit_more w s b) (byte_done w s b)) (quiet w s)).told) ≤ 4
      go false u = none
      go true true = none
      go true false = short (event_of w.stage w.value b) (of-byte w.stage b)

  of-stop : length (line_of (on_stop w s).told) ≤ 4
  unfolding on_stop
  of-stop = go (is_waiting w.stage)
    where
      go : (t : Bool) → length (line_of (cond t (anew w s stages.Waiting None) (anew w s stages.Outside (Some 257))).told) ≤ 4
      go true = none
      go false = short 257 (omega arith)

  of-signal : (g : Signal) → length (line_of (on_signal w s g).told) ≤ 4
  unfolding on_signal
  of-signal Quiet = none
  of-signal Start = short 256 (omega arith)
  of-signal Stop = of-stop
  of-signal (Bit b) = of-bit b
  of-signal Unclear = none

  sample-bound : length (lines_of event_line (events_at w s)) ≤ 4
  unfolding line_of sample_of
  sample-bound = of-signal (signal_of w.last s)

-- ---- all samples of a part

lines-bound : (w : Wires) → InRanges w → (ss : List ℕ) → Samples ss → length (event_lines w ss) ≤ 4 * length ss
unfolding events_of
lines-bound w r [] h = omega arith
lines-bound w r (s ∷ ss) h =
    rw (lines-append event_line (events_at w s) (events_of (after_sample w s) ss))
    (omega (
      arith,
      length-append (lines_of event_line (events_at w s)) (event_lines (after_sample w s) ss),
      sample-bound w r s,
      lines-bound (after_sample w s) (sample-in-ranges w r s (h 0 (omega arith))) ss (λ i inside. h (suc i) (omega (arith, inside))),
    ))

first-bound : (r : Reading) → r.pins < 256 → length (first_line r) ≤ 9
first-bound r h = go r.begun
  where
    go : (t : Bool) → length (cond t [] (pins_line r.pins)) ≤ 9
    go true = omega arith
    go false = omega (arith, length-append (decimal_of r.pins) (10 ∷ []), decimal-bound 2 r.pins (omega arith))

last-bound : (good : Bool) (place : ℕ) → place ≤ top → length (last_line good place) ≤ 32
last-bound true place h = omega arith
last-bound false place h = omega (arith, length-append (decimal_of place) (10 ∷ []), decimal-bound 19 place (omega arith))

-- with the `pins` line, and the line that says which byte is no sample
pub part-bound : (r : Reading) → InRanges r.wires → r.pins < 256 → (bs : List ℕ) → length (part_text r bs) ≤ 4 * length bs + 41
unfolding part_text
part-bound r ranges pins bs = go (is_over r)
  where
    events : List ℕ
    events = event_lines r.wires (samples_in bs)

    last : List ℕ
    last = last_line (are_samples bs) (samples_after r bs)

    go : (t : Bool) → length (cond t [] (first_line r ++ (events ++ last))) ≤ 4 * length bs + 41
    go true = omega arith
    go false =
        omega (
          arith,
          length-append (first_line r) (events ++ last),
          length-append events last,
          first-bound r pins,
          lines-bound r.wires ranges (samples_in bs) (samples (samples_in bs) (are-samples-in bs)),
          last-bound (are_samples bs) (samples_after r bs) (after-bound r.samples (length (samples_in bs))),
          no_more bs,
        )
