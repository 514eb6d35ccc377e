-- The ranges are kept: by the start, by every sample, and so by every call.
use mathlib.Core.Bool.{Bool, true, false, cond}
use mathlib.Core.List.{List, [], ◌∷◌}
use mathlib.Core.Path.{◌≡◌, refl}
use Prim.Native.Nat.{ℕ, zero, suc, ◌≤◌}
use native.Mathlib.Omega.{arith}
use borrow.Author.Tests.{ltb-true}
use lib.Dec.{ltb}
use lib.ListN.{take}
use Rattle.wire_samples.specs.declared.Stage.{Stage}
use Rattle.wire_samples.specs.declared.Stage.TheVariants.{Outside, Waiting, First}
use Rattle.wire_samples.specs.declared.Wires.{Wires}
use Rattle.wire_samples.specs.declared.signal.Signal.{Signal}
use Rattle.wire_samples.specs.declared.signal.Signal.TheVariants.{Quiet, Start, Stop, Bit, Unclear}
use Rattle.std.specs.Prelude.{Option, None, Some}
use Rattle.wire_samples.specs.Signal.{signal_of}
use Rattle.wire_samples.specs.Sample.{at_start, quiet, anew, is_waiting, on_stop, in_message, with_bit, one_bit_more, stage_after, event_of, byte_done, on_bit, on_signal, sample_of}
use Rattle.wire_samples.specs.Feed.{after_sample, after_all, unless_refused, refusal_of, fitting, as_much_as_fits, feed_of}
use Rattle.wire_traffic.proofs.Rooms.{unrefused}
use Rattle.wire_traffic.specs.When.{InRanges, Samples}

pub start-in-ranges : InRanges at_start
start-in-ranges = record { last = omega arith; bits = omega arith; value = omega arith }

pub with-bit-in-range : (v : ℕ) (b : Bool) → with_bit v b ≤ 255
with-bit-in-range v true = omega arith
with-bit-in-range v false = omega arith

module _ (w : Wires) (r : InRanges w) (s : ℕ) (h : s ≤ 3) where
  at_stage : (st : Stage) (t : Option ℕ) → InRanges (anew w s st t).wires
  at_stage st t = record { last = h; bits = omega arith; value = omega arith }

  kept : InRanges (quiet w s).wires
  kept = record { last = h; bits = r.bits; value = r.value }

  on-bit : (b : Bool) → InRanges (on_bit w s b).wires
  unfolding on_bit
  on-bit b = go (in_message w.stage) (ltb w.bits 8) refl
    where
      go : (t u : Bool) → ltb w.bits 8 ≡ u → InRanges (cond t (cond u (one_bit_more w s b) (byte_done w s b)) (quiet w s)).wires
      go false u e = kept
      go true false e = at_stage (stage_after w.stage w.value) (Some (event_of w.stage w.value b))
      go true true e =
          record { last = h; bits = omega (arith, ltb-true w.bits 8 e); value = with-bit-in-range w.value b }

  on-stop : InRanges (on_stop w s).wires
  unfolding on_stop
  on-stop = go (is_waiting w.stage)
    where
      go : (t : Bool) → InRanges (cond t (anew w s Waiting None) (anew w s Outside (Some 257))).wires
      go true = at_stage Waiting None
      go false = at_stage Outside (Some 257)

  on-signal : (g : Signal) → InRanges (on_signal w s g).wires
  unfolding on_signal
  on-signal Quiet = kept
  on-signal Start = at_stage First (Some 256)
  on-signal Stop = on-stop
  on-signal (Bit b) = on-bit b
  on-signal Unclear =
      record { last = h; bits = omega arith; value = omega arith }

  pub sample-in-ranges : InRanges (after_sample w s)
  unfolding sample_of
  sample-in-ranges = on-signal (signal_of w.last s)

pub all-in-ranges : (w : Wires) → InRanges w → (ss : List ℕ) → Samples ss → InRanges (after_all w ss)
unfolding after_all
all-in-ranges w r [] h = r
all-in-ranges w r (s ∷ ss) h =
    all-in-ranges (after_sample w s) (sample-in-ranges w r s (h 0 (omega arith))) ss (λ i inside. h (suc i) (omega (arith, inside)))

pub samples-front : (k : ℕ) (ss : List ℕ) → Samples ss → Samples (take k ss)
samples-front zero ss h i inside = absurd (omega (arith, inside))
samples-front (suc k) [] h i inside = absurd (omega (arith, inside))
samples-front (suc k) (s ∷ ss) h zero inside = h 0 (omega arith)
samples-front (suc k) (s ∷ ss) h (suc i) inside =
    samples-front k ss (λ j q. h (suc j) (omega (arith, q))) i (omega (arith, inside))

-- every state that a call hands back, refused or not
pub call-in-ranges : (room : ℕ) (w : Wires) → InRanges w → (ss : List ℕ) → InRanges (feed_of room w ss).wires
unfolding feed_of
call-in-ranges room w r ss = go (refusal_of w ss) refl
  where
    go : (k : ℕ) → refusal_of w ss ≡ k → InRanges (unless_refused k w (as_much_as_fits room w ss)).wires
    go zero e = all-in-ranges w r (take (fitting room w ss) ss) (samples-front (fitting room w ss) ss (unrefused w ss e).1)
    go (suc k) e = r
