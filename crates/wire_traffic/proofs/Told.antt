-- No samples, clean or not, tell events that clean wires cannot tell.
use mathlib.Core.Bool.{Bool, true, false, cond}
use mathlib.Core.List.{List, [], ◌∷◌, ◌++◌}
use mathlib.Core.Path.{◌≡◌, refl, sym, ap, ◌∙◌, subst}
use Prim.Native.Nat.{ℕ, ◌≤◌}
use native.Mathlib.Omega.{arith}
use borrow.Author.Tests.{le-leb}
use lib.Dec.{T, ltb}
use Rattle.wire_samples.specs.declared.Stage.{Stage}
use Rattle.wire_samples.specs.declared.Stage.TheVariants.{Outside, Waiting, First, Writing, Reading}
use Rattle.wire_samples.specs.declared.Wires.{Wires}
use Rattle.wire_samples.specs.declared.signal.Signal.{Signal}
use Rattle.wire_samples.specs.declared.signal.Signal.TheVariants.{Quiet, Start, Stop, Bit, Unclear}
use Rattle.std.specs.Prelude.{None, Some}
use Rattle.wire_samples.specs.declared.sample.Sampled.{Sampled}
use Rattle.wire_samples.specs.Signal.{signal_of}
use Rattle.wire_samples.specs.Sample.{quiet, anew, is_waiting, on_stop, in_message, stage_after, event_of}
use Rattle.wire_samples.specs.Sample.{one_bit_more, byte_done, on_bit, on_signal, sample_of, told_by}
use Rattle.wire_samples.specs.Feed.{after_sample, events_of}
use Rattle.wire_traffic.specs.Traffic.{stage_on_byte, can_tell, stage_told, can_be_told}
use Rattle.wire_traffic.proofs.Carries.{stage-after}
use Rattle.wire_traffic.proofs.Ranges.{with-bit-in-range}
use Rattle.wire_traffic.proofs.Events.{Next, is-start, is_stop, is-first, is-written, is_read, value-told}

-- ---- the next event

start-can : (st : Stage) → can_tell st 256 ≡ true
start-can Outside = refl
start-can Waiting = refl
start-can First = refl
start-can Writing = refl
start-can Reading = refl

stop-can : (st : Stage) → is_waiting st ≡ false → can_tell st 257 ≡ true
stop-can Outside n = refl
stop-can Waiting n = absurd (subst T n tt)
stop-can First n = refl
stop-can Writing n = refl
stop-can Reading n = refl

can-tell : (st : Stage) (e : ℕ) → Next e st → can_tell st e ≡ true
can-tell st e (is-start q) = rw q (start-can st)
can-tell st e (is_stop n q) = rw q (stop-can st n)
can-tell st e (is-first h) = le-leb e 257 (omega arith)
can-tell st e (is-written h) = le-leb e 257 (omega arith)
can-tell st e (is_read true q) = rw q
can-tell st e (is_read false q) = rw q

-- ---- one sample

-- the wires are at the stage that the events so far give, or wait after an unclear sample
data Stands (st now : Stage) : Type 0 where
  there : now ≡ st → Stands st now
  waits : now ≡ Waiting → Stands st now

record Follows (st : Stage) (w : Wires) : Type 0 where
  stage : Stands st w.stage
  value : w.value ≤ 255

-- what a sample tells can be told, and the wires after it follow
data Goes (st : Stage) (r : Sampled) : Type 0 where
  nothing : r.told ≡ None → Follows st r.wires → Goes st r
  event : (e : ℕ) → r.told ≡ Some e → Next e st → Follows (stage_told st e) r.wires → Goes st r

byte_next :
    (st : Stage) (v : ℕ) (b : Bool) → in_message st ≡ true → v ≤ 255
    → Next (event_of st v b) st × (stage_told st (event_of st v b) ≡ stage_on_byte st v)
byte_next Outside v b m h = absurd (subst T (sym m) tt)
byte_next Waiting v b m h = absurd (subst T (sym m) tt)
byte_next First v b m h = (is-first (omega arith), value-told v (omega arith) First)
byte_next Writing v b m h = (is-written (omega arith), value-told v (omega arith) Writing)
byte_next Reading v true m h = (is_read true refl, refl)
byte_next Reading v false m h = (is_read false refl, refl)

module _ (st : Stage) (w : Wires) (f : Follows st w) (s : ℕ) where
  stop_goes : Goes st (on_stop w s)
  unfolding on_stop
  stop_goes = go (is_waiting w.stage) refl f.stage
    where
      go : (t : Bool) → is_waiting w.stage ≡ t → Stands st w.stage → Goes st (cond t (anew w s Waiting None) (anew w s Outside (Some 257)))
      go true e p = nothing refl (record { stage = waits refl; value = omega arith })
      go false e (there q) = event 257 refl (is_stop (ap is_waiting (sym q) ∙ e) refl) (record { stage = there refl; value = omega arith })
      go false e (waits q) = absurd (subst T (ap is_waiting (sym q) ∙ e) tt)

  done-goes : (b : Bool) → in_message w.stage ≡ true → Stands st w.stage → Goes st (byte_done w s b)
  done-goes b m (there q) =
      let next = byte_next st w.value b (ap in_message (sym q) ∙ m) f.value in
      event
      (event_of st w.value b)
      (ap (λ (x : Stage). Some (event_of x w.value b)) q)
      next.0
      (record { stage = there (ap (λ (x : Stage). stage_after x w.value) q ∙ stage-after st w.value ∙ sym next.1); value = omega arith })
  done-goes b m (waits q) = absurd (subst T (sym (ap in_message (sym q) ∙ m)) tt)

  bit-goes : (b : Bool) → Goes st (on_bit w s b)
  unfolding on_bit
  bit-goes b = go (in_message w.stage) (ltb w.bits 8) refl
    where
      go : (t u : Bool) → in_message w.stage ≡ t → Goes st (cond t (cond u (one_bit_more w s b) (byte_done w s b)) (quiet w s))
      go false u m = nothing refl (record { stage = f.stage; value = f.value })
      go true true m = nothing refl (record { stage = f.stage; value = with-bit-in-range w.value b })
      go true false m = done-goes b m f.stage

  sample-goes : Goes st (sample_of w s)
  unfolding sample_of on_signal
  sample-goes = go (signal_of w.last s)
    where
      go : (g : Signal) → Goes st (on_signal w s g)
      go Quiet = nothing refl (record { stage = f.stage; value = f.value })
      go Start = event 256 refl (is-start refl) (record { stage = there refl; value = omega arith })
      go Stop = stop_goes
      go (Bit b) = bit-goes b
      go Unclear = nothing refl (record { stage = waits refl; value = omega arith })

-- ---- all of them

all-can : (st : Stage) (w : Wires) → Follows st w → (ss : List ℕ) → can_be_told st (events_of w ss) ≡ true
unfolding can_be_told events_of
all-can st w f [] = refl
all-can st w f (s ∷ ss) = go (sample-goes st w f s) (λ x g. all-can x (after_sample w s) g ss)
  where
    go :
        Goes st (sample_of w s) → ((x : Stage) → Follows x (after_sample w s) → can_be_told x (events_of (after_sample w s) ss) ≡ true)
        → can_be_told st (told_by (sample_of w s).told ++ events_of (after_sample w s) ss) ≡ true
    go (nothing q g) rest = rw q (rest st g)
    go (event e q n g) rest = rw (q, can-tell st e n) (rest (stage_told st e) g)

pub told-can : (w : Wires) → w.value ≤ 255 → (ss : List ℕ) → can_be_told w.stage (events_of w ss) ≡ true
told-can w h ss = all-can w.stage w (record { stage = there refl; value = h }) ss
