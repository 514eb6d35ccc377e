-- What one sample does to what is kept of the wires, and which bus event it tells, if any (document 02, W7). The numbers of events are document 01's:
-- 0 to 255 a byte, 256 START, 257 STOP, 258 and 259 a byte read, by its acknowledge bit.
use Rattle.std.specs.Prelude.{Bool, true, false, cond, Option, None, Some, List, [], ◌∷◌, ℕ, ◌+◌, ◌*◌, ◌%◌, eqb, ltb}
use Rattle.wire_samples.specs.declared.Stage.{Stage}
use Rattle.wire_samples.specs.declared.Stage.TheVariants.{Outside, Waiting, First, Writing, Reading}
use Rattle.wire_samples.specs.declared.Wires.{Wires}
use Rattle.wire_samples.specs.declared.signal.Signal.{Signal}
use Rattle.wire_samples.specs.declared.signal.Signal.TheVariants.{Quiet, Start, Stop, Bit, Unclear}
use Rattle.wire_samples.specs.declared.sample.Sampled.{Sampled}
use Rattle.wire_samples.specs.Signal.{signal_of}

abbrev pub wires : ℕ → ℕ → Stage → ℕ → ℕ → Wires
wires u l st k v = record { unclear = u; last = l; stage = st; bits = k; value = v }

-- both lines are high before the first sample, and no message is open
abbrev pub at_start : Wires
at_start = wires 0 3 Outside 0 0

abbrev pub sampled : Wires → Option ℕ → Sampled
sampled w t = record { wires = w; told = t }

-- ---- a signal

-- all stays but the sample
abbrev pub quiet : Wires → ℕ → Sampled
quiet w s = sampled (wires w.unclear s w.stage w.bits w.value) None

-- at this stage with no bit taken: bits before are dropped
abbrev pub anew : Wires → ℕ → Stage → Option ℕ → Sampled
anew w s st t = sampled (wires w.unclear s st 0 0) t

-- no further than 2^64 - 1
abbrev pub counted_up : ℕ → ℕ
counted_up n = cond (eqb n 18446744073709551615) n (n + 1)

abbrev pub on_unclear : Wires → ℕ → Sampled
on_unclear w s = sampled (wires (counted_up w.unclear) s Waiting 0 0) None

abbrev pub is_waiting : Stage → Bool
is_waiting Outside = false
is_waiting Waiting = true
is_waiting First = false
is_waiting Writing = false
is_waiting Reading = false

-- told, but not while START is waited for
unfoldable pub on_stop : Wires → ℕ → Sampled
on_stop w s = cond (is_waiting w.stage) (anew w s Waiting None) (anew w s Outside (Some 257))

-- ---- a bit

abbrev pub in_message : Stage → Bool
in_message Outside = false
in_message Waiting = false
in_message First = true
in_message Writing = true
in_message Reading = true

-- the high bit comes first
abbrev pub with_bit : ℕ → Bool → ℕ
with_bit v b = cond b (v % 128 * 2 + 1) (v % 128 * 2)

-- what the low bit of a first byte says of those that follow: 0 they are written, 1 they are read
abbrev pub direction_of : ℕ → Stage
direction_of v = cond (eqb (v % 2) 0) Writing Reading

-- the first byte alone gives the direction
abbrev pub stage_after : Stage → ℕ → Stage
stage_after Outside v = Outside
stage_after Waiting v = Waiting
stage_after First v = direction_of v
stage_after Writing v = Writing
stage_after Reading v = Reading

-- by the ninth bit, which is low where the byte is acknowledged
abbrev pub read_event : Bool → ℕ
read_event b = cond b 259 258

abbrev pub event_of : Stage → ℕ → Bool → ℕ
event_of Outside v b = v
event_of Waiting v b = v
event_of First v b = v
event_of Writing v b = v
event_of Reading v b = read_event b

abbrev pub one_bit_more : Wires → ℕ → Bool → Sampled
one_bit_more w s b = sampled (wires w.unclear s w.stage (w.bits + 1) (with_bit w.value b)) None

abbrev pub byte_done : Wires → ℕ → Bool → Sampled
byte_done w s b = anew w s (stage_after w.stage w.value) (Some (event_of w.stage w.value b))

-- eight bits, and the ninth ends the byte
unfoldable pub on_bit : Wires → ℕ → Bool → Sampled
on_bit w s b = cond (in_message w.stage) (cond (ltb w.bits 8) (one_bit_more w s b) (byte_done w s b)) (quiet w s)

-- ---- a sample

unfoldable pub on_signal : Wires → ℕ → Signal → Sampled
on_signal w s Quiet = quiet w s
on_signal w s Start = anew w s First (Some 256)
on_signal w s Stop = on_stop w s
on_signal w s (Bit b) = on_bit w s b
on_signal w s Unclear = on_unclear w s

unfoldable pub sample_of : Wires → ℕ → Sampled
sample_of w s = on_signal w s (signal_of w.last s)

-- the events told, none or one
abbrev pub told_by : Option ℕ → List ℕ
told_by None = []
told_by (Some e) = e ∷ []
