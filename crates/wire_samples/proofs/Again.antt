-- A sample is kept as the last one, and seeing it again does nothing.
use mathlib.Core.Bool.{Bool, true, false, cond}
use mathlib.Core.Path.{◌≡◌, refl, ap}
use Prim.Native.Nat.{ℕ}
use lib.Dec.{ltb}
use Rattle.wire_samples.specs.declared.Stage.TheVariants.{Outside, Waiting}
use Rattle.wire_samples.specs.declared.Wires.{Wires}
use Rattle.wire_samples.specs.declared.signal.Signal.{Signal}
use Rattle.wire_samples.specs.declared.signal.Signal.TheVariants.{Quiet, Start, Stop, Bit, Unclear}
use Rattle.std.proofs.Common.{None, Some}
use Rattle.wire_samples.specs.Signal.{scl_of, sda_of, on_lines, signal_of}
use Rattle.wire_samples.specs.Sample.{sampled, quiet, anew, is_waiting, on_stop, in_message, one_bit_more, byte_done, on_bit, on_signal, sample_of}

same_lines : (c d : Bool) → on_lines c d c d ≡ Quiet
same_lines true true = refl
same_lines true false = refl
same_lines false true = refl
same_lines false false = refl

-- nothing is told, and nothing changes
pub seen-again : (w : Wires) → sample_of w w.last ≡ sampled w None
unfolding sample_of on_signal signal_of
seen-again w = ap (λ (g : Signal). on_signal w w.last g) (same_lines (scl_of w.last) (sda_of w.last))

-- a sample is kept as the last one
pub last-sample : (w : Wires) (s : ℕ) → (sample_of w s).wires.last ≡ s
unfolding sample_of on_signal on_stop on_bit
last-sample w s = go (signal_of w.last s)
  where
    stop-last : (t : Bool) → (cond t (anew w s Waiting None) (anew w s Outside (Some 257))).wires.last ≡ s
    stop-last true = refl
    stop-last false = refl

    bit-last : (b t u : Bool) → (cond t (cond u (one_bit_more w s b) (byte_done w s b)) (quiet w s)).wires.last ≡ s
    bit-last b true true = refl
    bit-last b true false = refl
    bit-last b false u = refl

    go : (g : Signal) → (on_signal w s g).wires.last ≡ s
    go Quiet = refl
    go Start = refl
    go Stop = stop-last (is_waiting w.stage)
    go (Bit b) = bit-last b (in_message w.stage) (ltb w.bits 8)
    go Unclear = refl
