-- One sample of any wires: they count it only where it is unclear, and seeing it again does nothing.
use mathlib.Core.Bool.{Bool, true, false, cond, not, ◌&&◌}
use mathlib.Core.List.{[], ◌∷◌, ◌++◌}
use mathlib.Core.Path.{◌≡◌, refl, ap}
use Prim.Native.Nat.{ℕ}
use borrow.Author.Tests.{not-true}
use lib.Dec.{ltb}
use Rattle.wire_samples.specs.declared.Stage.TheVariants.{Outside, Waiting}
use Rattle.wire_samples.specs.declared.Wires.{Wires}
use Rattle.wire_samples.specs.declared.sample.Sampled.{Sampled}
use Rattle.wire_samples.specs.declared.signal.Signal.TheVariants.{Quiet, Start, Stop, Bit}
use Rattle.std.specs.Prelude.{None, Some}
use Rattle.wire_samples.specs.Signal.{scl_of, sda_of, rises, falls, changes, on_lines, both_change, signal_of}
use Rattle.wire_samples.specs.Sample.{quiet, anew, is_waiting, on_stop, in_message, one_bit_more, byte_done, on_bit, on_signal, sample_of, told_by}
use Rattle.wire_samples.specs.Feed.{after_sample, after_all, events_of}
use Rattle.wire_samples.proofs.Again.{seen-again}
use Rattle.wire_traffic.proofs.Runs.{Tell}

-- ---- what every signal leaves

module _ (w : Wires) (s : ℕ) where
  -- the sample is kept, and no unclear one is counted
  record Kept (w' : Wires) : Type 0 where
    last : w'.last ≡ s
    unclear : w'.unclear ≡ w.unclear

  stop-kept : Kept (on_stop w s).wires
  unfolding on_stop
  stop-kept = go (is_waiting w.stage)
    where
      go : (t : Bool) → Kept (cond t (anew w s Waiting None) (anew w s Outside (Some 257))).wires
      go true = record { last = refl; unclear = refl }
      go false = record { last = refl; unclear = refl }

  bit_kept : (b : Bool) → Kept (on_bit w s b).wires
  unfolding on_bit
  bit_kept b = go (in_message w.stage) (ltb w.bits 8)
    where
      go : (t u : Bool) → Kept (cond t (cond u (one_bit_more w s b) (byte_done w s b)) (quiet w s)).wires
      go false u = record { last = refl; unclear = refl }
      go true false = record { last = refl; unclear = refl }
      go true true = record { last = refl; unclear = refl }

  -- where one line at most changed
  module _ (c₀ d₀ c d : Bool) where
    clear_kept : changes c₀ c && changes d₀ d ≡ false → Kept (on_signal w s (on_lines c₀ d₀ c d)).wires
    unfolding on_signal
    clear_kept e = rw e (go (rises c₀ c) ((c₀ && c) && falls d₀ d) ((c₀ && c) && rises d₀ d))
      where
        go : (t u v : Bool) → Kept (on_signal w s (cond t (Bit d) (cond u Start (cond v Stop Quiet)))).wires
        go true u v = bit_kept d
        go false true v = record { last = refl; unclear = refl }
        go false false true = stop-kept
        go false false false = record { last = refl; unclear = refl }

  pub none-counted : not (both_change w.last s) ≡ true → (after_sample w s).unclear ≡ w.unclear
  unfolding sample_of signal_of
  none-counted e = (clear_kept (scl_of w.last) (sda_of w.last) (scl_of s) (sda_of s) (not-true _ e)).unclear

-- ---- the same sample again

pub again : (w : Wires) → Tell w (w.last ∷ []) [] w
unfolding after_all events_of
again w =
    record {
      events = ap (λ (r : Sampled). told_by r.told ++ []) (seen-again w);
      after = ap (λ (r : Sampled). r.wires) (seen-again w);
    }
