-- Clean wires: what carries traffic is clean, and of clean samples none is counted as unclear.
use mathlib.Core.Bool.{Bool, true, false}
use mathlib.Core.List.{List, [], ◌∷◌, ◌++◌, append_assoc}
use mathlib.Core.Path.{◌≡◌, refl, ap, ◌∙◌}
use Prim.Native.Nat.{ℕ}
use lib.Dec.{leb}
use Rattle.text.proofs.Numbers.{and_both}
use Rattle.wire_samples.specs.declared.Wires.{Wires}
use Rattle.wire_samples.specs.Feed.{after_sample, after_all, are_samples}
use Rattle.wire_samples.proofs.Again.{last-sample}
use Rattle.wire_traffic.specs.Traffic.{Carried, start, stop, byte, Lines, idle, held, low, level_of, bit_samples, bits_samples}
use Rattle.wire_traffic.specs.Traffic.{bits_of, byte_samples, samples_for, lines_after, samples_of, is_clean, are_clean}
use Rattle.wire_traffic.proofs.OneSample.{none-counted}

-- ---- what carries traffic

-- samples after a bit, after a byte, after anything carried: clean where they are from the lines that it leaves
bit-clean : (d b : Bool) (ss : List ℕ) → are_clean (low d) (bit_samples b ++ ss) ≡ are_clean (low b) ss
unfolding are_clean
bit-clean true true ss = refl
bit-clean true false ss = refl
bit-clean false true ss = refl
bit-clean false false ss = refl

bits-clean : (bs : List Bool) (d b : Bool) (ss : List ℕ) → are_clean (low d) (bits_samples bs ++ (bit_samples b ++ ss)) ≡ are_clean (low b) ss
unfolding bits_samples
bits-clean [] d b ss = bit-clean d b ss
bits-clean (x ∷ bs) d b ss = bit-clean d x (bits_samples bs ++ (bit_samples b ++ ss)) ∙ bits-clean bs x b ss

byte-clean : (v : ℕ) (d b : Bool) (ss : List ℕ) → are_clean (low d) (byte_samples v b ++ ss) ≡ are_clean (low b) ss
byte-clean v d b ss = ap (are_clean (low d)) (append_assoc (bits_samples (bits_of v)) (bit_samples b) ss) ∙ bits-clean (bits_of v) d b ss

one-clean : (l : Lines) (c : Carried) (ss : List ℕ) → are_clean (level_of l) (samples_for l c ++ ss) ≡ are_clean (level_of (lines_after c)) ss
unfolding samples_for are_clean
one-clean idle start ss = refl
one-clean idle stop ss = refl
one-clean idle (byte v b) ss = byte-clean v true b ss
one-clean (held true) start ss = refl
one-clean (held false) start ss = refl
one-clean (held true) stop ss = refl
one-clean (held false) stop ss = refl
one-clean (held d) (byte v b) ss = byte-clean v d b ss

pub traffic-clean : (l : Lines) (cs : List Carried) → are_clean (level_of l) (samples_of l cs) ≡ true
unfolding samples_of are_clean
traffic-clean l [] = refl
traffic-clean l (c ∷ cs) = one-clean l c (samples_of (lines_after c) cs) ∙ traffic-clean (lines_after c) cs

-- ---- clean samples

pub clean-samples : (before : ℕ) (ss : List ℕ) → are_clean before ss ≡ true → are_samples ss ≡ true
unfolding are_clean are_samples
clean-samples before [] t = refl
clean-samples before (s ∷ ss) t =
    let both = and_both (is_clean before s) (are_clean s ss) t in
    rw (and_both (leb s 3) _ both.0).0 (clean-samples s ss both.1)

pub clean-uncounted : (w : Wires) (ss : List ℕ) → are_clean w.last ss ≡ true → (after_all w ss).unclear ≡ w.unclear
unfolding are_clean after_all
clean-uncounted w [] t = refl
clean-uncounted w (s ∷ ss) t =
    let both = and_both (is_clean w.last s) (are_clean s ss) t in
    clean-uncounted (after_sample w s) ss (rw (last-sample w s) both.1) ∙ none-counted w s (and_both (leb s 3) _ both.0).1
