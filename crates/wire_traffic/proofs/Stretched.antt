-- Samples that are seen again: they tell the same, and clean ones stay clean.
use mathlib.Core.Bool.{Bool, true, false}
use mathlib.Core.List.{List, [], ◌∷◌, ◌++◌, append-nil}
use mathlib.Core.Path.{◌≡◌, refl, ◌∙◌}
use Prim.Native.Nat.{ℕ, zero, suc}
use lib.Dec.{leb}
use lib.ListN.{replicate}
use Rattle.text.proofs.Numbers.{and_both}
use Rattle.wire_samples.specs.declared.Wires.{Wires}
use Rattle.wire_samples.specs.Signal.{scl_of, changes}
use Rattle.wire_samples.specs.Feed.{after_sample, events_at, after_all, events_of}
use Rattle.wire_samples.proofs.Again.{last-sample}
use Rattle.wire_traffic.specs.Traffic.{is_clean, are_clean, stretched}
use Rattle.wire_traffic.proofs.OneSample.{again}
use Rattle.wire_traffic.proofs.Runs.{Tell, tell-on}

-- ---- what they tell

again-and-again : (n : ℕ) (w : Wires) → Tell w (replicate n w.last) [] w
unfolding after_all events_of
again-and-again zero w = record { events = refl; after = refl }
again-and-again (suc n) w = tell-on (again w) (again-and-again n w)

one-sample : (w : Wires) (s : ℕ) → Tell w (s ∷ []) (events_at w s) (after_sample w s)
unfolding after_all events_of
one-sample w s = record { events = append-nil (events_at w s); after = refl }

pub stretched-tells : (ns ss : List ℕ) (w : Wires) → Tell w (stretched w.last ns ss) (events_of w ss) (after_all w ss)
unfolding after_all events_of stretched
stretched-tells [] ss w = record { events = refl; after = refl }
stretched-tells (n ∷ ns) [] w = again-and-again n w
stretched-tells (n ∷ ns) (s ∷ ss) w =
    let rest = rw (last-sample w s) at (stretched-tells ns ss (after_sample w s)) in
    tell-on (again-and-again n w) (tell-on (one-sample w s) rest)

-- ---- clean ones

unchanged : (line : Bool) → changes line line ≡ false
unchanged true = refl
unchanged false = refl

again-clean : (n : ℕ) (s : ℕ) (ss : List ℕ) → leb s 3 ≡ true → are_clean s (replicate n s ++ ss) ≡ are_clean s ss
unfolding are_clean
again-clean zero s ss t = refl
again-clean (suc n) s ss t = rw (t, unchanged (scl_of s)) (again-clean n s ss t)

pub stretched-clean :
    (ns ss : List ℕ) (before : ℕ) → leb before 3 ≡ true → are_clean before ss ≡ true → are_clean before (stretched before ns ss) ≡ true
unfolding are_clean stretched
stretched-clean [] ss before t h = h
stretched-clean (n ∷ ns) [] before t h = rw (← append-nil (replicate n before)) (again-clean n before [] t)
stretched-clean (n ∷ ns) (s ∷ ss) before t h =
    let both = and_both (is_clean before s) (are_clean s ss) h in
    let rest = stretched-clean ns ss s (and_both (leb s 3) _ both.0).0 both.1 in
    again-clean n before (s ∷ stretched s ns ss) t ∙ rw both.0 rest
