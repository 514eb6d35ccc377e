-- The count of unclear samples: those where both lines changed, and no others, up to the largest number.
use mathlib.Core.Bool.{Bool, true, false, cond}
use mathlib.Core.List.{List, [], ◌∷◌}
use mathlib.Core.Path.{◌≡◌, refl, sym, ap, subst, ◌∙◌}
use Prim.Native.Nat.{ℕ, ◌+◌, ◌≤◌}
use native.Mathlib.Nat.{add-zero, zero-add}
use native.Mathlib.Omega.{arith}
use borrow.Author.Tests.{eqb-true, eqb-false, le-leb, leb-true}
use lib.Dec.{T, eqb, leb}
use Rattle.wire_samples.specs.declared.Stage.TheVariants.{Waiting}
use Rattle.wire_samples.specs.declared.Wires.{Wires}
use Rattle.wire_samples.specs.declared.signal.Signal.TheVariants.{Unclear}
use Rattle.wire_samples.specs.Signal.{scl_of, sda_of, on_one_line, both_change, signal_of}
use Rattle.wire_samples.specs.declared.sample.Sampled.{Sampled}
use Rattle.wire_samples.specs.Sample.{counted_up, on_unclear, on_signal, sample_of, told_by}
use Rattle.wire_samples.specs.Feed.{after_sample, events_at, after_all, events_of}
use Rattle.wire_samples.proofs.Again.{last-sample}
use Rattle.wire_traffic.specs.Traffic.{can_be_told}
use Rattle.wire_traffic.specs.Unclear.{how_many_unclear, most, at_most}
use Rattle.wire_traffic.proofs.OneSample.{none-counted}
use Rattle.wire_traffic.proofs.Told.{told-can}

one_on : (u n : ℕ) → u + 1 + n ≡ u + (1 + n)
one_on u n = omega arith

over : (n : ℕ) → most ≤ n → at_most n ≡ most
over n h = go (leb n most) refl
  where
    go : (t : Bool) → leb n most ≡ t → cond t n most ≡ most
    go true e = omega (arith, h, leb-true n most e)
    go false e = refl

-- the wires after an unclear sample, whatever they were
becomes-waiting : (w : Wires) (s : ℕ) → both_change w.last s ≡ true → sample_of w s ≡ on_unclear w s
unfolding sample_of on_signal signal_of
becomes-waiting w s e = go (both_change w.last s) e
  where
    go : (t : Bool) → t ≡ true → on_signal w s (cond t Unclear (on_one_line (scl_of w.last) (sda_of w.last) (scl_of s) (sda_of s))) ≡ on_unclear w s
    go true e = refl
    go false e = absurd (subst T (sym e) tt)

one-counted : (w : Wires) (s : ℕ) → both_change w.last s ≡ true → (after_sample w s).unclear ≡ counted_up w.unclear
one-counted w s e = ap (λ (x : Sampled). x.wires.unclear) (becomes-waiting w s e)

pub waits-for-start :
    (w : Wires) (s : ℕ) → both_change w.last s ≡ true
    → (events_at w s ≡ []) × ((ss : List ℕ) → can_be_told Waiting (events_of (after_sample w s) ss) ≡ true)
waits-for-start w s e =
    let is = becomes-waiting w s e in (
      ap (λ (x : Sampled). told_by x.told) is,
      λ ss. ap (λ (x : Sampled). can_be_told Waiting (events_of x.wires ss)) is ∙ told-can (on_unclear w s).wires (omega arith) ss,
    )

-- one more and then n are n more from the next number, which is no further than the largest
next-number : (u n : ℕ) → u ≤ most → (counted_up u ≤ most) × (at_most (counted_up u + n) ≡ at_most (u + (1 + n)))
next-number u n h = go (eqb u most) refl
  where
    go : (t : Bool) → eqb u most ≡ t → (cond t u (u + 1) ≤ most) × (at_most (cond t u (u + 1) + n) ≡ at_most (u + (1 + n)))
    go true e = let top = eqb-true u most e in (h, over (u + n) (omega (arith, top)) ∙ sym (over (u + (1 + n)) (omega (arith, top))))
    go false e = let below = eqb-false u most e in (omega (arith, h, below), ap at_most (one_on u n))

pub unclear-counted : (w : Wires) (ss : List ℕ) → w.unclear ≤ most → (after_all w ss).unclear ≡ at_most (w.unclear + how_many_unclear w.last ss)
unfolding after_all how_many_unclear
unclear-counted w [] h = rw (add-zero w.unclear, le-leb w.unclear most h) refl
unclear-counted w (s ∷ ss) h = go (both_change w.last s) refl (unclear-counted (after_sample w s) ss)
  where
    go :
        (t : Bool) → both_change w.last s ≡ t
        → ((after_sample w s).unclear ≤ most → (after_all (after_sample w s) ss).unclear ≡ at_most ((after_sample w s).unclear + how_many_unclear (after_sample w s).last ss))
        → (after_all (after_sample w s) ss).unclear ≡ at_most (w.unclear + (cond t 1 0 + how_many_unclear s ss))
    go true e ih =
        let up = one-counted w s e in
        let next = next-number w.unclear (how_many_unclear s ss) h in
        ih (rw up next.0) ∙ rw (up, last-sample w s) next.1
    go false e ih =
        let same = none-counted w s (rw e refl) in
        ih (rw same h) ∙ rw (same, last-sample w s, zero-add (how_many_unclear s ss)) refl
