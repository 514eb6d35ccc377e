-- As many events as there is room for: which samples are consumed, and what each refusal says.
use mathlib.Core.Bool.{Bool, true, false, cond, ◌&&◌}
use mathlib.Core.List.{List, [], ◌∷◌, ◌++◌}
use mathlib.Core.Logic.{◌↔◌}
use mathlib.Core.Path.{◌≡◌, refl, sym, ap, subst, ◌∙◌}
use Prim.Native.Nat.{ℕ, zero, suc, ◌-◌, ◌≤◌, ◌<◌}
use native.Mathlib.Nat.{sub-zero}
use native.Mathlib.Omega.{arith}
use borrow.Author.Tests.{lt-ltb, le-leb, leb-true, leb-false, eq-eqb, ne_eqb}
use lib.Dec.{T, leb}
use lib.ListN.{length, take, get_or, length-append}
use lib.Seq.{take-length}
use Rattle.text.proofs.Numbers.{and_both}
use Rattle.wire_samples.specs.declared.Wires.{Wires}
use Rattle.std.specs.Prelude.{Option, None, Some}
use Rattle.wire_samples.specs.Sample.{sample_of, told_by}
use Rattle.wire_samples.specs.Feed.{after_sample, events_at, after_all, events_of, fits, fitting, is_allowed, are_samples, refusal_of, consuming, as_much_as_fits, unless_refused, Feed, feed_of}
use Rattle.wire_traffic.specs.When.{Allowed, Samples, Above, need, When}
use Rattle.wire_traffic.specs.When.When.{state, sample, short, none}

-- ---- how many events

told-bound : (t : Option ℕ) → length (told_by t) ≤ 1
told-bound None = omega arith
told-bound (Some e) = omega arith

-- a sample tells one at most, so that a buffer as long as the samples is never too short
pub one_each : (w : Wires) (ss : List ℕ) → need w ss ≤ length ss
unfolding events_of
one_each w [] = omega arith
one_each w (s ∷ ss) =
    omega (
      arith,
      length-append (events_at w s) (events_of (after_sample w s) ss),
      told-bound (sample_of w s).told,
      one_each (after_sample w s) ss,
    )

-- ---- how many samples

pub all_fit : (room : ℕ) (w : Wires) (ss : List ℕ) → need w ss ≤ room → fitting room w ss ≡ length ss
unfolding fitting events_of
all_fit room w [] h = refl
all_fit room w (s ∷ ss) h = go (sample_of w s).told h (λ k. all_fit k (after_sample w s) ss)
  where
    go :
        (t : Option ℕ) → length (told_by t ++ events_of (after_sample w s) ss) ≤ room
        → ((k : ℕ) → need (after_sample w s) ss ≤ k → fitting k (after_sample w s) ss ≡ length ss)
        → cond (fits t room) (suc (fitting (room - length (told_by t)) (after_sample w s) ss)) 0 ≡ suc (length ss)
    go None h ih = rw (sub-zero room) (ap suc (ih room h))
    go (Some e) h ih = rw (lt-ltb 0 room (omega (arith, h))) (ap suc (ih (room - 1) (omega (arith, h))))

pub fit-within : (room : ℕ) (w : Wires) (ss : List ℕ) → fitting room w ss ≤ length ss
unfolding fitting
fit-within room w [] = omega arith
fit-within room w (s ∷ ss) =
    go (fits (sample_of w s).told room) (fit-within (room - length (events_at w s)) (after_sample w s) ss)
  where
    go : (t : Bool) {n : ℕ} → n ≤ length ss → cond t (suc n) 0 ≤ suc (length ss)
    go true h = omega (arith, h)
    go false h = omega arith

-- where they do not all fit: the buffer is full, and the next sample tells an event
pub record Full (room : ℕ) (w : Wires) (ss : List ℕ) (k : ℕ) : Type 0 where
  pub inside : k < length ss
  pub full : need w (take k ss) ≡ room
  pub next : length (events_at (after_all w (take k ss)) (get_or ss k 0)) ≡ 1

pub some_fit : (room : ℕ) (w : Wires) (ss : List ℕ) → room < need w ss → Full room w ss (fitting room w ss)
unfolding fitting events_of after_all
some_fit room w [] h = absurd (omega (arith, h))
some_fit room w (s ∷ ss) h = go room (sample_of w s).told refl h (λ k. some_fit k (after_sample w s) ss)
  where
    go :
        (r : ℕ) (t : Option ℕ) → (sample_of w s).told ≡ t → r < length (told_by t ++ events_of (after_sample w s) ss)
        → ((k : ℕ) → k < need (after_sample w s) ss → Full k (after_sample w s) ss (fitting k (after_sample w s) ss))
        → Full r w (s ∷ ss) (cond (fits t r) (suc (fitting (r - length (told_by t)) (after_sample w s) ss)) 0)
    go r None e h ih =
        let rest = ih r h in
        rw (sub-zero r) (record { inside = omega (arith, rest.inside); full = rw e rest.full; next = rest.next })
    go zero (Some x) e h ih = record { inside = omega arith; full = refl; next = rw e refl }
    go (suc r) (Some x) e h ih =
        let rest = ih r (omega (arith, h)) in
        let less : suc r - 1 ≡ r = omega arith in
        rw (lt-ltb 0 (suc r) (omega arith), less)
        (record { inside = omega (arith, rest.inside); full = rw e (ap suc rest.full); next = rest.next })

-- so that no more is told than there is room for
pub within-room : (room : ℕ) (w : Wires) (ss : List ℕ) → need w (take (fitting room w ss) ss) ≤ room
within-room room w ss = go (leb (need w ss) room) refl
  where
    go : (t : Bool) → leb (need w ss) room ≡ t → need w (take (fitting room w ss) ss) ≤ room
    go true h = let fit = leb-true (need w ss) room h in rw (all_fit room w ss fit, take-length ss) fit
    go false h = omega (arith, (some_fit room w ss (leb-false (need w ss) room h)).full)

-- ---- the tests, in words

pub allowed : (w : Wires) → is_allowed w ≡ true → Allowed w
unfolding is_allowed
allowed w h = let both = and_both (leb w.last 3) (leb w.bits 8) h in record { last = leb-true _ _ both.0; bits = leb-true _ _ both.1 }

pub is-allowed : (w : Wires) → Allowed w → is_allowed w ≡ true
unfolding is_allowed
is-allowed w a = rw (le-leb _ _ a.last, le-leb _ _ a.bits) refl

pub samples : (ss : List ℕ) → are_samples ss ≡ true → Samples ss
unfolding are_samples
samples [] h i inside = absurd (omega (arith, inside))
samples (s ∷ ss) h zero inside = leb-true s 3 (and_both (leb s 3) (are_samples ss) h).0
samples (s ∷ ss) h (suc i) inside = samples ss (and_both (leb s 3) (are_samples ss) h).1 i (omega (arith, inside))

pub are-samples : (ss : List ℕ) → Samples ss → are_samples ss ≡ true
unfolding are_samples
are-samples [] h = refl
are-samples (s ∷ ss) h = rw (le-leb s 3 (h 0 (omega arith))) (are-samples ss (λ i inside. h (suc i) (omega (arith, inside))))

pub above : (ss : List ℕ) → are_samples ss ≡ false → Above ss
unfolding are_samples
above [] h = absurd (subst T h tt)
above (s ∷ ss) h = go (leb s 3) refl h (above ss)
  where
    go : (t : Bool) → leb s 3 ≡ t → t && are_samples ss ≡ false → (are_samples ss ≡ false → Above ss) → Above (s ∷ ss)
    go true e h ih = let there = ih h in record { place = suc there.place; inside = omega (arith, there.inside); above = there.above }
    go false e h ih = record { place = 0; inside = omega arith; above = leb-false s 3 e }

pub not-samples : (ss : List ℕ) → Above ss → are_samples ss ≡ false
not-samples ss a = go (are_samples ss) refl
  where
    go : (t : Bool) → are_samples ss ≡ t → t ≡ false
    go true e = absurd (omega (arith, samples ss e a.place a.inside, a.above))
    go false e = refl

pub unrefused : (w : Wires) (ss : List ℕ) → refusal_of w ss ≡ 0 → Allowed w × Samples ss
unfolding refusal_of
unrefused w ss h = go (is_allowed w) (are_samples ss) refl refl h
  where
    go : (t u : Bool) → is_allowed w ≡ t → are_samples ss ≡ u → ◌≡◌ {A = ℕ} (cond t (cond u 0 14) 2) 0 → Allowed w × Samples ss
    go true true e f h = (allowed w e, samples ss f)
    go true false e f h = absurd (omega (arith, h))
    go false u e f h = absurd (omega (arith, h))

-- ---- the refusals

module _ (room : ℕ) (w : Wires) (ss : List ℕ) where
  -- neither 2 nor 14
  module _ (a : Allowed w) (b : Samples ss) where
    pub taken : feed_of room w ss ≡ as_much_as_fits room w ss
    unfolding feed_of refusal_of
    taken = rw (is-allowed w a, are-samples ss b) refl

    pub with-room : need w ss ≤ room → feed_of room w ss ≡ consuming (length ss) w ss
    with-room h = taken ∙ ap (λ (k : ℕ). consuming k w ss) (all_fit room w ss h)

    answer-0 : need w ss ≤ room → (feed_of room w ss).refusal ≡ 0
    answer-0 h = ap (λ (f : Feed). f.refusal) (with-room h) ∙ rw (eq-eqb (length ss) (length ss) refl) refl

    answer-15 : room < need w ss → (feed_of room w ss).refusal ≡ 15
    answer-15 h =
        ap (λ (f : Feed). f.refusal) taken
        ∙ rw (ne_eqb (fitting room w ss) (length ss) (λ q. omega (arith, q, (some_fit room w ss h).inside))) refl

  answer : (k : ℕ) → When room w ss k → (feed_of room w ss).refusal ≡ k
  unfolding feed_of refusal_of
  answer k (state n) = go (is_allowed w) refl
    where
      go : (t : Bool) → is_allowed w ≡ t → (unless_refused (cond t (cond (are_samples ss) 0 14) 2) w (as_much_as_fits room w ss)).refusal ≡ 2
      go true e = absurd (n (allowed w e))
      go false e = refl
  answer k (sample a b) = rw (is-allowed w a, not-samples ss b) refl
  answer k (short a b h) = answer-15 a b h
  answer k (none a b h) = answer-0 a b h

  -- one of the four holds
  pub record Answered : Type 0 where
    pub number : ℕ
    pub when : When room w ss number

  answered : Answered
  answered = go (is_allowed w) (are_samples ss) (leb (need w ss) room) refl refl refl
    where
      go : (t u v : Bool) → is_allowed w ≡ t → are_samples ss ≡ u → leb (need w ss) room ≡ v → Answered
      go false u v e f g = record { number = 2; when = state (λ a. subst T (sym (is-allowed w a) ∙ e) tt) }
      go true false v e f g = record { number = 14; when = sample (allowed w e) (above ss f) }
      go true true false e f g = record { number = 15; when = short (allowed w e) (samples ss f) (leb-false _ _ g) }
      go true true true e f g = record { number = 0; when = none (allowed w e) (samples ss f) (leb-true _ _ g) }

  pub exactly-when : (k : ℕ) → ((feed_of room w ss).refusal ≡ k) ↔ When room w ss k
  exactly-when k = (λ e. subst (When room w ss) (sym (answer answered.number answered.when) ∙ e) answered.when, answer k)

  -- 15: the buffer is full, and the sample behind those consumed tells an event
  pub full : (feed_of room w ss).refusal ≡ 15 → Full room w ss (feed_of room w ss).consumed
  full e = go ((exactly-when 15).0 e)
    where
      go : When room w ss 15 → Full room w ss (feed_of room w ss).consumed
      go (short a b h) = rw (taken a b) (some_fit room w ss h)

  -- a call that has room for an event consumes a sample at least
  pub some-consumed : (feed_of room w ss).refusal ≡ 15 → 0 < room → 0 < (feed_of room w ss).consumed
  unfolding events_of
  some-consumed e h = go (feed_of room w ss).consumed (full e)
    where
      go : (k : ℕ) → Full room w ss k → 0 < k
      go zero f = absurd (omega (arith, f.full, h))
      go (suc k) f = omega arith

  -- 2 and 14: nothing is consumed, nothing told, and the wires are those that came
  pub nothing-taken :
      (k : ℕ) → refusal_of w ss ≡ suc k → feed_of room w ss ≡ record { wires = w; consumed = 0; events = []; refusal = suc k }
  unfolding feed_of
  nothing-taken k e = rw e refl
