-- The loop of a run, over plain variables: n events are done, which left state s, and what is left comes to the whole run.
use mathlib.Core.Bool.{Bool, true, false, cond, not}
use mathlib.Core.List.{List, ◌++◌}
use mathlib.Core.Path.{◌≡◌, refl, sym, ap, ◌∙◌, subst}
use Prim.Native.Nat.{ℕ, zero, suc, ◌+◌, ◌-◌, ◌^◌, ◌<◌, ◌≤◌, zero-le}
use native.Mathlib.Omega.{arith}
use borrow.Author.Tests.{ltb-true, lt-ltb, le-ltb, eq-eqb}
use lib.Dec.{eqb, ltb}
use lib.ListN.{length, get_or, drop, take, take-append-drop}
use lib.Seq.{drop-length, drop-drop, drop-append-le}
use Rattle.registers.specs.declared.Chip.{Chip}
use Rattle.registers.specs.Refusals.{refuse, ◌then◌, is_listed_event}
use Rattle.registers.specs.State.{State, state}
use Rattle.commands.specs.declared.answer.CommandAnswer.{CommandAnswer}
use Rattle.commands.specs.declared.answer.CommandAnswer.TheVariants.{Unknown, OutOfRange}
use Rattle.display_bytes.specs.Stretch.{room_for}
use Rattle.engine.specs.Event.{counts_as}
use Rattle.engine.specs.PastEntry.{refusal_past_entry, run_past_entry, tally_past_entry}
use Rattle.engine.specs.Run.{outcome, unless_stopped, count_unless}
use Rattle.engine.specs.Step.{accepted, counted, event_refusal}
use Rattle.engine.proofs.Displays.{GoesOn, drop-next}
use Rattle.engine.proofs.Tallies.{counted-once}

-- k of the n events were answered by b: no more than there were, and with those that are left that is the total
pub record Tallied (b : CommandAnswer) (total : ℕ) (es : List ℕ) (n : ℕ) (s : State) (k : ℕ) : Type 0 where
  pub at_most : k ≤ n
  pub in_all : k + tally_past_entry b (drop n es) s ≡ total

-- 3 and 4 come before 16
event-refused : (e : ℕ) (s : State) (k : ℕ) → event_refusal e s.count ≡ suc k → refusal_past_entry e s ≡ suc k
unfolding refusal_past_entry
event-refused e s k h = rw h

-- a full count is refused, if nothing else is
full-refused : (e count : ℕ) → eqb count (2 ^ 64 - 1) ≡ true → event_refusal e count ≡ 0 → ⊥
unfolding event_refusal
full-refused e count full = rw full (go (is_listed_event e))
  where
    go : (t : Bool) → refuse (not t) 3 then refuse true 4 ≡ 0 → ⊥
    go true z = omega (arith, z)
    go false z = omega (arith, z)

module _ (es : List ℕ) (s₀ : State) where
  pub record Running (n : ℕ) (s : State) (u o : ℕ) : Type 0 where
    pub so_far : run_past_entry n (drop n es) s ≡ run_past_entry 0 es s₀
    pub unknown : Tallied Unknown (tally_past_entry Unknown es s₀) es n s u
    pub out_of_range : Tallied OutOfRange (tally_past_entry OutOfRange es s₀) es n s o

  -- what the code is to give back
  abbrev pub Ended : ℕ → ℕ → State → ℕ → ℕ → Type 0
  Ended n k s u o =
      (outcome n k s ≡ run_past_entry 0 es s₀) × ((u ≡ tally_past_entry Unknown es s₀) × (o ≡ tally_past_entry OutOfRange es s₀))

  pub begins : (s : State) → s ≡ s₀ → Running 0 s 0 0
  begins s e =
      record {
        so_far = ap (run_past_entry 0 es) e;
        unknown = record { at_most = zero-le; in_all = omega (arith, ap (tally_past_entry Unknown es) e) };
        out_of_range = record { at_most = zero-le; in_all = omega (arith, ap (tally_past_entry OutOfRange es) e) };
      }

  module _ (n : ℕ) (s : State) (u o : ℕ) (loop : Running n s u o) where
    -- the events are over, or the next one is refused
    pub ended : (k : ℕ) → run_past_entry n (drop n es) s ≡ outcome n k s → ((b : CommandAnswer) → tally_past_entry b (drop n es) s ≡ 0) → Ended n k s u o
    ended k r t = (
      sym r ∙ loop.so_far,
      (
        omega (arith, loop.unknown.in_all, t Unknown),
        omega (arith, loop.out_of_range.in_all, t OutOfRange),
      ),
    )

    pub runs-out : n ≡ length es → Ended n 0 s u o
    unfolding run_past_entry tally_past_entry
    runs-out e = ended 0 (rw (e, drop-length)) (λ (b : CommandAnswer). rw (e, drop-length))

    module _ (h : n < length es) where
      run-here :
          run_past_entry n (drop n es) s
          ≡ unless_stopped (refusal_past_entry (get_or es n 0) s) n s (run_past_entry (n + 1) (drop (n + 1) es) (accepted (get_or es n 0) s).state)
      unfolding run_past_entry
      run-here = ap (λ (l : List ℕ). run_past_entry n l s) (drop-next es n h)

      tally-here :
          (b : CommandAnswer) → tally_past_entry b (drop n es) s
          ≡ count_unless (refusal_past_entry (get_or es n 0) s) (counts_as b (accepted (get_or es n 0) s).answer + tally_past_entry b (drop (n + 1) es) (accepted (get_or es n 0) s).state)
      unfolding tally_past_entry
      tally-here b = ap (λ (l : List ℕ). tally_past_entry b l s) (drop-next es n h)

      pub stops : (k : ℕ) → refusal_past_entry (get_or es n 0) s ≡ suc k → Ended n (suc k) s u o
      stops k r = ended (suc k) (run-here ∙ rw r) (λ (b : CommandAnswer). tally-here b ∙ rw r)

      full-stops : (k : ℕ) → event_refusal (get_or es n 0) s.count ≡ k → (k ≡ 0 → ⊥) → Ended n k s u o
      full-stops zero e z = absurd (z refl)
      full-stops (suc k) e z = stops k (event-refused (get_or es n 0) s k e)

      -- one event more
      module _ (s' : State) (none : refusal_past_entry (get_or es n 0) s ≡ 0) (is : s' ≡ (accepted (get_or es n 0) s).state) where
        tallies-on :
            (b : CommandAnswer) (total k k' : ℕ) → Tallied b total es n s k → k' ≡ k + counts_as b (accepted (get_or es n 0) s).answer
            → Tallied b total es (n + 1) s' k'
        tallies-on b total k k' so_far e =
            let once = counted-once b _ (accepted (get_or es n 0) s).answer refl in
            let rest :
            tally_past_entry b (drop n es) s ≡ counts_as b (accepted (get_or es n 0) s).answer + tally_past_entry b (drop (n + 1) es) s' =
            tally-here b ∙ rw (none, is) in
            record { at_most = omega (arith, so_far.at_most, once, e); in_all = omega (arith, so_far.in_all, rest, e) }

        pub goes_on :
            (u' o' : ℕ) → u' ≡ u + counts_as Unknown (accepted (get_or es n 0) s).answer
            → o' ≡ o + counts_as OutOfRange (accepted (get_or es n 0) s).answer → Running (n + 1) s' u' o'
        goes_on u' o' eu eo =
            record {
              so_far = sym (run-here ∙ rw (none, is)) ∙ loop.so_far;
              unknown = tallies-on Unknown _ u u' loop.unknown eu;
              out_of_range = tallies-on OutOfRange _ o o' loop.out_of_range eo;
            }

    -- a stretch: j events, the part of those that are left that was looked at being l
    pub stretches-on :
        (l : List ℕ) (size j : ℕ) (s' : State) → l ≡ take size (drop n es) → j ≤ length l
        → GoesOn n (l ++ drop size (drop n es)) s (n + j) (drop j l ++ drop size (drop n es)) s' → Running (n + j) s' u o
    stretches-on l size j s' part within on =
        record {
          so_far = sym (whole_run ∙ on.run ∙ ap (λ (x : List ℕ). run_past_entry (n + j) x s') left) ∙ loop.so_far;
          unknown = tallies Unknown _ u loop.unknown;
          out_of_range = tallies OutOfRange _ o loop.out_of_range;
        }
      where
        all : l ++ drop size (drop n es) ≡ drop n es
        all = rw part (take-append-drop size (drop n es))

        whole_run : run_past_entry n (drop n es) s ≡ run_past_entry n (l ++ drop size (drop n es)) s
        whole_run = ap (λ (x : List ℕ). run_past_entry n x s) (sym all)

        left : drop j l ++ drop size (drop n es) ≡ drop (n + j) es
        left = sym (drop-append-le j l (drop size (drop n es)) within) ∙ ap (drop j) all ∙ drop-drop j n es

        tallies : (b : CommandAnswer) (total k : ℕ) → Tallied b total es n s k → Tallied b total es (n + j) s' k
        tallies b total k so_far =
            let same : tally_past_entry b (drop n es) s ≡ tally_past_entry b (drop (n + j) es) s' =
            ap (λ (x : List ℕ). tally_past_entry b x s) (sym all) ∙ on.tallied b ∙ ap (λ (x : List ℕ). tally_past_entry b x s') left in
            record { at_most = omega (arith, so_far.at_most); in_all = omega (arith, so_far.in_all, same) }

    -- the room is used up: no event is left, or the count is full
    pub at-the-end :
        (count x : ℕ) → count < 2 ^ 64 → s.count ≡ count + n → n ≡ room_for count (length es)
        → x ≡ cond (ltb n (length es)) (event_refusal (get_or es n 0) s.count) 0 → Ended n x s u o
    at-the-end count x small counted e told = go (ltb (2 ^ 64 - 1 - count) (length es)) refl e
      where
        go : (t : Bool) → ltb (2 ^ 64 - 1 - count) (length es) ≡ t → n ≡ cond t (2 ^ 64 - 1 - count) (length es) → Ended n x s u o
        go false f q =
            let none : x ≡ 0 = rw (le-ltb n (length es) (omega (arith, q))) at told in
            rw none (runs-out q)
        go true f q =
            let inside : n < length es = omega (arith, q, ltb-true (2 ^ 64 - 1 - count) (length es) f) in
            let full : eqb s.count (2 ^ 64 - 1) ≡ true = eq-eqb s.count (2 ^ 64 - 1) (omega (arith, counted, q, small)) in
            let refused : x ≡ event_refusal (get_or es n 0) s.count = rw (lt-ltb n (length es) inside) at told in
            rw refused (full-stops inside (event_refusal (get_or es n 0) s.count) refl (full-refused (get_or es n 0) s.count full))

-- the run began at chip c, which was taken apart, and ended with chip d, which was put together
pub given_back :
    (es m w : List ℕ) (k : ℕ) (c c' d d' : Chip) (m₁ m₂ w₁ w₂ : List ℕ) (k' n r u o : ℕ) → c' ≡ c → d ≡ d' → m₁ ≡ m₂ → w₁ ≡ w₂
    → Ended es (state c' m w k) n r (state d' m₂ w₂ k') u o → Ended es (state c m w k) n r (state d m₁ w₁ k') u o
given_back es m w k c c' d d' m₁ m₂ w₁ w₂ k' n r u o e f em ew h =
    subst (λ (x : Chip). Ended es (state x m w k) n r (state d m₁ w₁ k') u o) e (rw (f, em, ew) h)
