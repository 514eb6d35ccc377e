-- What a run counts: over which steps, over two lists, and nothing but taken commands where events play.
use mathlib.Core.List.{List, [], ◌∷◌, ◌++◌}
use mathlib.Core.Path.{◌≡◌, refl, sym, ap, ◌∙◌}
use Prim.Native.Nat.{ℕ, zero, suc, ◌+◌, ◌≤◌, zero-le}
use native.Mathlib.Nat.{suc-ne-zero}
use native.Mathlib.Numerals.{one-add}
use native.Mathlib.Omega.{arith}
use Rattle.registers.specs.State.{State}
use Rattle.commands.specs.Command.{counts}
use Rattle.engine.specs.Run.{run_from, unless_stopped, count_unless, tally}
use Rattle.engine.specs.Step.{accepted}
use Rattle.engine.proofs.Tallies.{counted-once, tally-refused}
use Rattle.chip.specs.Plays.{Good, Plays}
use Rattle.chip.specs.Promised.{Answer, CommandAnswer, Refused, Nothing, Acknowledged, NotAcknowledged, Command, Read, Taken, After, entry_refusal, refusal_of, step_of}
use Rattle.chip.specs.Promised.{counts_as}
use Rattle.chip.specs.Runs.{tally_over}
use Rattle.chip.proofs.Events.{answered-command}
use Rattle.chip.proofs.Refusals.{accepted-step}
use Rattle.chip.proofs.Runs.{run-shift}

-- ---- over the steps that were done

pub from-tallies : (a : CommandAnswer) (es : List ℕ) (s : State) → tally a es s ≡ tally_over a es (run_from 0 es s).done s
unfolding tally run_from
from-tallies a [] s = refl
from-tallies a (e ∷ es) s = go (refusal_of e s) refl (from-tallies a es (accepted e s).state)
  where
    go :
        (k : ℕ) → refusal_of e s ≡ k → tally a es (accepted e s).state ≡ tally_over a es (run_from 0 es (accepted e s).state).done (accepted e s).state
        → count_unless k (counts_as a (accepted e s).answer + tally a es (accepted e s).state)
        ≡ tally_over a (e ∷ es) (unless_stopped k 0 s (run_from 1 es (accepted e s).state)).done s
    go (suc k) q rest = refl
    go zero q rest =
        ap (λ (n : ℕ). counts_as a (accepted e s).answer + n) rest
        ∙ ap (λ (x : After). counts_as a x.answer + tally_over a es (run_from 0 es (accepted e s).state).done x.state) (sym (accepted-step e s q))
        ∙ ap (λ (n : ℕ). tally_over a (e ∷ es) n s)
        (sym (ap (λ o. o.done) (run-shift 1 es (accepted e s).state) ∙ one-add (run_from 0 es (accepted e s).state).done))

-- where the entry refuses, no step was done
pub entry-tallies : (a : CommandAnswer) (es : List ℕ) (s : State) (k : ℕ) → entry_refusal s ≡ suc k → tally a es s ≡ tally_over a es 0 s
entry-tallies a es s k q = sym (tally-refused a es s (suc k) (sym q) (suc-ne-zero k)) ∙ sym (none es)
  where
    none : (es : List ℕ) → tally_over a es 0 s ≡ 0
    none [] = refl
    none (e ∷ es) = refl

pub at-most-done : (a : CommandAnswer) (es : List ℕ) (n : ℕ) (s : State) → tally_over a es n s ≤ n
at-most-done a [] n s = zero-le
at-most-done a (e ∷ es) zero s = zero-le
at-most-done a (e ∷ es) (suc n) s = omega (arith, counted-once a _ (step_of e s).answer refl, at-most-done a es n (step_of e s).state)

-- over two lists: what the first counts, and what the second does where the first was not stopped
pub from-tallies-append :
    (a : CommandAnswer) (n : ℕ) (xs ys : List ℕ) (s : State)
    → tally a (xs ++ ys) s ≡ tally a xs s + count_unless (run_from n xs s).refusal (tally a ys (run_from n xs s).state)
unfolding tally run_from
from-tallies-append a n [] ys s = omega arith
from-tallies-append a n (e ∷ xs) ys s = go (refusal_of e s) (from-tallies-append a (n + 1) xs ys (accepted e s).state)
  where
    go :
        (k : ℕ)
        → tally a (xs ++ ys) (accepted e s).state
        ≡ tally a xs (accepted e s).state
        + count_unless (run_from (n + 1) xs (accepted e s).state).refusal (tally a ys (run_from (n + 1) xs (accepted e s).state).state)
        → count_unless k (counts_as a (accepted e s).answer + tally a (xs ++ ys) (accepted e s).state)
        ≡ count_unless k (counts_as a (accepted e s).answer + tally a xs (accepted e s).state)
        + count_unless (unless_stopped k n s (run_from (n + 1) xs (accepted e s).state)).refusal (tally a ys (unless_stopped k n s (run_from (n + 1) xs (accepted e s).state)).state)
    go zero rest = omega (arith, rest)
    go (suc k) rest = omega arith

-- ---- events that play

-- a good event is no command but one that is taken
good-counts : (k : CommandAnswer) → counts k Taken ≡ 0 → (e : ℕ) (s : State) → Good e s → counts_as k (step_of e s).answer ≡ 0
good-counts k other e s good = go (step_of e s).answer refl
  where
    go : (a : Answer) → (step_of e s).answer ≡ a → counts_as k a ≡ 0
    go (Refused n) q = refl
    go Nothing q = refl
    go Acknowledged q = refl
    go NotAcknowledged q = refl
    go (Command a) q =
        let so = answered-command e s good.not_refused a q in
        ap (counts_as k) (sym q ∙ good.taken so.0 so.1) ∙ other
    go (Read b) q = refl

-- so a run over events that play has no other
pub plays-tally : (k : CommandAnswer) → counts k Taken ≡ 0 → (es : List ℕ) (Q : State → Type 0) (s : State) → Plays es Q s → tally k es s ≡ 0
unfolding Plays tally
plays-tally k other [] Q s p = refl
plays-tally k other (e ∷ es) Q s p =
    let step = accepted-step e s p.0.not_refused in
    ap (λ (n : ℕ). count_unless n (counts_as k (accepted e s).answer + tally k es (accepted e s).state)) p.0.not_refused
    ∙ ap (λ (a : After). counts_as k a.answer + tally k es a.state) (sym step)
    ∙ omega (arith, good-counts k other e s p.0, plays-tally k other es Q (step_of e s).state p.1)
