-- What it means that an event, or the entry of a run, is not refused.
use mathlib.Core.Path.{◌≡◌, refl}
use mathlib.Core.Bool.{true, not, ◌||◌}
use Prim.Native.Nat.{ℕ, zero, suc, ◌-◌, ◌^◌}
use native.Mathlib.Omega.{arith}
use borrow.Author.Tests.{eqb-true, eqb-false, eq-eqb, not-false}
use lib.Dec.{eqb}
use lib.ListN.{length}
use Rattle.refusals.specs.declared.Refusal.{Refusal}
use Rattle.refusals.specs.Numbers.{number}
use Rattle.refusals.proofs.Positive.{positive}
use Rattle.registers.specs.Refusals.{refuse, record_refusal, is_listed_event}
use Rattle.registers.specs.State.{State, places}
use Rattle.registers.proofs.Refusals.{then-zero, refuse-none, or-none}
use Rattle.engine.specs.Answer.{Answer, Refused}
use Rattle.engine.specs.PastEntry.{refusal_past_entry, answer_unless}
use Rattle.engine.specs.Step.{entry_refusal, event_refusal, pixel_refusal, refusal_of, Fit}

-- what none of the refusals leaves
pub record Accepts (e : ℕ) (s : State) : Type 0 where
  pub fit : Fit s
  pub listed : is_listed_event e ≡ true
  pub room : s.count ≡ 2 ^ 64 - 1 → ⊥
  pub pixels : pixel_refusal e s.chip s.memory ≡ 0

pub entry-fit : (s : State) → entry_refusal s ≡ 0 → Fit s
unfolding entry_refusal
entry-fit s h =
    let memory-wrong = not (eqb (length s.memory) places) in
    let writers-wrong = not (eqb (length s.writers) places) in
    let parts = then-zero (refuse (memory-wrong || writers-wrong) 1) (record_refusal s.chip) h in
    let lengths = or-none memory-wrong writers-wrong (refuse-none _ 0 parts.0) in
    record {
      memory_long = eqb-true _ _ (not-false _ lengths.0);
      writers_long = eqb-true _ _ (not-false _ lengths.1);
      is-allowed = not-false _ (refuse-none _ 1 parts.1);
    }

pub fit-entry : (s : State) → Fit s → entry_refusal s ≡ 0
unfolding entry_refusal
fit-entry s fit = simp (eq-eqb _ _ fit.memory_long, eq-eqb _ _ fit.writers_long, fit.is-allowed)

-- past the entry: the count is not full
pub room-left : (e : ℕ) (s : State) → refusal_past_entry e s ≡ 0 → s.count ≡ 2 ^ 64 - 1 → ⊥
unfolding refusal_past_entry event_refusal
room-left e s h =
    let event = (then-zero (event_refusal e s.count) (pixel_refusal e s.chip s.memory) h).0 in
    eqb-false _ _ (refuse-none _ 3 (then-zero (refuse (not (is_listed_event e)) 3) (refuse (eqb s.count (2 ^ 64 - 1)) 4) event).1)

pub accepts : (e : ℕ) (s : State) → refusal_of e s ≡ 0 → Accepts e s
unfolding refusal_of refusal_past_entry event_refusal
accepts e s h =
    let first = then-zero (entry_refusal s) (refusal_past_entry e s) h in
    let second = then-zero (event_refusal e s.count) (pixel_refusal e s.chip s.memory) first.1 in
    record {
      fit = entry-fit s first.0;
      listed = not-false _ (refuse-none _ 2 (then-zero (refuse (not (is_listed_event e)) 3) (refuse (eqb s.count (2 ^ 64 - 1)) 4) second.0).0);
      room = room-left e s first.1;
      pixels = second.1;
    }

-- ---- a refusal of the code has a number, which is not 0

pub number-refuses : (r : Refusal) → number r ≡ 0 → ⊥
number-refuses r z = omega (arith, positive r, z)

-- it is the answer
pub refusal_told : (r : Refusal) (a : Answer) → Refused (number r) ≡ answer_unless (number r) a
refusal_told r a = go (number r) (number-refuses r)
  where
    go : (k : ℕ) → (k ≡ 0 → ⊥) → Refused k ≡ answer_unless k a
    go zero n = absurd (n refl)
    go (suc k) n = refl
