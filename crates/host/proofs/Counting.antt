-- Counts of pixels by calls alone: what a counting start gives, and that true counts stay true in the words of a record.
use mathlib.Core.Bool.{Bool, true, false, ◌&&◌}
use mathlib.Core.List.{List, []}
use mathlib.Core.Path.{◌≡◌, refl, sym, ap, ◌∙◌}
use Prim.Native.Nat.{ℕ, zero, suc, ◌+◌}
use native.Mathlib.Omega.{arith}
use borrow.Author.Tests.{eq-eqb, ne_eqb}
use lib.Dec.{eqb, leb}
use lib.ListN.{length, replicate}
use Rattle.registers.specs.declared.Chip.{Chip}
use Rattle.registers.specs.Record.{pixels, reset_chip, with_pixels}
use Rattle.registers.specs.State.{State, state, places}
use Rattle.pixel_counts.specs.Counts.{count_of, counts_of, counting_start, TrueCounts}
use Rattle.pixel_counts.proofs.Laws.{counts-add, zeros-cleared}
use Rattle.engine.specs.Event.{number_of}
use Rattle.engine.specs.Run.{run_of}
use Rattle.engine.specs.Step.{After, refusal_of, step_of}
use Rattle.engine.proofs.Numbers.{no-refusal-number}
use Rattle.chip.proofs.Laws.{refused, stays-true, run-stays-true, true-never-16}
use Rattle.record_words.specs.Words.{record_length, stands_for, chip_of, words_of}
use Rattle.host.specs.Calls.{reset_call, Stepped, step_call, run_call}
use Rattle.host.specs.Counting.{Counts, counts, counts_call, TrueWords}
use Rattle.host.specs.Playing.{Buffers, step_on}
use Rattle.host.proofs.Refusals.{one-or-two}
use Rattle.host.proofs.Steps.{as-buffers, as-stands, call-steps, step-answers, no-record-stepped}

-- ---- a counting start

-- of a memory of its length: 0, and how many of all pixels have each value
pub counts-given : (m : List ℕ) → length m ≡ places → counts_call m ≡ counts 0 (count_of 0 m) (count_of 1 m) (count_of 2 m) (count_of 3 m)
unfolding counts_call counting_start counts_of
counts-given m h = simp (eq-eqb _ _ h)

-- of any other: 1, and no numbers
pub counts-refused : (m : List ℕ) → (length m ≡ places → ⊥) → counts_call m ≡ counts 1 0 0 0 0
unfolding counts_call counting_start
counts-refused m n = simp (ne_eqb _ _ n)

-- the four add up to all pixels
pub counts-given-add :
    (m : List ℕ) → length m ≡ places
    → (counts_call m).zeros + (counts_call m).ones + (counts_call m).twos + (counts_call m).threes ≡ pixels
counts-given-add m h =
    ap (λ (c : Counts). c.zeros + c.ones + c.twos + c.threes) (counts-given m h) ∙ counts-add m

-- ---- the words of a record

pub true-chip : (ws m w : List ℕ) (count : ℕ) → TrueWords ws m → TrueCounts (state (chip_of ws) m w count)
unfolding chip_of
true-chip ws m w count t = t

pub true-words : (s : State) → TrueCounts s → TrueWords (words_of s.chip) s.memory
unfolding words_of
true-words s t = t

-- true before a call of pcf8820_step, true after it, whatever is lent and whether it is refused or not
pub step-stays-true :
    (e : ℕ) (ws m w : List ℕ) (count : ℕ) → TrueWords ws m → TrueWords (step_call e ws m w count).words (step_call e ws m w count).memory
unfolding step_call
step-stays-true e ws m w count t = go (stands_for ws) refl
  where
    s : State
    s = state (chip_of ws) m w count

    go : (b : Bool) → stands_for ws ≡ b → TrueWords (step_call e ws m w count).words (step_call e ws m w count).memory
    go true h = rw h (true-words (step_of e s).state (stays-true e s (true-chip ws m w count t)))
    go false h = rw h t

-- and so over a call of pcf8820_run
pub run-stays-true-by-call :
    (es ws m w : List ℕ) (count : ℕ) → TrueWords ws m → TrueWords (run_call es ws m w count).words (run_call es ws m w count).memory
unfolding run_call
run-stays-true-by-call es ws m w count t = go (stands_for ws) refl
  where
    s : State
    s = state (chip_of ws) m w count

    go : (b : Bool) → stands_for ws ≡ b → TrueWords (run_call es ws m w count).words (run_call es ws m w count).memory
    go true h = rw h (true-words (run_of es s).state (run-stays-true es s (true-chip ws m w count t)))
    go false h = rw h t

-- where they begin: after pcf8820_reset over a memory of zeros, and in any record that gets the four numbers of pcf8820_counts
pub reset-is-true :
    (ws : List ℕ) (pins : ℕ) → (reset_call pins ws).number ≡ 0 → TrueWords (reset_call pins ws).words (replicate places 0)
unfolding reset_call
reset-is-true ws pins q = go (eqb (length ws) record_length && leb pins 3) refl
  where
    go : (b : Bool) → eqb (length ws) record_length && leb pins 3 ≡ b → TrueWords (reset_call pins ws).words (replicate places 0)
    go true h = rw h (true-words (state (reset_chip pins) (replicate places 0) [] 0) (sym (zeros-cleared places)))
    go false h = let z : ◌≡◌ {A = ℕ} 2 0 = sym (rw h) ∙ q in absurd (omega arith)

pub counted-is-true : (c : Chip) (m : List ℕ) → TrueWords (words_of (with_pixels c (counts_of m))) m
counted-is-true c m = true-words (state (with_pixels c (counts_of m)) m [] 0) refl

-- a step from true counts never gives 16
pub step-never-16 : (e : ℕ) (ws m w : List ℕ) (count : ℕ) → TrueWords ws m → (step_call e ws m w count).number ≡ 16 → ⊥
step-never-16 e ws m w count t q = go (stands_for ws) refl
  where
    s : State
    s = state (chip_of ws) m w count

    by-chip : (h : stands_for ws ≡ true) → (step_call e ws m w count).number ≡ number_of (step_of e s).answer
    by-chip h =
        ap (λ (b : Buffers). (step_on e b).number) (as-buffers ws m w count h)
        ∙ ap (λ (r : Stepped). r.number) (call-steps s (as-stands ws m w count h) e)

    chip : (h : stands_for ws ≡ true) (k : ℕ) → refusal_of e s ≡ k → ⊥
    chip h zero r = omega (arith, by-chip h, q, no-refusal-number (step_of e s).answer (step-answers s (as-stands ws m w count h) e r).answered)
    chip h (suc k) r =
        let given = ap (λ (a : After). number_of a.answer) (refused e s k r) in
        true-never-16 e s (true-chip ws m w count t) (r ∙ sym given ∙ sym (by-chip h) ∙ q)

    go : (b : Bool) → stands_for ws ≡ b → ⊥
    go true h = chip h (refusal_of e s) refl
    go false h =
        omega (arith, ap (λ (r : Stepped). r.number) (no-record-stepped e ws m w count h), q, (one-or-two m w).1)
