-- The calls of the host are refused exactly when the documents say, and a refused call changes nothing; what a call adds to the count; how commands are
-- answered and counted, demand 3 and the last writer by calls alone. (Views: the glass and its pulses. record_words: words and record.)
use mathlib.Core.Path.{◌≡◌, refl, sym, ap, ◌∙◌, subst}
use mathlib.Core.Bool.{Bool, true, false}
use mathlib.Core.List.{List}
use mathlib.Core.Logic.{◌↔◌, inl, inr}
use Prim.Native.Nat.{ℕ, suc, ◌+◌, ◌≤◌}
use native.Mathlib.Omega.{arith}
use native.Mathlib.Nat.{suc-ne-zero, add-zero}
use lib.ListN.{get_or, take}
use Rattle.registers.specs.Places.{H}
use Rattle.registers.specs.State.{State, state}
use Rattle.registers.proofs.Below.{true-false}
use Rattle.lists.specs.Lists.{faulty, reading_of}
use Rattle.lists.proofs.Readings.{reading-refused}
use Rattle.compiler.specs.Answer as answer
use Rattle.compiler.specs.Answer.{Done, Refused, BadLine, Short}
use Rattle.compiler.specs.Compile.{compile_of, numbers_of}
use Rattle.compiler.specs.When.{NotRead}
use Rattle.compiler.proofs.Laws.{two-exactly, exactly-when, demand-3-promised}
use Rattle.engine.specs.Step.{Fit, refusal_of, accepted, step_of}
use Rattle.engine.specs.Run.{run_from, run_of, tally}
use Rattle.engine.proofs.Numbers.{command-numbers}
use Rattle.engine.proofs.Tallies.{tally-refused}
use Rattle.chip.specs.Promised.{CommandAnswer, Unknown, OutOfRange, CommandWhen, command_number}
use Rattle.engine.specs.Answer.{Command}
use Rattle.chip.proofs.Laws.{answered-exactly}
use Rattle.chip.proofs.LastWriter.{counts-accepted}
use Rattle.chip.proofs.RunOn.{run-counts}
use Rattle.record_words.specs.Words.{stands_for, chip_of}
use Rattle.host.specs.Calls.{no_record, stepped, Stepped, step_call, step_refusal, after_step, entry_refusal, ran, run_call, after_run}
use Rattle.host.specs.Compiling.{Compiled, compiled, compile_call}
use Rattle.host.specs.Playing.{Buffers, step_on, CommandAwaited, AnsweredAs, CountedByCalls, PlayedByCalls, DrawnByCalls, LastWriterByCalls}
use Rattle.host.proofs.Refusals.{one-or-two, never-none, entry-of-none, entry-of-chip, refused-at-entry, refusal-of-chip}
use Rattle.record_words.proofs.Laws.{words-chip-words, stands-allowed}
use Rattle.host.proofs.Steps.{buffers_of, as-buffers, as-stands, no-record-stepped}
use Rattle.host.proofs.Commands.{command-awaited, awaits-command, step-command-number, counted-stands, counted_none}
use Rattle.host.proofs.Counting.{true-chip}
use Rattle.host.proofs.Playing.{played-by-calls, last-writer-stands, last-writer-none}

module _ (ws m w : List ℕ) (count : ℕ) where
  module _ (event : ℕ) where
    pub step-refused : (k : ℕ) → step_refusal event ws m w count ≡ suc k → step_call event ws m w count ≡ stepped (suc k) ws m w count
    unfolding step_call step_of
    step-refused k r = go (stands_for ws) refl
      where
        go : (t : Bool) → stands_for ws ≡ t → step_call event ws m w count ≡ stepped (suc k) ws m w count
        go true h = rw (h, refusal-of-chip ws m w event count h ∙ r, words-chip-words ws h)
        go false h = rw (h, sym (refused-at-entry ws m w h _) ∙ r)

    pub step-accepted : step_refusal event ws m w count ≡ 0 → step_call event ws m w count ≡ after_step (accepted event (state (chip_of ws) m w count))
    unfolding step_call step_of
    step-accepted r = go (stands_for ws) refl
      where
        go : (t : Bool) → stands_for ws ≡ t → step_call event ws m w count ≡ after_step (accepted event (state (chip_of ws) m w count))
        go true h = rw (h, refusal-of-chip ws m w event count h ∙ r)
        go false h = absurd (never-none ws m w (sym (refused-at-entry ws m w h _) ∙ r))

    -- and adds 1 to the count
    pub step-adds : step_refusal event ws m w count ≡ 0 → (step_call event ws m w count).count ≡ count + 1
    step-adds r = ap (λ (s : Stepped). s.count) (step-accepted r) ∙ counts-accepted event (state (chip_of ws) m w count)

  module _ (events : List ℕ) where
    -- and nothing is counted
    pub run-refused : (k : ℕ) → entry_refusal ws m w ≡ suc k → run_call events ws m w count ≡ ran (suc k) 0 0 0 ws m w count
    unfolding run_call run_of
    run-refused k r = go (stands_for ws) refl
      where
        uncounted : (a : CommandAnswer) → stands_for ws ≡ true → 0 ≡ tally a events (state (chip_of ws) m w count)
        uncounted a h = tally-refused a events (state (chip_of ws) m w count) (suc k) (sym (entry-of-chip ws m w count h ∙ r)) (suc-ne-zero k)

        go : (t : Bool) → stands_for ws ≡ t → run_call events ws m w count ≡ ran (suc k) 0 0 0 ws m w count
        go true h = rw (h, entry-of-chip ws m w count h ∙ r, words-chip-words ws h, ← uncounted Unknown h, ← uncounted OutOfRange h)
        go false h = rw (h, sym (entry-of-none ws m w h) ∙ r)

    pub run-entered :
        entry_refusal ws m w ≡ 0
        → run_call events ws m w count
        ≡ after_run (run_from 0 events (state (chip_of ws) m w count)) (tally Unknown events (state (chip_of ws) m w count)) (tally OutOfRange events (state (chip_of ws) m w count))
    unfolding run_call run_of
    run-entered r = go (stands_for ws) refl
      where
        go :
            (t : Bool) → stands_for ws ≡ t
            → run_call events ws m w count
            ≡ after_run (run_from 0 events (state (chip_of ws) m w count)) (tally Unknown events (state (chip_of ws) m w count)) (tally OutOfRange events (state (chip_of ws) m w count))
        go true h = rw (h, entry-of-chip ws m w count h ∙ r)
        go false h = absurd (never-none ws m w (sym (entry-of-none ws m w h) ∙ r))

    -- whatever it is lent, it adds as many to the count as it did
    pub run-adds : (run_call events ws m w count).count ≡ count + (run_call events ws m w count).done
    unfolding run_call
    run-adds = go (stands_for ws) refl
      where
        go : (t : Bool) → stands_for ws ≡ t → (run_call events ws m w count).count ≡ count + (run_call events ws m w count).done
        go true h = rw h (run-counts events (state (chip_of ws) m w count))
        go false h = rw h (sym (add-zero count))

-- ---- compiling

module _ (ws text out : List ℕ) where
  -- words that stand for no record are refused by 2, and no others are
  pub compile-refused : stands_for ws ≡ false → compile_call ws text out ≡ compiled 2 0 0 0 out
  unfolding compile_call
  compile-refused h = rw h

  pub compile-2-exactly : ((compile_call ws text out).number ≡ 2) ↔ (stands_for ws ≡ false)
  unfolding compile_call
  compile-2-exactly = (there (stands_for ws) refl, λ h. ap (λ (r : Compiled). r.number) (compile-refused h))
    where
      there : (t : Bool) → stands_for ws ≡ t → (compile_call ws text out).number ≡ 2 → stands_for ws ≡ false
      there true h e =
          absurd (true-false (sym (stands-allowed ws h) ∙ (two-exactly (chip_of ws) text out).0 (sym (rw h) ∙ e)))
      there false h e = h

-- ---- the answers to commands, by calls alone

page-word : (ws : List ℕ) → (chip_of ws).registers.h ≡ get_or ws H 0
unfolding chip_of
page-word ws = refl

-- pcf8820_step gives 259, 260 and 261 each exactly when the event is a command byte that is accepted and has that answer
pub answered-by-call : (e : ℕ) (b : Buffers) (a : CommandAnswer) → ((step_on e b).number ≡ command_number a) ↔ AnsweredAs a e b
answered-by-call e b a = go (stands_for b.words) refl
  where
    s : State
    s = state (chip_of b.words) b.memory b.writers b.count

    no_answer : no_record b.memory b.writers ≡ command_number a → ⊥
    no_answer q = omega (arith, q, (command-numbers a).0, (one-or-two b.memory b.writers).1)

    go : (t : Bool) → stands_for b.words ≡ t → ((step_on e b).number ≡ command_number a) ↔ AnsweredAs a e b
    go true h = (there, back)
      where
        same : b ≡ buffers_of s
        same = as-buffers b.words b.memory b.writers b.count h

        by-chip : ((step_on e (buffers_of s)).number ≡ command_number a) ↔ ((refusal_of e s ≡ 0) × ((step_of e s).answer ≡ Command a))
        by-chip = step-command-number e s (as-stands b.words b.memory b.writers b.count h) a

        there : (step_on e b).number ≡ command_number a → AnsweredAs a e b
        there q =
            let given = by-chip.0 (sym (ap (λ (c : Buffers). (step_on e c).number) same) ∙ q) in
            let so = (answered-exactly e s given.0 a).0 given.1 in
            record {
              not_refused = sym (refusal-of-chip b.words b.memory b.writers e b.count h) ∙ given.0;
              is-byte = so.0;
              awaited = subst CommandAwaited (sym same) (awaits-command s so.1);
              in-page = subst (λ (n : ℕ). CommandWhen n e a) (page-word b.words) so.2;
            }

        back : AnsweredAs a e b → (step_on e b).number ≡ command_number a
        back w =
            let r = refusal-of-chip b.words b.memory b.writers e b.count h ∙ w.not_refused in
            let awaits = command-awaited s (subst CommandAwaited same w.awaited) in
            ap (λ (c : Buffers). (step_on e c).number) same
            ∙ by-chip.1 (r, (answered-exactly e s r a).1 (w.is-byte, awaits, subst (λ (n : ℕ). CommandWhen n e a) (sym (page-word b.words)) w.in-page))
    go false h = (
      λ q. absurd (no_answer (sym (ap (λ (r : Stepped). r.number) (no-record-stepped e b.words b.memory b.writers b.count h)) ∙ q)),
      λ w. absurd (never-none b.words b.memory b.writers (sym (refused-at-entry b.words b.memory b.writers h _) ∙ w.not_refused)),
    )

-- pcf8820_run counts what pcf8820_step tells
pub counted-by-calls : (es : List ℕ) (b : Buffers) → CountedByCalls es b
counted-by-calls es b = go (stands_for b.words) refl
  where
    go : (t : Bool) → stands_for b.words ≡ t → CountedByCalls es b
    go true h =
        subst (CountedByCalls es) (sym (as-buffers b.words b.memory b.writers b.count h))
        (counted-stands es (state (chip_of b.words) b.memory b.writers b.count) (as-stands b.words b.memory b.writers b.count h))
    go false h = counted_none es b.words b.memory b.writers b.count h

-- ---- demand 3 and demand 2 by calls alone

module _ (ws text out : List ℕ) where
  bad-line-number : (k i : ℕ) → reading_of text ≡ faulty k i → 6 ≤ k
  unfolding reading_of
  bad-line-number k i e = (reading-refused 1 text k i e).least

  drawn :
      (r : answer.Compiled) → stands_for ws ≡ true → (compile_of (chip_of ws) text out).answer ≡ r → (numbers_of r).number ≡ 0
      → DrawnByCalls ws text (numbers_of r).length (compile_of (chip_of ws) text out).out
  drawn (Refused k) h e z = absurd (go ((exactly-when (chip_of ws) text out (Refused k)).0 e))
    where
      go : NotRead (chip_of ws) text k → ⊥
      go (inl two) = omega (arith, two.0, z)
      go (inr nine) = omega (arith, nine.0, z)
  drawn (BadLine k i) h e z = absurd (omega (arith, bad-line-number k i ((exactly-when (chip_of ws) text out (BadLine k i)).0 e).1, z))
  drawn (Short n) h e z = absurd (omega (arith, z))
  drawn (Done n k) h e z =
      let draws = demand-3-promised (chip_of ws) text out n k e in
      record {
        list = draws.list;
        reads = draws.reads;
        plays = λ m w count lm lw t room.
            let fit : Fit (state (chip_of ws) m w count) = record { memory_long = lm; writers_long = lw; is-allowed = stands-allowed ws h } in
            subst (PlayedByCalls draws.list (take n (compile_of (chip_of ws) text out).out)) (sym (as-buffers ws m w count h))
            (played-by-calls draws.list _ _ (as-stands ws m w count h) (draws.plays m w count fit (true-chip ws m w count t) room));
      }

  -- a list that pcf8820_compile accepts is drawn by calls of pcf8820_step, and by one of pcf8820_run
  pub demand-3-by-calls : (compile_call ws text out).number ≡ 0 → DrawnByCalls ws text (compile_call ws text out).length (compile_call ws text out).out
  unfolding compile_call
  demand-3-by-calls z = go (stands_for ws) refl
    where
      go : (t : Bool) → stands_for ws ≡ t → DrawnByCalls ws text (compile_call ws text out).length (compile_call ws text out).out
      go true h = rw h (drawn (compile_of (chip_of ws) text out).answer h refl (rw h at z))
      go false h = absurd (suc-ne-zero 1 (rw h at z))

-- at every place of the memories that pcf8820_run leaves: byte and writer are as they were, or those of the last display byte stored there
pub last-writer-by-calls : (es : List ℕ) (b : Buffers) (k : ℕ) → LastWriterByCalls es b k
last-writer-by-calls es b k = go (stands_for b.words) refl
  where
    go : (t : Bool) → stands_for b.words ≡ t → LastWriterByCalls es b k
    go true h =
        subst (λ (c : Buffers). LastWriterByCalls es c k) (sym (as-buffers b.words b.memory b.writers b.count h))
        (last-writer-stands es (state (chip_of b.words) b.memory b.writers b.count) k (as-stands b.words b.memory b.writers b.count h))
    go false h = last-writer-none es b.words b.memory b.writers b.count k h
