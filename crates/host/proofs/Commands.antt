-- How commands are answered, by calls alone: the numbers that pcf8820_step gives, and what pcf8820_run counts of them.
use mathlib.Core.Bool.{true, false, cond}
use mathlib.Core.List.{List, [], ◌∷◌}
use mathlib.Core.Logic.{◌⊎◌, ◌↔◌, inl, inr}
use mathlib.Core.Path.{◌≡◌, refl, sym, ap, ap₂, ◌∙◌}
use Prim.Native.Nat.{ℕ, zero, suc, ◌+◌, suc-le-suc}
use native.Mathlib.Omega.{arith}
use borrow.Author.Tests.{ne_eqb}
use lib.Dec.{eqb}
use Rattle.registers.specs.declared.Phase.{Phase}
use Rattle.registers.specs.declared.Phase.TheVariants.{Idle, AddressAwaited, Ignoring, ControlAwaited, OneByte, EndlessBytes, Reading, ReadEnded}
use Rattle.registers.specs.Record.{phase_rs}
use Rattle.registers.specs.State.{State}
use Rattle.registers.proofs.Below.{false-true}
use Rattle.engine.specs.Answer.{Answer, Refused, Nothing, Acknowledged, NotAcknowledged, Command, Read}
use Rattle.engine.specs.Event.{number_of, counts_as}
use Rattle.chip.specs.Promised.{CommandAnswer, Unknown, OutOfRange, command_number}
use Rattle.engine.specs.Step.{After, refusal_of, step_of}
use Rattle.engine.specs.Run.{run_of, tally}
use Rattle.engine.proofs.Numbers.{NoRefusal, command-numbers, same_answer}
use Rattle.chip.specs.Phases.{awaits_command}
use Rattle.chip.specs.Runs.{tally_over}
use Rattle.chip.proofs.Laws.{refused, refusal-at-most, run-steps, run-tallies}
use Rattle.record_words.specs.Words.{phase_number, bit, stands_for, words_of}
use Rattle.host.specs.Calls.{no_record, Stepped, Ran, ran, run_call}
use Rattle.host.specs.Playing.{Buffers, buffers, step_on, run_on, CommandAwaited, calls_giving, CountedByCalls}
use Rattle.host.proofs.Steps.{buffers_of, Stands, call-steps, step-answers, stays-standing, Accepted, call-runs, no-record-ran}

-- ---- the answers to commands

-- whether a command is awaited, by the phase and by the words
pub command-awaited : (s : State) → CommandAwaited (buffers_of s) → awaits_command s.chip.phase ≡ true
unfolding words_of
command-awaited s = go s.chip.phase
  where
    other : (n : ℕ) → (n ≡ 4 → ⊥) → (n ≡ 5 → ⊥) → (n ≡ 4) ⊎ (n ≡ 5) → ⊥
    other n n4 n5 (inl e) = n4 e
    other n n4 n5 (inr e) = n5 e

    go : (p : Phase) → ((phase_number p ≡ 4) ⊎ (phase_number p ≡ 5)) × (bit (phase_rs p) ≡ 0) → awaits_command p ≡ true
    go Idle a = absurd (other 0 (λ e. omega (arith, e)) (λ e. omega (arith, e)) a.0)
    go AddressAwaited a = absurd (other 1 (λ e. omega (arith, e)) (λ e. omega (arith, e)) a.0)
    go Ignoring a = absurd (other 2 (λ e. omega (arith, e)) (λ e. omega (arith, e)) a.0)
    go ControlAwaited a = absurd (other 3 (λ e. omega (arith, e)) (λ e. omega (arith, e)) a.0)
    go (OneByte true) a = absurd (omega (arith, a.1))
    go (OneByte false) a = refl
    go (EndlessBytes true) a = absurd (omega (arith, a.1))
    go (EndlessBytes false) a = refl
    go Reading a = absurd (other 6 (λ e. omega (arith, e)) (λ e. omega (arith, e)) a.0)
    go ReadEnded a = absurd (other 7 (λ e. omega (arith, e)) (λ e. omega (arith, e)) a.0)

pub awaits-command : (s : State) → awaits_command s.chip.phase ≡ true → CommandAwaited (buffers_of s)
unfolding words_of
awaits-command s = go s.chip.phase
  where
    go : (p : Phase) → awaits_command p ≡ true → ((phase_number p ≡ 4) ⊎ (phase_number p ≡ 5)) × (bit (phase_rs p) ≡ 0)
    go Idle t = absurd (false-true t)
    go AddressAwaited t = absurd (false-true t)
    go Ignoring t = absurd (false-true t)
    go ControlAwaited t = absurd (false-true t)
    go (OneByte true) t = absurd (false-true t)
    go (OneByte false) t = (inl refl, refl)
    go (EndlessBytes true) t = absurd (false-true t)
    go (EndlessBytes false) t = (inr refl, refl)
    go Reading t = absurd (false-true t)
    go ReadEnded t = absurd (false-true t)

-- the number of an answer to an accepted event tells what it counts as
counts-by-number : (k : CommandAnswer) (a : Answer) → NoRefusal a → counts_as k a ≡ cond (eqb (number_of a) (command_number k)) 1 0
counts-by-number k (Refused n) r = absurd r
counts-by-number k Nothing r = rw (ne_eqb 256 (command_number k) (λ e. omega (arith, e, (command-numbers k).0)))
counts-by-number k Acknowledged r = rw (ne_eqb 257 (command_number k) (λ e. omega (arith, e, (command-numbers k).0)))
counts-by-number k NotAcknowledged r = rw (ne_eqb 258 (command_number k) (λ e. omega (arith, e, (command-numbers k).0)))
counts-by-number k (Command a) r = refl
counts-by-number k (Read b) r = rw (ne_eqb (512 + b) (command_number k) (λ e. omega (arith, e, (command-numbers k).1)))

-- counted over the first n steps, none of them refused, or over as many calls
tally-calls :
    (k : CommandAnswer) (es : List ℕ) (n : ℕ) (s : State) → Stands s → Accepted es n s
    → tally_over k es n s ≡ calls_giving (command_number k) es n (buffers_of s)
tally-calls k [] n s h all = refl
tally-calls k (e ∷ es) zero s h all = refl
tally-calls k (e ∷ es) (suc n) s h all =
    let r : refusal_of e s ≡ 0 = all 0 (omega arith) in
    let rest = tally-calls k es n (step_of e s).state (stays-standing s h e r) (λ j l. all (suc j) (suc-le-suc l)) in
    rw (call-steps s h e) (ap₂ (λ (x y : ℕ). x + y) (counts-by-number k (step_of e s).answer (step-answers s h e r).answered) rest)

pub counted-stands : (es : List ℕ) (s : State) → Stands s → CountedByCalls es (buffers_of s)
counted-stands es s h =
    record {
      unknown = ap (λ (r : Ran). r.unknown) (call-runs es s h) ∙ by-calls Unknown;
      out_of_range = ap (λ (r : Ran). r.out_of_range) (call-runs es s h) ∙ by-calls OutOfRange;
    }
  where
    by-calls : (k : CommandAnswer) → tally k es s ≡ calls_giving (command_number k) es (run_on es (buffers_of s)).done (buffers_of s)
    by-calls k =
        run-tallies k es s ∙ tally-calls k es (run_of es s).done s h (run-steps es s).accepted
        ∙ ap (λ (r : Ran). calls_giving (command_number k) es r.done (buffers_of s)) (sym (call-runs es s h))

-- a step's number is a command's exactly where the step was accepted and is so answered
module _ (e : ℕ) (s : State) (h : Stands s) where
  pub step-command-number :
      (a : CommandAnswer) → ((step_on e (buffers_of s)).number ≡ command_number a) ↔ ((refusal_of e s ≡ 0) × ((step_of e s).answer ≡ Command a))
  step-command-number a = (λ q. go (refusal_of e s) refl (sym number ∙ q), λ w. number ∙ ap number_of w.1)
    where
      number : (step_on e (buffers_of s)).number ≡ number_of (step_of e s).answer
      number = ap (λ (r : Stepped). r.number) (call-steps s h e)

      go : (k : ℕ) → refusal_of e s ≡ k → number_of (step_of e s).answer ≡ command_number a → (refusal_of e s ≡ 0) × ((step_of e s).answer ≡ Command a)
      go zero r q = (r, same_answer (step_of e s).answer (Command a) (step-answers s h e r).answered tt q)
      go (suc k) r q =
          absurd (omega (arith, ap (λ (x : After). number_of x.answer) (refused e s k r), q, (command-numbers a).0, r, refusal-at-most e s))

pub counted_none : (es ws m w : List ℕ) (count : ℕ) → stands_for ws ≡ false → CountedByCalls es (buffers ws m w count)
counted_none es ws m w count h =
    record {
      unknown = ap (λ (r : Ran). r.unknown) ran-none ∙ none 260;
      out_of_range = ap (λ (r : Ran). r.out_of_range) ran-none ∙ none 261;
    }
  where
    ran-none : run_call es ws m w count ≡ ran (no_record m w) 0 0 0 ws m w count
    ran-none = no-record-ran es ws m w count h

    no-calls : (k : ℕ) (es : List ℕ) (b : Buffers) → 0 ≡ calls_giving k es 0 b
    no-calls k [] b = refl
    no-calls k (e ∷ es) b = refl

    none : (k : ℕ) → 0 ≡ calls_giving k es (run_call es ws m w count).done (buffers ws m w count)
    none k = no-calls k es (buffers ws m w count) ∙ ap (λ (r : Ran). calls_giving k es r.done (buffers ws m w count)) (sym ran-none)
