-- The numbers of answers: those of an accepted event begin at 256, and each tells its answer.
use mathlib.Core.Bool.{cond}
use mathlib.Core.Path.{◌≡◌, refl, sym, ap, ◌∙◌}
use Prim.Native.Nat.{ℕ, ◌+◌, ◌-◌, ◌≤◌}
use native.Mathlib.Omega.{arith}
use borrow.Author.Tests.{ne_eqb}
use lib.Dec.{eqb}
use Rattle.commands.specs.declared.answer.CommandAnswer.{CommandAnswer}
use Rattle.commands.specs.declared.answer.CommandAnswer.TheVariants.{Taken, Unknown, OutOfRange}
use Rattle.commands.specs.Command.{command_number}
use Rattle.engine.specs.Answer.{Answer, Refused, Nothing, Acknowledged, NotAcknowledged, Command, Read}
use Rattle.engine.specs.Event.{number_of}

abbrev pub NoRefusal : Answer → Type 0
NoRefusal (Refused k) = ⊥
NoRefusal Nothing = Unit
NoRefusal Acknowledged = Unit
NoRefusal NotAcknowledged = Unit
NoRefusal (Command a) = Unit
NoRefusal (Read b) = Unit

pub not_refused : (a : Answer) → ((r : ℕ) → a ≡ Refused r → ⊥) → NoRefusal a
not_refused (Refused r) n = absurd (n r refl)
not_refused Nothing n = tt
not_refused Acknowledged n = tt
not_refused NotAcknowledged n = tt
not_refused (Command a) n = tt
not_refused (Read b) n = tt

pub command-numbers : (a : CommandAnswer) → (259 ≤ command_number a) × (command_number a ≤ 261)
command-numbers Taken = (omega arith, omega arith)
command-numbers Unknown = (omega arith, omega arith)
command-numbers OutOfRange = (omega arith, omega arith)

pub no-refusal-number : (a : Answer) → NoRefusal a → 256 ≤ number_of a
no-refusal-number (Refused k) n = absurd n
no-refusal-number Nothing n = omega arith
no-refusal-number Acknowledged n = omega arith
no-refusal-number NotAcknowledged n = omega arith
no-refusal-number (Command a) n = omega (arith, (command-numbers a).0)
no-refusal-number (Read b) n = omega arith

-- ---- from a number back to the answer

answer_for : ℕ → Answer
answer_for n =
    cond (eqb n 256) Nothing
    (cond (eqb n 257) Acknowledged
    (cond (eqb n 258) NotAcknowledged
    (cond (eqb n 259) (Command Taken)
    (cond (eqb n 260) (Command Unknown)
    (cond (eqb n 261) (Command OutOfRange)
    (Read (n - 512)))))))

answer_back : (a : Answer) → NoRefusal a → answer_for (number_of a) ≡ a
unfolding answer_for
answer_back (Refused k) n = absurd n
answer_back Nothing n = refl
answer_back Acknowledged n = refl
answer_back NotAcknowledged n = refl
answer_back (Command Taken) n = refl
answer_back (Command Unknown) n = refl
answer_back (Command OutOfRange) n = refl
answer_back (Read b) n =
    let back : 512 + b - 512 ≡ b = omega arith in
    simp (
      ne_eqb (512 + b) 256 (λ q. omega arith),
      ne_eqb (512 + b) 257 (λ q. omega arith),
      ne_eqb (512 + b) 258 (λ q. omega arith),
      ne_eqb (512 + b) 259 (λ q. omega arith),
      ne_eqb (512 + b) 260 (λ q. omega arith),
      ne_eqb (512 + b) 261 (λ q. omega arith),
      back,
    )

-- no two of them have the same number
pub same_answer : (a b : Answer) → NoRefusal a → NoRefusal b → number_of a ≡ number_of b → a ≡ b
same_answer a b na nb e = sym (answer_back a na) ∙ ap answer_for e ∙ answer_back b nb
