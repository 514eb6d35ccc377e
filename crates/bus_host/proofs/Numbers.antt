-- The numbers of a bus's answers: none of an accepted event is a refusal's, and which of them tell that the byte is acknowledged.
use mathlib.Core.Bool.{Bool, true, false, ◌&&◌}
use mathlib.Core.Path.{◌≡◌, refl, sym}
use Prim.Native.Nat.{ℕ, ◌+◌}
use native.Mathlib.Omega.{arith}
use borrow.Author.Tests.{ne_eqb, lt-leb}
use Rattle.commands.specs.declared.answer.CommandAnswer.{CommandAnswer}
use Rattle.commands.specs.declared.answer.CommandAnswer.TheVariants.{Taken, Unknown, OutOfRange}
use Rattle.commands.specs.Command.{command_number}
use Rattle.engine.specs.Answer.{Answer, Refused, Nothing, Acknowledged, NotAcknowledged, Command, Read}
use Rattle.engine.specs.Event.{number_of, is_acknowledged}
use Rattle.engine.proofs.Numbers.{NoRefusal, not_refused}
use Rattle.bus.specs.Bus.{Bus}
use Rattle.bus.specs.Refusals.{bus_refusal}
use Rattle.bus.specs.Step.{bus_step_of}
use Rattle.bus.proofs.Laws.{never-refused}
use Rattle.bus_host.specs.BusCall.{tells_acknowledge}

and-false : (t : Bool) → t && false ≡ false
and-false true = refl
and-false false = refl

pub bus-answers : (e k : ℕ) (b : Bus) → bus_refusal e k b ≡ 0 → NoRefusal (bus_step_of e k b).answer
bus-answers e k b h = not_refused (bus_step_of e k b).answer (never-refused e k b h)

pub command-tells : (a : CommandAnswer) → tells_acknowledge (command_number a) ≡ true
command-tells Taken = refl
command-tells Unknown = refl
command-tells OutOfRange = refl

-- the numbers by which a byte is acknowledged
pub acknowledge-told : (a : Answer) → NoRefusal a → is_acknowledged a ≡ tells_acknowledge (number_of a)
unfolding is_acknowledged
acknowledge-told (Refused k) n = absurd n
acknowledge-told Nothing n = refl
acknowledge-told Acknowledged n = refl
acknowledge-told NotAcknowledged n = refl
acknowledge-told (Command a) n = sym (command-tells a)
acknowledge-told (Read b) n = simp (ne_eqb (512 + b) 257 (λ q. omega arith), lt-leb (512 + b) 261 (omega arith), and-false)
