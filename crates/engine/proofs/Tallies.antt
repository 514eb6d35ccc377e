-- What a run counts: an event once at most, and none where the entry refuses.
use mathlib.Core.List.{List, [], ◌∷◌}
use mathlib.Core.Path.{◌≡◌, refl}
use Prim.Native.Nat.{ℕ, zero, suc, ◌≤◌, zero-le}
use Rattle.registers.specs.State.{State}
use Rattle.commands.specs.declared.answer.CommandAnswer.{CommandAnswer}
use Rattle.commands.proofs.Answers.{counts-once}
use Rattle.engine.specs.Answer.{Answer, Refused, Nothing, Acknowledged, NotAcknowledged, Command, Read}
use Rattle.engine.specs.Event.{counts_as}
use Rattle.engine.specs.Run.{tally}
use Rattle.engine.specs.Step.{entry_refusal, refusal_of}

as-once : (k : CommandAnswer) (a : Answer) → counts_as k a ≤ 1
as-once k (Refused n) = zero-le
as-once k Nothing = zero-le
as-once k Acknowledged = zero-le
as-once k NotAcknowledged = zero-le
as-once k (Command a) = counts-once k a
as-once k (Read b) = zero-le

-- u is what an answer counts
pub counted-once : (k : CommandAnswer) (u : ℕ) (a : Answer) → u ≡ counts_as k a → u ≤ 1
counted-once k u a e = rw e (as-once k a)

-- where the entry refuses, the first event is refused
pub tally-refused : (k : CommandAnswer) (es : List ℕ) (s : State) (x : ℕ) → x ≡ entry_refusal s → (x ≡ 0 → ⊥) → 0 ≡ tally k es s
unfolding tally refusal_of
tally-refused k [] s x e n = refl
tally-refused k (v ∷ es) s zero e n = absurd (n refl)
tally-refused k (v ∷ es) s (suc y) e n = rw (← e)
