-- A run over a sequence of events: up to the first refused one; earlier events stand; and how many of its commands got an answer.
use Rattle.std.specs.Prelude.{List, [], ◌∷◌, ℕ, zero, suc, ◌+◌}
use Rattle.registers.specs.State.{State}
use Rattle.commands.specs.declared.answer.CommandAnswer.{CommandAnswer}
use Rattle.engine.specs.Event.{counts_as}
use Rattle.engine.specs.Step.{entry_refusal, refusal_of, accepted}

pub record Outcome : Type 0 where
  pub done : ℕ
  pub refusal : ℕ
  pub state : State

abbrev pub outcome : ℕ → ℕ → State → Outcome
outcome n k s = record { done = n; refusal = k; state = s }

-- refused by k after n events, or what else comes
abbrev pub unless_stopped : ℕ → ℕ → State → Outcome → Outcome
unless_stopped zero n s rest = rest
unless_stopped (suc k) n s rest = outcome n (suc k) s

-- the events that are left, n being done
unfoldable pub run_from : ℕ → List ℕ → State → Outcome
run_from n [] s = outcome n 0 s
run_from n (e ∷ es) s = unless_stopped (refusal_of e s) n s (run_from (n + 1) es (accepted e s).state)

-- 1 and 2 are tested at entry, even with no events
unfoldable pub run_of : List ℕ → State → Outcome
run_of es s = unless_stopped (entry_refusal s) 0 s (run_from 0 es s)

-- ---- how the commands among the events done were answered

abbrev pub count_unless : ℕ → ℕ → ℕ
count_unless zero n = n
count_unless (suc k) n = 0

-- how many commands got answer k, up to the first refused event, which the first is where the entry refuses
unfoldable pub tally : CommandAnswer → List ℕ → State → ℕ
tally k [] s = 0
tally k (e ∷ es) s = count_unless (refusal_of e s) (counts_as k (accepted e s).answer + tally k es (accepted e s).state)
