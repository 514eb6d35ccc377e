-- A run gone on with, a run as its steps, and what it counts of them.
use Rattle.std.specs.Prelude.{List, [], ◌∷◌, ◌≡◌, ℕ, zero, suc, ◌+◌, ◌<◌, ◌≤◌, get_or, length}
use Rattle.registers.specs.State.{State}
use Rattle.chip.specs.LastWriter.{before}
use Rattle.chip.specs.Promised.{CommandAnswer, counts_as, Outcome, run_from, refusal_of, entry_refusal, step_of}

-- o where it was stopped, else the events that follow
abbrev pub onward : ℕ → Outcome → Outcome → Outcome
onward zero o rest = rest
onward (suc k) o rest = o

abbrev pub continued : Outcome → List ℕ → Outcome
continued o es = onward o.refusal o (run_from o.done es o.state)

-- o is what the events es come to from s, step by step
pub record StepByStep (es : List ℕ) (s : State) (o : Outcome) : Type 0 where
  -- it ends in the state that its first `done` steps leave
  pub ends : o.state ≡ before es o.done s
  pub no_more : o.done ≤ length es
  -- none of those was refused
  pub accepted : (i : ℕ) → i < o.done → refusal_of (get_or es i 0) (before es i s) ≡ 0
  -- where events are left, the next one was refused, by this number
  pub stopped : o.done < length es → o.refusal ≡ refusal_of (get_or es o.done 0) (before es o.done s)
  pub refused : o.done < length es → o.refusal ≡ 0 → ⊥
  -- where none is left, only the entry can have refused
  pub finished : o.done ≡ length es → o.refusal ≡ entry_refusal s

-- how many commands among the first n steps got answer k
abbrev pub tally_over : CommandAnswer → List ℕ → ℕ → State → ℕ
tally_over k [] n s = 0
tally_over k (e ∷ es) zero s = 0
tally_over k (e ∷ es) (suc n) s = counts_as k (step_of e s).answer + tally_over k es n (step_of e s).state
