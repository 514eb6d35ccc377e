-- A run in the words of `run_of` and `step_of` alone: one event, and a run after a run.
use Rattle.std.specs.Prelude.{List, ℕ, zero, suc, ◌+◌}
use Rattle.registers.specs.State.{State}
use Rattle.chip.specs.Promised.{Outcome, outcome, run_of}
use Rattle.chip.specs.Runs.{onward}

-- one event: refused by the number, or done, with the state that it leaves
abbrev pub ran_one : ℕ → State → Outcome
ran_one zero s = outcome 1 0 s
ran_one (suc k) s = outcome 0 (suc k) s

-- n events were done before
abbrev pub more_done : ℕ → Outcome → Outcome
more_done n o = outcome (n + o.done) o.refusal o.state

-- o where it was stopped, else the run over the events that follow, from where o ended
abbrev pub then_run : Outcome → List ℕ → Outcome
then_run o es = onward o.refusal o (more_done o.done (run_of es o.state))
