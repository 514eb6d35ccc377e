-- A step and a run past their entry: 1 and 2 have been tested, and are not tested again. What both let pass stays so after any accepted event, so that
-- from such a state these are the step and the run themselves (proofs/PastEntry.antt). They are stated from every other state too: there 3, 4 and 16
-- refuse as they do here.
use Rattle.std.specs.Prelude.{Bool, cond, List, [], ◌∷◌, ◌⊎◌, ◌≡◌, ℕ, zero, suc, ◌+◌}
use Rattle.registers.specs.Refusals.{◌then◌}
use Rattle.registers.specs.State.{State}
use Rattle.commands.specs.declared.answer.CommandAnswer.{CommandAnswer}
use Rattle.engine.specs.Answer.{Answer, Refused, Nothing}
use Rattle.engine.specs.Event.{counts_as}
use Rattle.engine.specs.Run.{Outcome, outcome, unless_stopped, count_unless}
use Rattle.engine.specs.Step.{After, entry_refusal, event_refusal, pixel_refusal, accepted, unless_refused}

-- what is tested at each event: 3, 4 and 16
unfoldable pub refusal_past_entry : ℕ → State → ℕ
refusal_past_entry e s = event_refusal e s.count then pixel_refusal e s.chip s.memory

-- a refusal that can come past the entry, or none
abbrev pub PastEntryNumber : ℕ → Type 0
PastEntryNumber k = (k ≡ 0) ⊎ ((k ≡ 3) ⊎ ((k ≡ 4) ⊎ (k ≡ 16)))

unfoldable pub step_past_entry : ℕ → State → After
step_past_entry e s = unless_refused (refusal_past_entry e s) (accepted e s) s

-- the events that are left, n being done
unfoldable pub run_past_entry : ℕ → List ℕ → State → Outcome
run_past_entry n [] s = outcome n 0 s
run_past_entry n (e ∷ es) s = unless_stopped (refusal_past_entry e s) n s (run_past_entry (n + 1) es (accepted e s).state)

-- how many of their commands got answer k
unfoldable pub tally_past_entry : CommandAnswer → List ℕ → State → ℕ
tally_past_entry k [] s = 0
tally_past_entry k (e ∷ es) s =
    count_unless (refusal_past_entry e s) (counts_as k (accepted e s).answer + tally_past_entry k es (accepted e s).state)

abbrev pub answer_unless : ℕ → Answer → Answer
answer_unless zero a = a
answer_unless (suc k) a = Refused (suc k)

-- the answer to the last of them that was tried, a refused one's too; a is the answer to the one before
abbrev pub answer_past_entry : List ℕ → State → Answer → Answer
answer_past_entry [] s a = a
answer_past_entry (e ∷ es) s a =
    answer_unless (refusal_past_entry e s) (answer_past_entry es (accepted e s).state (accepted e s).answer)

-- ---- the same with the entry, whose tests the caller has made or not

abbrev pub entry_unless : Bool → State → ℕ
entry_unless tested s = cond tested 0 (entry_refusal s)

abbrev pub run_from_entry : Bool → List ℕ → State → Outcome
run_from_entry tested es s = unless_stopped (entry_unless tested s) 0 s (run_past_entry 0 es s)

abbrev pub tally_from_entry : Bool → CommandAnswer → List ℕ → State → ℕ
tally_from_entry tested k es s = count_unless (entry_unless tested s) (tally_past_entry k es s)

abbrev pub answer_from_entry : Bool → List ℕ → State → Answer
answer_from_entry tested es s = answer_unless (entry_unless tested s) (answer_past_entry es s Nothing)

abbrev pub step_from_entry : Bool → ℕ → State → After
step_from_entry tested e s = unless_refused (entry_unless tested s then refusal_past_entry e s) (accepted e s) s
