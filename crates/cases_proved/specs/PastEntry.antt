-- Wrong steps and runs past the entry (document 02, W9): what they test, and what they do.
use Rattle.std.specs.Prelude.{List, [], ◌∷◌, ◌-◌, ◌^◌}
use Rattle.cases_proved.specs.Cited.{X}
use Rattle.cases_proved.specs.Behaviour.{Behaviour, count, cell, writer, leave, answer, run_leaves, run_done, run_refusal, run_unknown, run_out_of_range}
use Rattle.cases_proved.specs.Behaviour.{START, STOP, nothing, acknowledged, commands, display_bytes}
use Rattle.cases_proved.specs.Observed.{Observation, ◌gives◌not◌}
use Rattle.cases_proved.specs.Start.{◌is◌, upon, counting, having, lent}

unfoldable pub past_entry_rows : List (Observation Behaviour)
past_entry_rows =
    -- 1 and 2 tested all the same: by a step, by a run with no events, at a later event
    answer (lent 1716 1717 (upon [])) [] START gives nothing not 1
    ∷ answer (upon (X is 101 ∷ [])) [] START gives nothing not 2
    ∷ run_refusal (lent 1717 1718 (upon [])) [] gives 0 not 1
    ∷ run_refusal (upon (X is 101 ∷ [])) [] gives 0 not 2
    ∷ run_done (lent 1716 1717 (upon [])) (START ∷ STOP ∷ []) gives 2 not 1
    ∷ run_done (upon (X is 101 ∷ [])) (START ∷ STOP ∷ []) gives 2 not 1
    -- 3, 4 and 16 not tested: by a step, and at a later event of a run
    ∷ answer (upon []) [] 261 gives 3 not nothing
    ∷ answer (counting (2 ^ 64 - 1) (upon [])) [] START gives 4 not nothing
    ∷ answer (having 3 0 0 0 (upon [])) (display_bytes []) 0xFF gives 16 not acknowledged
    ∷ run_refusal (upon []) (START ∷ 261 ∷ []) gives 3 not 0
    ∷ run_refusal (counting (2 ^ 64 - 2) (upon [])) (START ∷ STOP ∷ []) gives 4 not 0
    ∷ run_refusal (having 4 0 0 0 (upon [])) (display_bytes (0xFF ∷ 0xFF ∷ [])) gives 16 not 0
    -- 4 before 3
    ∷ answer (counting (2 ^ 64 - 1) (upon [])) [] 261 gives 3 not 4
    -- a refused event that is counted, is done, or undoes what came before; one after it that is done
    ∷ leave (upon []) (261 ∷ []) count gives 0 not 1
    ∷ leave (having 3 0 0 0 (upon [])) (display_bytes (0xFF ∷ [])) (cell 0 0) gives 0 not 0xFF
    ∷ run_leaves (upon []) (START ∷ 261 ∷ STOP ∷ []) count gives 1 not 0
    ∷ run_leaves (upon []) (START ∷ 261 ∷ STOP ∷ []) count gives 1 not 2
    -- an accepted event that is not done, or has another number
    ∷ leave (upon []) (display_bytes (0xA7 ∷ [])) (cell 0 0) gives 0xA7 not 0
    ∷ leave (upon []) (display_bytes (0xA7 ∷ [])) (writer 0 0) gives 4 not 3
    -- the counts of commands exchanged
    ∷ run_unknown (upon []) (commands (0x02 ∷ 0xE5 ∷ 0x02 ∷ [])) gives 2 not 1
    ∷ run_out_of_range (upon []) (commands (0x02 ∷ 0xE5 ∷ 0x02 ∷ [])) gives 1 not 2
    ∷ []
