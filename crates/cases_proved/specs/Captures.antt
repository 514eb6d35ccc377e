-- Wrong replays: what a chosen capture comes to, and what a wrong program would make of it.
use Rattle.std.specs.Prelude.{List, [], ◌∷◌, ℕ}
use Prim.Native.String.{String}
use Rattle.cases_proved.specs.Behaviour.{cell, writer}
use Rattle.cases_proved.specs.Cited.{bytes, State, Replay, refused_by, refused_at, replayed}
use Rattle.cases_proved.specs.Observed.{Observation, ◌gives◌not◌}
use Rattle.cases_proved.specs.Start.{zeros}

-- ---- a program that replays, and what can be seen of it

-- from a capture's text and the two memories
abbrev pub Replayer : Type 0
Replayer = List ℕ → List ℕ → List ℕ → Replay

-- the number that refuses the whole, 0 where there is none
abbrev pub number_of_replay : Replay → ℕ
number_of_replay (refused_by k s) = k
number_of_replay (refused_at n s) = 0
number_of_replay (replayed s) = 0

-- the bad line, 0 where there is none
abbrev pub line_of_replay : Replay → ℕ
line_of_replay (refused_by k s) = 0
line_of_replay (refused_at n s) = n
line_of_replay (replayed s) = 0

-- what the events left; where none was played, a chip after reset and the memories as they were lent
abbrev pub state_of_replay : Replay → State
state_of_replay (refused_by k s) = s
state_of_replay (refused_at n s) = s
state_of_replay (replayed s) = s

-- lent memories of these contents
abbrev pub refused_on : List ℕ → List ℕ → String → Replayer → ℕ
refused_on m w text f = number_of_replay (f (bytes text) m w)

abbrev pub bad_line : String → Replayer → ℕ
bad_line text f = line_of_replay (f (bytes text) zeros zeros)

-- what the capture leaves, in lent memories of these contents and in zeros
abbrev pub leaves_on : List ℕ → List ℕ → String → (State → ℕ) → Replayer → ℕ
leaves_on m w text part f = part (state_of_replay (f (bytes text) m w))

abbrev pub replay_leaves : String → (State → ℕ) → Replayer → ℕ
replay_leaves = leaves_on zeros zeros

-- ---- the table

unfoldable pub capture_rows : List (Observation Replayer)
capture_rows =
    -- memories of another length accepted, one or the other; and 1 given for right ones
    refused_on [] zeros "pins\t0\n" gives 1 not 0
    ∷ refused_on zeros [] "pins\t0\n" gives 1 not 0
    ∷ refused_on zeros zeros "pins\t0\n" gives 0 not 1
    -- a refused memory overwritten, one or the other
    ∷ leaves_on (7 ∷ []) zeros "pins\t0\n" (cell 0 0) gives 7 not 0
    ∷ leaves_on zeros (7 ∷ []) "pins\t0\n" (writer 0 0) gives 7 not 0
    -- the first marked stream: nothing replayed, and events counted from 0
    ∷ replay_leaves "pins\t0\n256\n120\n128\n1\n128\n133\n128\n66\n64\n167\n257\n" (cell 5 2) gives 167 not 0
    ∷ replay_leaves "pins\t0\n256\n120\n128\n1\n128\n133\n128\n66\n64\n167\n257\n" (writer 5 2) gives 10 not 9
    -- a cell that is written twice: the first writer named
    ∷ replay_leaves "pins\t0\n256\n120\n64\n7\n256\n120\n128\n128\n64\n8\n" (writer 0 0) gives 10 not 4
    -- the pins not asked
    ∷ replay_leaves "pins\t1\n256\n120\n64\n167\n" (cell 0 0) gives 0 not 167
    -- a refused event that undoes those before it, and one that is passed over
    ∷ replay_leaves "pins\t0\n256\n120\n64\n167\n261\n" (cell 0 0) gives 167 not 0
    ∷ replay_leaves "pins\t0\n256\n120\n64\n261\n167\n" (cell 0 0) gives 0 not 167
    -- an empty capture, a first line without its newline, another word, and pins 4 replayed
    ∷ bad_line "" gives 1 not 0
    ∷ bad_line "pins\t0" gives 1 not 0
    ∷ bad_line "pin\t0\n" gives 1 not 0
    ∷ bad_line "pins\t4\n" gives 1 not 0
    -- a capture of no events refused
    ∷ bad_line "pins\t0\n" gives 0 not 1
    -- a last line without its newline replayed
    ∷ bad_line "pins\t0\n256" gives 2 not 0
    ∷ bad_line "pins\t0\n256\nx" gives 3 not 0
    -- an event that is not listed replayed; lines counted from 0; a later fault given
    ∷ bad_line "pins\t0\n256\n261\n257\n" gives 3 not 0
    ∷ bad_line "pins\t0\n256\n261\n257\n" gives 3 not 2
    ∷ bad_line "pins\t0\n261\nx\n" gives 2 not 3
    -- a leading zero, four digits and an empty line replayed
    ∷ bad_line "pins\t0\n0256\n" gives 2 not 0
    ∷ bad_line "pins\t0\n1000\n" gives 2 not 0
    ∷ bad_line "pins\t0\n\n256\n" gives 2 not 0
    ∷ []
