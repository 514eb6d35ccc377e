-- Wrong glasses: what a chosen chip and memory show, and what a wrong glass would show of them.
use Rattle.std.specs.Prelude.{Result, List, [], ◌∷◌, ◌++◌, ℕ, ◌+◌}
use Rattle.cases_proved.specs.Cited.{PD, D, E, MX, MY, PS, X, DP, GS0, GS1, GS2, GS3, DOF, Chip, Shown, shown_number, cell_number, glass_of, cell_of, replicate}
use Rattle.cases_proved.specs.Observed.{Observation, ◌gives◌not◌}
use Rattle.cases_proved.specs.Start.{Setting, ◌is◌, one_cell, viewed}

-- ---- a glass, and what can be seen of it

-- what a row and column show, and at which place of the memories that stands
pub record Glass : Type 0 where
  pub shows : Chip → List ℕ → ℕ → ℕ → Result Shown ℕ
  pub stands : Chip → ℕ → ℕ → Result ℕ ℕ

unfoldable pub glass : Glass
glass = record { shows = glass_of; stands = cell_of }

-- a row and column of the glass over a memory that holds A7h in column 5 of bank 2, as a number
abbrev pub shown : List Setting → ℕ → ℕ → Glass → ℕ
shown before row column g = shown_number (g.shows (viewed before) one_cell row column)

-- the same over a memory of so many bytes, all 0
abbrev pub shown_over : ℕ → List Setting → ℕ → ℕ → Glass → ℕ
shown_over n before row column g = shown_number (g.shows (viewed before) (replicate n 0) row column)

abbrev pub place : List Setting → ℕ → ℕ → Glass → ℕ
place before row column g = cell_number (g.stands (viewed before) row column)

-- ---- settings and answers by name

-- the display on, in one of the four modes of D and E
abbrev pub mode00 : List Setting
mode00 = PD is 0 ∷ DOF is 0 ∷ D is 0 ∷ E is 0 ∷ []

abbrev pub mode01 : List Setting
mode01 = PD is 0 ∷ DOF is 0 ∷ D is 0 ∷ E is 1 ∷ []

abbrev pub mode10 : List Setting
mode10 = PD is 0 ∷ DOF is 0 ∷ D is 1 ∷ E is 0 ∷ []

abbrev pub mode11 : List Setting
mode11 = PD is 0 ∷ DOF is 0 ∷ D is 1 ∷ E is 1 ∷ []

-- the partial display
abbrev pub part : ℕ → List Setting
part dp = PS is 1 ∷ DP is dp ∷ []

abbrev pub dark : ℕ
dark = 256

abbrev pub undriven : ℕ
undriven = 257

abbrev pub level : ℕ → ℕ
level n = 512 + n

-- the level of grey register g, which is 40 + g
abbrev pub grey : ℕ → ℕ
grey g = level (40 + g)

abbrev pub at : ℕ → ℕ
at k = 512 + k

-- ---- the table

unfoldable pub glass_rows : List (Observation Glass)
glass_rows =
    -- the byte is 10 10 01 11: read from the top; the lower bit worth 2
    shown mode10 8 5 gives grey 3 not grey 2
    ∷ shown mode10 9 5 gives grey 1 not grey 2
    -- modes 10 and 11 exchanged
    ∷ shown mode10 8 5 gives grey 3 not grey 0
    ∷ shown mode11 8 5 gives grey 0 not grey 3
    -- the value shown in modes 00 and 01, and the two exchanged
    ∷ shown mode00 9 5 gives grey 0 not grey 1
    ∷ shown mode01 9 5 gives grey 3 not grey 1
    ∷ shown mode00 9 5 gives grey 0 not grey 3
    -- the number of the grey register for its level
    ∷ shown mode10 8 5 gives level 43 not level 3
    -- 63 shown as 63, in each of the four registers
    ∷ shown (GS0 is 63 ∷ mode10) 7 5 gives level 64 not level 63
    ∷ shown (GS1 is 63 ∷ mode10) 9 5 gives level 64 not level 63
    ∷ shown (GS2 is 63 ∷ mode10) 10 5 gives level 64 not level 63
    ∷ shown (GS3 is 63 ∷ mode10) 8 5 gives level 64 not level 63
    -- 62 shown as 63, and as 64; every level one higher
    ∷ shown (GS3 is 62 ∷ mode10) 8 5 gives level 62 not level 63
    ∷ shown (GS3 is 62 ∷ mode10) 8 5 gives level 62 not level 64
    ∷ shown (GS3 is 0 ∷ mode10) 8 5 gives level 0 not level 1
    -- 64 where another register holds 63, and where the pixel is dark or undriven
    ∷ shown (GS0 is 63 ∷ mode10) 8 5 gives grey 3 not level 64
    ∷ shown (GS3 is 63 ∷ mode10 ++ DOF is 1 ∷ []) 8 5 gives dark not level 64
    ∷ shown (GS3 is 63 ∷ mode10 ++ part 0b000) 8 5 gives undriven not level 64
    -- a register that holds 64
    ∷ shown (GS3 is 64 ∷ mode10) 8 5 gives 2 not level 64
    -- MX applied when showing
    ∷ shown (MX is 1 ∷ mode10) 8 5 gives grey 3 not grey 0
    ∷ shown (MX is 1 ∷ mode10) 8 95 gives grey 0 not grey 3
    -- MY ignored, and rows mirrored from 67
    ∷ shown (MY is 1 ∷ mode10) 58 5 gives grey 3 not grey 0
    ∷ shown (MY is 1 ∷ mode10) 8 5 gives grey 0 not grey 3
    ∷ shown (MY is 1 ∷ mode10) 59 5 gives grey 0 not grey 3
    -- eight rows to a bank, and the next column
    ∷ shown mode10 16 5 gives grey 0 not grey 3
    ∷ shown mode10 8 6 gives grey 0 not grey 3
    -- PD and DOF not asked
    ∷ shown (mode10 ++ PD is 1 ∷ []) 8 5 gives dark not grey 3
    ∷ shown (mode10 ++ DOF is 1 ∷ []) 8 5 gives dark not grey 3
    -- undriven before dark
    ∷ shown (mode10 ++ part 0b000 ++ PD is 1 ∷ []) 8 5 gives dark not undriven
    ∷ shown (mode10 ++ part 0b000 ++ DOF is 1 ∷ []) 8 5 gives dark not undriven
    -- DP asked where PS = 0
    ∷ shown (DP is 0b000 ∷ mode10) 8 5 gives grey 3 not undriven
    -- the rows that DP 000 and DP 111 drive, to the row
    ∷ shown (mode10 ++ part 0b000) 7 5 gives grey 0 not undriven
    ∷ shown (mode10 ++ part 0b000) 8 5 gives undriven not grey 3
    ∷ shown (mode10 ++ part 0b111) 55 5 gives undriven not grey 0
    ∷ shown (mode10 ++ part 0b111) 56 5 gives grey 0 not undriven
    ∷ shown (mode10 ++ part 0b111) 63 5 gives grey 0 not undriven
    ∷ shown (mode10 ++ part 0b111) 64 5 gives undriven not grey 0
    ∷ shown (mode10 ++ part 0b111) 66 5 gives undriven not grey 0
    -- another DP that drives
    ∷ shown (mode10 ++ part 0b011) 0 5 gives undriven not grey 0
    ∷ shown (mode10 ++ part 0b011) 63 5 gives undriven not grey 0
    -- glass rows driven instead of RAM rows
    ∷ shown (MY is 1 ∷ mode10 ++ part 0b111) 3 5 gives grey 0 not undriven
    ∷ shown (MY is 1 ∷ mode10 ++ part 0b111) 63 5 gives undriven not grey 0
    -- a memory of another length, a record that is not allowed, and row 67 and column 101, let pass
    ∷ shown_over 1716 mode10 8 5 gives 1 not grey 0
    ∷ shown (X is 101 ∷ mode10) 8 5 gives 2 not grey 3
    ∷ shown mode10 67 5 gives 5 not grey 0
    ∷ shown mode10 8 101 gives 5 not grey 0
    -- row 66 and column 100 refused
    ∷ shown mode10 66 100 gives grey 0 not 5
    -- another order: 2 before 1, 5 before 1, 5 before 2
    ∷ shown_over 1716 (X is 101 ∷ mode10) 8 5 gives 1 not 2
    ∷ shown_over 1716 mode10 67 5 gives 1 not 5
    ∷ shown (X is 101 ∷ mode10) 67 5 gives 2 not 5
    -- the place: eight rows to a bank, MX applied, MY ignored, none where it is dark
    ∷ place mode10 8 5 gives at 207 not at 106
    ∷ place (MX is 1 ∷ mode10) 8 5 gives at 207 not at 297
    ∷ place (MY is 1 ∷ mode10) 58 5 gives at 207 not at 1419
    ∷ place (PD is 1 ∷ []) 8 5 gives at 207 not dark
    -- and its refusals
    ∷ place mode10 67 5 gives 5 not at 1621
    ∷ place mode10 8 101 gives 5 not at 303
    ∷ place mode10 66 100 gives at 1716 not 5
    ∷ place (X is 101 ∷ mode10) 67 5 gives 2 not 5
    ∷ []
