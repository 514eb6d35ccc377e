-- Document 01, "Worked and marked", and what document 02 adds to it: the marked cases, one table. Each is a test of the definitions that antt computes.
use Rattle.std.specs.Prelude.{Bool, true, false, cond, ◌&&◌, List, [], ◌∷◌, ◌++◌, ℕ, suc, ◌+◌, ◌*◌, leb, eqb}
use Prim.Native.String.{String}
use Rattle.cases_proved.specs.Cited.{get_or, length, replicate, Registers, Chip, H, DO, PD, «V», D, E, MX, MY, PS, X, Y, DP, GS3, DOF}
use Rattle.cases_proved.specs.Cited.{values, in_phase, State, state, EndlessBytes, answerNumber, step_of}
use Rattle.cases_proved.specs.Cited.{bytes, same_bytes, Numbers, Result, compile_of, numbers_of}
use Rattle.cases_proved.specs.Cited.{Pixel, dark, undriven, uses, shown_number, pixel_on, glass_of, pulses_number, pulses_of}
use Rattle.cases_proved.specs.Start.{Setting, ◌is◌, chip_with, zeros, one_cell, viewed}
use Rattle.cases_proved.specs.Glasses.{mode01}
use Rattle.cases_proved.specs.Pulses.{told}

pub data Case : Type 0 where
  -- after reset, with these registers set, a display byte leaves these
  counter : List Setting → List Setting → Case
  -- after reset, with these registers set, this command byte leaves these
  command : List Setting → ℕ → List Setting → Case
  -- after reset, with these registers set, this command byte gets the answer with this number
  answered : List Setting → ℕ → ℕ → Case
  -- after reset, with these registers set, this display byte is stored so at this place
  stored : List Setting → ℕ → ℕ → ℕ → Case
  -- after reset, with these registers set and A7h in column 5 of bank 2, the rows of the glass from this one on use these grey registers in that column
  greys : List Setting → ℕ → List ℕ → Case
  -- after reset, with these registers set, these rows of the glass are driven, and those are not
  driven : List Setting → List ℕ → List ℕ → Case
  -- in mode 01 with the display on, where every pixel uses grey register 3, and with this number in it, a pixel gets these pulses in frames 0 to 3
  pulsed : ℕ → ℕ → ℕ → ℕ → ℕ → Case
  -- after reset, with these registers set, this list compiles to these events, which take so many clocks
  streamed : List Setting → String → List ℕ → ℕ → Case
  -- after reset, this list's first line gives this number, 0 where it is accepted
  answered_by : String → ℕ → Case

-- ---- what a case says

abbrev pub agrees : List Setting → Registers → Bool
agrees [] r = true
agrees (a ∷ rest) r = eqb (get_or (values r) a.register 0) a.value && agrees rest r

-- a chip after reset with these registers set, and bytes with this RS awaited; all memory 0, and the count too
abbrev pub prepared : List Setting → Bool → State
prepared before rs = state (in_phase (chip_with before) (EndlessBytes rs)) zeros zeros 0

abbrev pub uses_register : ℕ → Pixel → Bool
uses_register g dark = false
uses_register g undriven = false
uses_register g (uses f) = eqb f g

-- what a row shows in the cell's column, as a number
abbrev pub shows : Chip → ℕ → ℕ
shows c row = shown_number (glass_of c one_cell row 5)

-- each row's register is used, and its level is shown
abbrev pub use_these : Chip → ℕ → List ℕ → Bool
use_these c row [] = true
use_these c row (g ∷ gs) = uses_register g (pixel_on c one_cell row 5) && eqb (shows c row) (512 + 40 + g) && use_these c (suc row) gs

-- a row that is driven shows a level
abbrev pub all_driven : Chip → List ℕ → Bool
all_driven c [] = true
all_driven c (row ∷ rows) = leb 512 (shows c row) && all_driven c rows

abbrev pub none_driven : Chip → List ℕ → Bool
none_driven c [] = true
none_driven c (row ∷ rows) = eqb (shows c row) 257 && none_driven c rows

-- a list compiled into an output of so many words, all 999
abbrev pub compiled : List Setting → String → ℕ → Result
compiled before text n = compile_of (chip_with before) (bytes text) (replicate n 999)

-- the events, and after them the output as it was
abbrev pub is_stream : Result → List ℕ → ℕ → Bool
is_stream r es clocks =
    eqb (numbers_of r.answer).number 0
    && eqb (numbers_of r.answer).length (length es)
    && eqb (numbers_of r.answer).clocks clocks
    && same_bytes r.out (es ++ 999 ∷ [])

-- the number, for line 1 where it is not 0
abbrev pub is_answered : Numbers → ℕ → Bool
is_answered given k = eqb given.number k && eqb given.line (cond (eqb k 0) 0 1)

unfoldable pub holds : Case → Bool
holds (counter before after) = agrees after (step_of 0 (prepared before true)).state.chip.registers
holds (command before b after) = agrees after (step_of b (prepared before false)).state.chip.registers
holds (answered before b n) = eqb (answerNumber (step_of b (prepared before false)).answer) n
holds (stored before b k n) = eqb (get_or (step_of b (prepared before true)).state.memory k 0) n
holds (greys before row gs) = use_these (viewed before) row gs
holds (driven before rows others) = all_driven (viewed before) rows && none_driven (viewed before) others
holds (pulsed held p₀ p₁ p₂ p₃) = eqb (pulses_number (pulses_of (viewed (GS3 is held ∷ mode01)) one_cell 8 5)) (told p₀ p₁ p₂ p₃)
holds (streamed before text es clocks) = is_stream (compiled before text (length es + 1)) es clocks
holds (answered_by text k) = is_answered (numbers_of (compiled [] text 100).answer) k

-- ---- the table

-- START, address, page return, the X command, Y 2, 40h, the data, STOP
abbrev pub put_events : ℕ → ℕ → List ℕ
put_events x byte = 256 ∷ 0x78 ∷ 0x80 ∷ 0x01 ∷ 0x80 ∷ x ∷ 0x80 ∷ 0x42 ∷ 0x40 ∷ byte ∷ 257 ∷ []

unfoldable pub marked : List Case
marked =
    -- put 5 2 167: 11 events, 81 clocks
    streamed [] "put\t5\t2\t167\n" (put_events 0x85 0xA7) 81
    -- the same with MX = 1, and with DO = 1
    ∷ streamed (MX is 1 ∷ []) "put\t5\t2\t167\n" (put_events 0xDF 0xA7) 81
    ∷ streamed (DO is 1 ∷ []) "put\t5\t2\t167\n" (put_events 0x85 0xE5) 81
    -- bank 16 takes six bits
    ∷ answered_by "put\t0\t16\t64\n" 7
    ∷ answered_by "put\t0\t16\t63\n" 0
    -- counter V = 0, X 100, Y 3: 0, 4
    ∷ counter («V» is 0 ∷ X is 100 ∷ Y is 3 ∷ []) (X is 0 ∷ Y is 4 ∷ [])
    -- V = 1, X 7, Y 16: 8, 0
    ∷ counter («V» is 1 ∷ X is 7 ∷ Y is 16 ∷ []) (X is 8 ∷ Y is 0 ∷ [])
    -- X 100, Y 16: 0, 0 for each V
    ∷ counter («V» is 0 ∷ X is 100 ∷ Y is 16 ∷ []) (X is 0 ∷ Y is 0 ∷ [])
    ∷ counter («V» is 1 ∷ X is 100 ∷ Y is 16 ∷ []) (X is 0 ∷ Y is 0 ∷ [])
    -- that cell in mode 10, with PD, DOF, PS and MY 0: rows 8, 9, 10, 11 use registers 3, 1, 2, 2
    ∷ greys (D is 1 ∷ E is 0 ∷ PD is 0 ∷ DOF is 0 ∷ PS is 0 ∷ MY is 0 ∷ []) 8 (3 ∷ 1 ∷ 2 ∷ 2 ∷ [])
    -- mode 11: 0, 2, 1, 1
    ∷ greys (D is 1 ∷ E is 1 ∷ PD is 0 ∷ DOF is 0 ∷ PS is 0 ∷ MY is 0 ∷ []) 8 (0 ∷ 2 ∷ 1 ∷ 1 ∷ [])
    -- mode 10, MY = 1: glass row 58 uses register 3
    ∷ greys (D is 1 ∷ E is 0 ∷ PD is 0 ∷ DOF is 0 ∷ PS is 0 ∷ MY is 1 ∷ []) 58 (3 ∷ [])
    -- X command E5h (101): X kept. E4h: X 100
    ∷ command (X is 5 ∷ []) 0xE5 (X is 5 ∷ [])
    ∷ command (X is 5 ∷ []) 0xE4 (X is 100 ∷ [])
    -- bank 16, DO 0, FFh: stored 3Fh
    ∷ stored (DO is 0 ∷ Y is 16 ∷ []) 0xFF (101 * 16) 0x3F
    -- PS 1, DP 111, MY 1: glass rows 3..10 driven, 2 and 11 not
    ∷ driven (PD is 0 ∷ DOF is 0 ∷ PS is 1 ∷ DP is 0b111 ∷ MY is 1 ∷ []) (3 ∷ 4 ∷ 5 ∷ 6 ∷ 7 ∷ 8 ∷ 9 ∷ 10 ∷ []) (2 ∷ 11 ∷ [])
    -- document 02, W4: level 17 is 4, 4, 4, 5; 30 is 7, 8, 7, 8; a register of 63 is 16 four times
    ∷ pulsed 17 4 4 4 5
    ∷ pulsed 30 7 8 7 8
    ∷ pulsed 63 16 16 16 16
    -- document 02, W5: X 101 is out of range, X 100 is taken; 85h is X 5 in page 0, and unknown in page 1
    ∷ answered [] 0xE5 261
    ∷ answered [] 0xE4 259
    ∷ answered [] 0x85 259
    ∷ answered (H is 1 ∷ []) 0x85 260
    ∷ []
