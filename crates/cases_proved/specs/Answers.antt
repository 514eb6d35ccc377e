-- Wrong answers of a compiler: what a chosen record, text and output give, and what a wrong compiler would give. Document 01 shuts out by name one that
-- refuses everything, and invented lengths and clocks.
use Rattle.std.specs.Prelude.{List, [], ◌∷◌, ℕ}
use Prim.Native.String.{String}
use Rattle.cases_proved.specs.Cited.{«V», X, Chip, Numbers, Result, numbers_of, bytes, get_or, replicate}
use Rattle.cases_proved.specs.Observed.{Observation, ◌gives◌not◌}
use Rattle.cases_proved.specs.Start.{Setting, ◌is◌, chip_with}

-- ---- a compiler, and what can be seen of it

abbrev pub Compiler : Type 0
Compiler = Chip → List ℕ → List ℕ → Result

-- a text compiled for a chip after reset with these registers set, into an output of so many words, each of which is 999
abbrev pub compiled : List Setting → List ℕ → ℕ → Compiler → Result
compiled before text room f = f (chip_with before) text (replicate room 999)

-- the numbers given back
abbrev pub numbers_given : List Setting → String → ℕ → Compiler → Numbers
numbers_given before text room f = numbers_of (compiled before (bytes text) room f).answer

abbrev pub number : List Setting → String → ℕ → Compiler → ℕ
number before text room f = (numbers_given before text room f).number

abbrev pub line : List Setting → String → ℕ → Compiler → ℕ
line before text room f = (numbers_given before text room f).line

abbrev pub events_given : List Setting → String → ℕ → Compiler → ℕ
events_given before text room f = (numbers_given before text room f).length

abbrev pub clocks : List Setting → String → ℕ → Compiler → ℕ
clocks before text room f = (numbers_given before text room f).clocks

-- a word of the output
abbrev pub word : ℕ → List Setting → String → ℕ → Compiler → ℕ
word i before text room f = get_or (compiled before (bytes text) room f).out i 0

-- the number for a text of so many newlines
abbrev pub number_of_empty_lines : List Setting → ℕ → Compiler → ℕ
number_of_empty_lines before n f = (numbers_of (compiled before (replicate n 10) 0 f).answer).number

-- ---- the table

unfoldable pub answer_rows : List (Observation Compiler)
answer_rows =
    -- a compiler that refuses everything, and one that refuses everything but the empty list
    number [] "" 0 gives 0 not 2
    ∷ number [] "put\t5\t2\t167\n" 11 gives 0 not 9
    -- a record that is not allowed let pass
    ∷ number (X is 101 ∷ []) "" 0 gives 2 not 0
    -- more than 4,096 newlines let pass, and 4,096 refused
    ∷ number_of_empty_lines [] 4097 gives 9 not 6
    ∷ number_of_empty_lines [] 4096 gives 6 not 9
    -- 9 before 2, 6 before 2, 10 before 2
    ∷ number_of_empty_lines (X is 101 ∷ []) 4097 gives 2 not 9
    ∷ number (X is 101 ∷ []) "x\n" 0 gives 2 not 6
    ∷ number (X is 101 ∷ []) "put\t5\t2\t167\n" 0 gives 2 not 10
    -- ---- bad lines: not given, given without their line, lines counted from 0
    ∷ number [] "put\t5\t2\t167\nput\t0\t16\t64\n" 100 gives 7 not 0
    ∷ line [] "put\t5\t2\t167\nput\t0\t16\t64\n" 100 gives 2 not 0
    ∷ line [] "put\t5\t2\t167\nput\t0\t16\t64\n" 100 gives 2 not 1
    ∷ line [] "put\t0\t16\t64\n" 100 gives 1 not 0
    -- the last of them, or the lowest number
    ∷ line [] "put\t0\t16\t64\nx\n" 100 gives 1 not 2
    ∷ number [] "put\t0\t16\t64\nx\n" 100 gives 7 not 6
    -- 10 given before a bad line, and the lines before it written
    ∷ number [] "put\t5\t2\t167\nput\t0\t16\t64\n" 0 gives 7 not 10
    ∷ word 0 [] "put\t5\t2\t167\nput\t0\t16\t64\n" 100 gives 999 not 256
    -- 7 before 6
    ∷ number [] "put\t101\t0\tx\n" 100 gives 6 not 7
    -- a last line without its newline taken
    ∷ number [] "put\t5\t2\t167" 100 gives 6 not 0
    ∷ line [] "put\t5\t2\t167\nput\t5\t2\t167" 100 gives 2 not 1
    -- numbers with a leading zero, of four digits, with none; fields parted by a blank, or by two tabs
    ∷ number [] "put\t05\t2\t167\n" 100 gives 6 not 0
    ∷ number [] "put\t1000\t2\t167\n" 100 gives 6 not 0
    ∷ number [] "put\t\t2\t167\n" 100 gives 6 not 0
    ∷ number [] "put\t5 2\t167\n" 100 gives 6 not 0
    ∷ number [] "put\t5\t\t2\t167\n" 100 gives 6 not 0
    -- numbers out of range, and a value cut to a byte
    ∷ number [] "put\t101\t2\t167\n" 100 gives 7 not 0
    ∷ number [] "put\t5\t17\t1\n" 100 gives 7 not 0
    ∷ number [] "put\t5\t2\t256\n" 100 gives 7 not 0
    ∷ number [] "fill\t6\t5\t2\t2\t167\n" 100 gives 7 not 0
    ∷ number [] "fill\t5\t5\t3\t2\t167\n" 100 gives 7 not 0
    ∷ number [] "fill\t5\t5\t15\t16\t64\n" 100 gives 7 not 0
    ∷ number [] "set\tpd\t2\n" 100 gives 7 not 0
    ∷ number [] "set\tpd\t256\n" 100 gives 7 not 0
    -- 64, the level that a grey register of 63 shows, taken as a register's number, and 63 refused
    ∷ number [] "set\tgs0\t64\n" 100 gives 7 not 0
    ∷ number [] "set\tgs0\t63\n" 100 gives 0 not 7
    -- 64 sent for 63
    ∷ word 9 [] "set\tgs0\t63\n" 13 gives 0b1011_1111 not 0b1100_0000
    -- fields that no line can name
    ∷ number [] "set\tx\t5\n" 100 gives 6 not 0
    ∷ number [] "set\tgr\t2\n" 100 gives 6 not 0
    -- ---- 10: an output that is too short written, or under another number, or with another length
    ∷ number [] "put\t5\t2\t167\n" 10 gives 10 not 0
    ∷ number [] "put\t5\t2\t167\n" 10 gives 10 not 9
    ∷ word 0 [] "put\t5\t2\t167\n" 10 gives 999 not 256
    ∷ events_given [] "put\t5\t2\t167\n" 10 gives 11 not 10
    -- a word more asked for than is needed, and the rest of the output written
    ∷ number [] "put\t5\t2\t167\n" 11 gives 0 not 10
    ∷ word 10 [] "put\t5\t2\t167\n" 12 gives 257 not 999
    ∷ word 11 [] "put\t5\t2\t167\n" 12 gives 999 not 0
    -- ---- length and clocks: invented, of one run, with START and STOP, one for the other
    ∷ events_given [] "" 0 gives 0 not 1
    ∷ events_given [] "put\t5\t2\t167\n" 11 gives 11 not 81
    ∷ clocks [] "put\t5\t2\t167\n" 11 gives 81 not 99
    ∷ events_given [] "fill\t5\t7\t2\t3\t167\n" 26 gives 26 not 16
    ∷ clocks [] "fill\t5\t7\t2\t3\t167\n" 26 gives 198 not 234
    ∷ events_given («V» is 1 ∷ []) "fill\t5\t7\t2\t3\t167\n" 36 gives 36 not 26
    ∷ clocks («V» is 1 ∷ []) "fill\t5\t7\t2\t3\t167\n" 36 gives 270 not 324
    ∷ events_given [] "set\tv\t1\n" 7 gives 7 not 6
    ∷ clocks [] "set\tv\t1\n" 7 gives 45 not 63
    ∷ events_given [] "set\tmx\t1\n" 11 gives 11 not 7
    ∷ events_given [] "set\tgs2\t33\n" 13 gives 13 not 11
    ∷ clocks [] "set\tgs2\t33\n" 13 gives 99 not 117
    ∷ events_given [] "set\tv\t1\nfill\t5\t7\t2\t3\t167\n" 43 gives 43 not 33
    ∷ []
