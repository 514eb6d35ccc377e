-- Wrong calls for samples of the wires: what the calls of a host in C give for chosen words, samples and buffers, and what a wrong one would give.
use Rattle.std.specs.Prelude.{List, [], ◌∷◌, ◌++◌, ℕ, ◌+◌, ◌-◌, ◌/◌, ◌%◌, ◌^◌}
use Rattle.cases_proved.specs.Cited.{UNCLEAR, LAST, STAGE, BITS, VALUE, get_or, replicate, Started, start_call, Called, wires_call}
use Rattle.cases_proved.specs.Observed.{Observation, ◌gives◌not◌}

-- ---- the calls, and what can be seen of them

pub record WireCalls : Type 0 where
  pub begin : List ℕ → Started
  pub feed : List ℕ → List ℕ → List ℕ → Called

unfoldable pub wire_calls : WireCalls
wire_calls = record { begin = start_call; feed = wires_call }

-- the start of so many words, all 77: the number given back, and word k
abbrev pub start_number : ℕ → WireCalls → ℕ
start_number n c = (c.begin (replicate n 77)).number

abbrev pub start_word : ℕ → ℕ → WireCalls → ℕ
start_word n k c = get_or (c.begin (replicate n 77)).words k 0

-- samples fed to a state, with a buffer of so many places, all 999: the number given back, word k of the state, event k, and the other two
abbrev pub fed : List ℕ → List ℕ → ℕ → WireCalls → Called
fed ws ss room c = c.feed ws ss (replicate room 999)

abbrev pub number : List ℕ → List ℕ → ℕ → WireCalls → ℕ
number ws ss room c = (fed ws ss room c).number

abbrev pub word : ℕ → List ℕ → List ℕ → ℕ → WireCalls → ℕ
word k ws ss room c = get_or (fed ws ss room c).words k 0

abbrev pub event : ℕ → List ℕ → List ℕ → ℕ → WireCalls → ℕ
event k ws ss room c = get_or (fed ws ss room c).events k 0

abbrev pub consumed : List ℕ → List ℕ → ℕ → WireCalls → ℕ
consumed ws ss room c = (fed ws ss room c).consumed

abbrev pub written : List ℕ → List ℕ → ℕ → WireCalls → ℕ
written ws ss room c = (fed ws ss room c).written

-- ---- words and samples

abbrev pub state : ℕ → ℕ → ℕ → ℕ → ℕ → List ℕ
state unclear last stage bits value = unclear ∷ last ∷ stage ∷ bits ∷ value ∷ []

-- both lines are high, and no message is open
abbrev pub idle : List ℕ
idle = state 0 3 0 0 0

-- from there a START, and the clock falls
abbrev pub a_start : List ℕ
a_start = 2 ∷ 0 ∷ []

-- while the clock is low: a bit, and the clock falls again
abbrev pub a_bit : ℕ → List ℕ
a_bit b = b ∷ (2 + b) ∷ b ∷ []

-- eight of them, the high one first, and a ninth
abbrev pub a_byte : ℕ → ℕ → List ℕ
a_byte v ninth =
    a_bit (v / 128 % 2) ++ a_bit (v / 64 % 2) ++ a_bit (v / 32 % 2) ++ a_bit (v / 16 % 2) ++ a_bit (v / 8 % 2) ++ a_bit (v / 4 % 2) ++ a_bit (v / 2 % 2)
    ++ a_bit (v % 2) ++ a_bit ninth

-- a START and an address byte: its ninth clock rises in sample 27
abbrev pub an_address : List ℕ
an_address = a_start ++ a_byte 0x78 0

-- ---- the table

unfoldable pub wire_rows : List (Observation WireCalls)
wire_rows =
    -- a buffer of another length let pass, and written
    start_number 4 gives 2 not 0
    ∷ start_number 6 gives 2 not 0
    ∷ start_word 4 LAST gives 77 not 3
    -- five words refused; the lines low before the first sample; words that are not written
    ∷ start_number 5 gives 0 not 2
    ∷ start_word 5 LAST gives 3 not 0
    ∷ start_word 5 UNCLEAR gives 0 not 77
    ∷ start_word 5 VALUE gives 0 not 77
    -- ---- each word let pass above its range, and refused at the end of it
    ∷ number (state 0 4 0 0 0) [] 0 gives 2 not 0
    ∷ number (state 0 3 5 0 0) [] 0 gives 2 not 0
    ∷ number (state 0 3 0 9 0) [] 0 gives 2 not 0
    ∷ number (state 0 3 0 0 256) [] 0 gives 2 not 0
    ∷ number (state (2 ^ 64 - 1) 3 4 8 255) [] 0 gives 0 not 2
    -- each cut to a byte, or to 32 bits, before it is looked at
    ∷ number (state 0 (256 + 3) 0 0 0) [] 0 gives 2 not 0
    ∷ number (state 0 3 256 0 0) [] 0 gives 2 not 0
    ∷ number (state 0 3 0 256 0) [] 0 gives 2 not 0
    ∷ number (state 0 3 0 0 (2 ^ 32)) [] 0 gives 2 not 0
    ∷ word UNCLEAR (state 256 3 0 0 0) [] 0 gives 256 not 0
    ∷ word UNCLEAR (state (2 ^ 32) 3 0 0 0) [] 0 gives 2 ^ 32 not 0
    -- a state of another length
    ∷ number (0 ∷ 3 ∷ 0 ∷ 0 ∷ []) [] 0 gives 2 not 0
    ∷ number (idle ++ (0 ∷ [])) [] 0 gives 2 not 0
    -- 14 before 2, and 15 before 14; a sample cut to two bits
    ∷ number (state 0 4 0 0 0) (4 ∷ []) 0 gives 2 not 14
    ∷ number idle (2 ∷ 4 ∷ []) 0 gives 14 not 15
    ∷ number idle ((4 + 3) ∷ []) 0 gives 14 not 0
    -- what a refused call consumes, writes and changes: the samples before a bad one
    ∷ consumed idle (2 ∷ 4 ∷ []) 1 gives 0 not 1
    ∷ written idle (2 ∷ 4 ∷ []) 1 gives 0 not 1
    ∷ event 0 idle (2 ∷ 4 ∷ []) 1 gives 999 not 256
    ∷ word LAST idle (2 ∷ 4 ∷ []) 1 gives 3 not 2
    -- ---- room for all events refused, and too little let pass
    ∷ number idle an_address 2 gives 0 not 15
    ∷ number idle an_address 1 gives 15 not 0
    -- samples and events exchanged; the events not counted
    ∷ consumed idle an_address 2 gives 29 not 2
    ∷ written idle an_address 2 gives 2 not 29
    -- after 15: the sample whose event has no place consumed too; the events before it taken back; a state after it, or as it was
    ∷ consumed idle an_address 1 gives 27 not 28
    ∷ written idle an_address 1 gives 1 not 2
    ∷ event 0 idle an_address 1 gives 256 not 999
    ∷ word LAST idle an_address 1 gives 0 not 2
    ∷ word BITS idle an_address 1 gives 8 not 0
    ∷ consumed idle (2 ∷ []) 0 gives 0 not 1
    -- the events not written; words behind them written
    ∷ event 1 idle an_address 3 gives 0x78 not 999
    ∷ event 2 idle an_address 3 gives 999 not 0
    -- ---- the state not handed back; stages by other numbers
    ∷ word STAGE idle an_address 2 gives 3 not 0
    ∷ word STAGE idle (a_start ++ a_byte 0x79 1) 2 gives 4 not 3
    ∷ word STAGE idle a_start 1 gives 2 not 1
    ∷ word STAGE idle (0 ∷ []) 0 gives 1 not 0
    ∷ event 0 (state 0 0 2 8 0x79) (2 ∷ []) 1 gives 0x79 not 258
    ∷ event 0 (state 0 0 3 8 0x78) (2 ∷ []) 1 gives 0x78 not 258
    ∷ event 0 (state 0 0 4 8 0x78) (2 ∷ []) 1 gives 258 not 0x78
    ∷ event 0 (state 0 1 4 8 0x78) (3 ∷ []) 1 gives 259 not 258
    ∷ written (state 0 0 1 8 0x78) (2 ∷ []) 1 gives 0 not 1
    ∷ written (state 0 2 1 0 0) (3 ∷ []) 1 gives 0 not 1
    ∷ event 0 (state 0 2 0 0 0) (3 ∷ []) 1 gives 257 not 999
    -- unclear samples not counted, and counted past the largest number
    ∷ word UNCLEAR idle (0 ∷ 3 ∷ []) 0 gives 2 not 1
    ∷ word UNCLEAR (state (2 ^ 64 - 1) 3 0 0 0) (0 ∷ []) 0 gives 2 ^ 64 - 1 not 0
    ∷ []
