-- Wrong calls: what the calls of a host in C give for chosen words and buffers, and what a wrong one would give.
use Rattle.std.specs.Prelude.{true, false, List, [], ◌∷◌, ℕ, ◌+◌, ◌-◌, ◌^◌}
use Prim.Native.String.{String}
use Rattle.cases_proved.specs.Cited.{PD, X, PINS, PHASE, PIXELS, replicate, get_or, set, bytes, EndlessBytes, in_phase, words_of, Reset, reset_call, Stepped, step_call, Ran, run_call}
use Rattle.cases_proved.specs.Cited.{glass_call, place_call, PulseRow, pulses_call, pulse_row_call, Compiled, compile_call, Counts, counts_call}
use Rattle.cases_proved.specs.Behaviour.{START, nothing, acknowledged, command_taken, command_unknown, command_out_of_range, commands}
use Rattle.cases_proved.specs.Observed.{Observation, ◌gives◌not◌}
use Rattle.cases_proved.specs.Start.{Setting, ◌is◌, zeros, one_cell, viewed}
use Rattle.cases_proved.specs.Glasses.{mode10, level, at}
use Rattle.cases_proved.specs.Pulses.{told}

-- ---- the calls, and what can be seen of them

-- words, display memory, writers and count come in this order, and the buffer that is written last
pub record Calls : Type 0 where
  pub reset : ℕ → List ℕ → Reset
  pub step : ℕ → List ℕ → List ℕ → List ℕ → ℕ → Stepped
  pub run : List ℕ → List ℕ → List ℕ → List ℕ → ℕ → Ran
  pub glass : ℕ → ℕ → List ℕ → List ℕ → ℕ
  pub place : ℕ → ℕ → List ℕ → ℕ
  pub pulses : ℕ → ℕ → List ℕ → List ℕ → ℕ
  pub pulse_row : ℕ → List ℕ → List ℕ → List ℕ → PulseRow
  pub compile : List ℕ → List ℕ → List ℕ → Compiled
  pub counts : List ℕ → Counts

unfoldable pub calls : Calls
calls =
    record {
      reset = reset_call;
      step = step_call;
      run = run_call;
      glass = glass_call;
      place = place_call;
      pulses = pulses_call;
      pulse_row = pulse_row_call;
      compile = compile_call;
      counts = counts_call;
    }

-- the words of a chip after reset with these registers set, its grey registers 40 to 43; and too few words for a record, all 0
abbrev pub words : List Setting → List ℕ
words before = words_of (viewed before)

abbrev pub no_words : List ℕ
no_words = replicate 37 0

-- the words of the same chip while it awaits commands
abbrev pub awaiting : List Setting → List ℕ
awaiting before = words_of (in_phase (viewed before) (EndlessBytes false))

-- and while it awaits display bytes
abbrev pub awaiting_data : List Setting → List ℕ
awaiting_data before = words_of (in_phase (viewed before) (EndlessBytes true))

-- a memory, or writers, one short
abbrev pub short : List ℕ
short = replicate 1716 0

-- a reset of so many words, all 77: the number given back, and word k
abbrev pub reset_number : ℕ → ℕ → Calls → ℕ
reset_number pins n c = (c.reset pins (replicate n 77)).number

abbrev pub reset_word : ℕ → ℕ → ℕ → Calls → ℕ
reset_word pins n k c = get_or (c.reset pins (replicate n 77)).words k 0

-- a step from a count of 0
abbrev pub step_number : ℕ → List ℕ → List ℕ → List ℕ → Calls → ℕ
step_number e ws m w c = (c.step e ws m w 0).number

abbrev pub step_word : ℕ → List ℕ → ℕ → Calls → ℕ
step_word e ws k c = get_or (c.step e ws zeros zeros 0).words k 0

-- a step that has these words with a count of pixels exchanged for another: the number given back
abbrev pub step_having : ℕ → List ℕ → ℕ → ℕ → Calls → ℕ
step_having e ws v n c = step_number e (set ws (PIXELS + v) n) zeros zeros c

-- and from a count of n: the number given back, the count, and the writer at place k
abbrev pub step_from : ℕ → ℕ → List ℕ → Calls → ℕ
step_from n e ws c = (c.step e ws zeros zeros n).number

abbrev pub step_count : ℕ → ℕ → List ℕ → Calls → ℕ
step_count n e ws c = (c.step e ws zeros zeros n).count

abbrev pub step_writer : ℕ → ℕ → List ℕ → ℕ → Calls → ℕ
step_writer n e ws k c = get_or (c.step e ws zeros zeros n).writers k 0

-- a run from a count of 0
abbrev pub run_number : List ℕ → List ℕ → List ℕ → List ℕ → Calls → ℕ
run_number es ws m w c = (c.run es ws m w 0).number

abbrev pub run_done : List ℕ → List ℕ → Calls → ℕ
run_done es ws c = (c.run es ws zeros zeros 0).done

abbrev pub run_unknown : List ℕ → List ℕ → Calls → ℕ
run_unknown es ws c = (c.run es ws zeros zeros 0).unknown

abbrev pub run_out_of_range : List ℕ → List ℕ → Calls → ℕ
run_out_of_range es ws c = (c.run es ws zeros zeros 0).out_of_range

-- and from a count of n: the count
abbrev pub run_count : ℕ → List ℕ → List ℕ → Calls → ℕ
run_count n es ws c = (c.run es ws zeros zeros n).count

abbrev pub glass : ℕ → ℕ → List ℕ → List ℕ → Calls → ℕ
glass row column ws m c = c.glass row column ws m

abbrev pub place : ℕ → ℕ → List ℕ → Calls → ℕ
place row column ws c = c.place row column ws

abbrev pub pulses : ℕ → ℕ → List ℕ → List ℕ → Calls → ℕ
pulses row column ws m c = c.pulses row column ws m

-- a row into a buffer of so many bytes, all 99: the number given back, and byte k
abbrev pub row_number : ℕ → List ℕ → List ℕ → ℕ → Calls → ℕ
row_number r ws m n c = (c.pulse_row r ws m (replicate n 99)).number

abbrev pub row_byte : ℕ → List ℕ → List ℕ → ℕ → ℕ → Calls → ℕ
row_byte r ws m n k c = get_or (c.pulse_row r ws m (replicate n 99)).out k 0

-- a list compiled into an output of so many words, all 999
abbrev pub compiled : List ℕ → String → ℕ → Calls → Compiled
compiled ws text n c = c.compile ws (bytes text) (replicate n 999)

-- ---- the table

-- the first marked list: 11 events, 81 clocks
abbrev pub a_put : String
a_put = "put\t5\t2\t167\n"

unfoldable pub call_rows : List (Observation Calls)
call_rows =
    -- pins above 3, and a buffer of another length, let pass; pins 3 refused
    reset_number 4 38 gives 2 not 0
    ∷ reset_number 0 37 gives 2 not 0
    ∷ reset_number 0 39 gives 2 not 0
    ∷ reset_number 3 38 gives 0 not 2
    -- nothing written, and written by a refused call; other pins
    ∷ reset_word 3 38 PD gives 1 not 77
    ∷ reset_word 4 38 PD gives 77 not 1
    ∷ reset_word 3 38 PINS gives 3 not 0
    -- the pixels of a memory that is cleared: all of value 0, none of another; a record of 34 words
    ∷ reset_word 3 38 PIXELS gives 6767 not 0
    ∷ reset_word 3 38 (PIXELS + 3) gives 0 not 77
    ∷ reset_number 0 34 gives 2 not 0
    -- ---- the answer as another number; the record not written back
    ∷ step_number START (words []) zeros zeros gives nothing not 0
    ∷ step_word START (words []) PHASE gives 1 not 0
    -- the count not handed back, not taken in, not asked; changed by a step that is refused, and by words that stand for no record; the writer's number
    ∷ step_count 6 START (words []) gives 7 not 6
    ∷ step_count 6 START (words []) gives 7 not 1
    ∷ step_from (2 ^ 64 - 1) START (words []) gives 4 not nothing
    ∷ step_from (2 ^ 64 - 2) START (words []) gives nothing not 4
    ∷ step_count 6 261 (words []) gives 6 not 7
    ∷ step_count 6 START no_words gives 6 not 7
    ∷ step_count 6 START no_words gives 6 not 0
    ∷ step_writer 6 0xA7 (awaiting_data []) 0 gives 7 not 1
    -- a command's answer as the plain acknowledge, and each of the three as another
    ∷ step_number 0x85 (awaiting []) zeros zeros gives command_taken not acknowledged
    ∷ step_number 0x02 (awaiting []) zeros zeros gives command_unknown not acknowledged
    ∷ step_number 0xE5 (awaiting []) zeros zeros gives command_out_of_range not acknowledged
    ∷ step_number 0xE5 (awaiting []) zeros zeros gives command_out_of_range not command_taken
    ∷ step_number 0x02 (awaiting []) zeros zeros gives command_unknown not command_out_of_range
    ∷ step_number 0x00 (awaiting []) zeros zeros gives command_taken not command_unknown
    -- words that stand for no record let pass; 2 before 1, for either memory; 3 before 2
    ∷ step_number START no_words zeros zeros gives 2 not nothing
    ∷ step_number START (words (X is 101 ∷ [])) zeros zeros gives 2 not nothing
    ∷ step_number START no_words short zeros gives 1 not 2
    ∷ step_number START no_words zeros short gives 1 not 2
    ∷ step_number 261 no_words zeros zeros gives 2 not 3
    -- the counts of pixels not mended in the words, or in another order; a count above all pixels let pass; 16 let pass, and given for 2
    ∷ step_word 0xE4 (awaiting_data []) PIXELS gives 6764 not 6767
    ∷ step_word 0x15 (awaiting_data []) (PIXELS + 1) gives 3 not 0
    ∷ step_having START (words []) 3 6768 gives 2 not nothing
    ∷ step_having 0xFF (awaiting_data []) 0 3 gives 16 not acknowledged
    ∷ step_having 0xFF (awaiting_data []) 0 6768 gives 2 not 16
    -- ---- a counting start: bank 16 with four rows, or left out; two values exchanged; a memory of another length let pass, and its numbers not set
    ∷ (λ c. (c.counts zeros).zeros) gives 6767 not 6868
    ∷ (λ c. (c.counts (set zeros 1616 0xFF)).threes) gives 3 not 4
    ∷ (λ c. (c.counts (set zeros 1616 0xFF)).threes) gives 3 not 0
    ∷ (λ c. (c.counts one_cell).ones) gives 1 not 2
    ∷ (λ c. (c.counts short).number) gives 1 not 0
    ∷ (λ c. (c.counts short).zeros) gives 0 not 6763
    -- ---- how many events were done: the first alone, one more at a refused event, one at a refused entry
    ∷ run_done (START ∷ 0x78 ∷ []) (words []) gives 2 not 1
    ∷ run_done (START ∷ 261 ∷ []) (words []) gives 1 not 2
    ∷ run_done (START ∷ []) no_words gives 0 not 1
    -- the count after it: as it was, what was done given for it, the refused event counted, changed at a refused entry
    ∷ run_count 6 (START ∷ 0x78 ∷ []) (words []) gives 8 not 6
    ∷ run_count 6 (START ∷ 0x78 ∷ []) (words []) gives 8 not 2
    ∷ run_count 6 (START ∷ 261 ∷ []) (words []) gives 7 not 8
    ∷ run_count 6 (START ∷ []) no_words gives 6 not 7
    ∷ run_count 6 (START ∷ []) no_words gives 6 not 0
    -- what was counted: exchanged; the events done given for it; lost where the run is refused; something at a refused entry
    ∷ run_unknown (commands (0x02 ∷ 0xE5 ∷ 0x02 ∷ [])) (words []) gives 2 not 1
    ∷ run_out_of_range (commands (0x02 ∷ 0xE5 ∷ 0x02 ∷ [])) (words []) gives 1 not 2
    ∷ run_unknown (commands (0x02 ∷ 0xE5 ∷ 0x02 ∷ [])) (words []) gives 2 not 6
    ∷ run_out_of_range (commands (0x02 ∷ 0xE5 ∷ 0x02 ∷ [])) (words []) gives 1 not 6
    ∷ run_unknown (0x02 ∷ 261 ∷ []) (awaiting []) gives 1 not 0
    ∷ run_out_of_range (0xE5 ∷ 261 ∷ []) (awaiting []) gives 1 not 0
    ∷ run_unknown (commands (0x02 ∷ [])) no_words gives 0 not 1
    ∷ run_out_of_range (commands (0xE5 ∷ [])) no_words gives 0 not 1
    ∷ run_unknown (0x02 ∷ []) (awaiting (X is 101 ∷ [])) gives 0 not 1
    ∷ run_out_of_range (0xE5 ∷ []) (awaiting (X is 101 ∷ [])) gives 0 not 1
    -- the last answer for the refusal; a refusal at entry with no events let pass; 2 before 1, for either memory
    ∷ run_number (START ∷ 0x78 ∷ []) (words []) zeros zeros gives 0 not acknowledged
    ∷ run_number [] no_words zeros zeros gives 2 not 0
    ∷ run_number [] no_words short zeros gives 1 not 2
    ∷ run_number [] no_words zeros short gives 1 not 2
    -- ---- row and column exchanged, and either of them cut to 32 bits
    ∷ glass 8 5 (words mode10) one_cell gives level 43 not level 40
    ∷ glass (2 ^ 32 + 8) 5 (words mode10) one_cell gives 5 not level 43
    ∷ glass 8 (2 ^ 32 + 5) (words mode10) one_cell gives 5 not level 43
    ∷ place 8 5 (words mode10) gives at 207 not at 109
    ∷ place (2 ^ 32 + 8) 5 (words mode10) gives 5 not at 207
    ∷ place 8 (2 ^ 32 + 5) (words mode10) gives 5 not at 207
    ∷ pulses 8 5 (words mode10) one_cell gives told 10 11 11 11 not told 10 10 10 10
    ∷ pulses (2 ^ 32 + 8) 5 (words mode10) one_cell gives 5 not told 10 11 11 11
    ∷ pulses 8 (2 ^ 32 + 5) (words mode10) one_cell gives 5 not told 10 11 11 11
    -- the glass's number for that of the pulses, and the other way round
    ∷ pulses 8 5 (words mode10) one_cell gives told 10 11 11 11 not level 43
    ∷ glass 8 5 (words mode10) one_cell gives level 43 not told 10 11 11 11
    -- words that stand for no record let pass
    ∷ glass 8 5 no_words one_cell gives 2 not level 0
    ∷ glass 8 5 (words (X is 101 ∷ mode10)) one_cell gives 2 not level 43
    ∷ place 8 5 no_words gives 2 not at 207
    ∷ pulses 8 5 no_words one_cell gives 2 not told 0 0 0 0
    ∷ pulses 8 5 (words (X is 101 ∷ mode10)) one_cell gives 2 not told 10 11 11 11
    -- 2 before 1, and 5 before 2
    ∷ glass 8 5 no_words short gives 1 not 2
    ∷ glass 67 5 no_words one_cell gives 2 not 5
    ∷ place 67 5 no_words gives 2 not 5
    ∷ pulses 8 5 no_words short gives 1 not 2
    ∷ pulses 67 5 no_words one_cell gives 2 not 5
    -- ---- a row of pulses: the row cut to 32 bits, the bytes written for the number
    ∷ row_number (2 ^ 32 + 8) (words mode10) one_cell 404 gives 5 not 0
    ∷ row_number 8 (words mode10) one_cell 404 gives 0 not 404
    -- where the words stand for no record: 11 before 2, and before 1; 2 before 1
    ∷ row_number 8 no_words one_cell 403 gives 2 not 11
    ∷ row_number 8 no_words short 403 gives 1 not 11
    ∷ row_number 8 no_words short 404 gives 1 not 2
    -- 11 let pass
    ∷ row_number 8 (words mode10) one_cell 405 gives 11 not 0
    -- the row buffer not written, and written by a refused call
    ∷ row_byte 8 (words mode10) one_cell 404 21 gives 11 not 99
    ∷ row_byte 8 (words mode10) one_cell 403 21 gives 99 not 11
    ∷ row_byte 8 (words (X is 101 ∷ mode10)) one_cell 404 21 gives 99 not 11
    ∷ row_byte 8 no_words one_cell 404 21 gives 99 not 0
    -- ---- compiling: the three out-numbers, each given for another
    ∷ (λ c. (compiled (words []) a_put 20 c).length) gives 11 not 81
    ∷ (λ c. (compiled (words []) a_put 20 c).clocks) gives 81 not 11
    ∷ (λ c. (compiled (words []) a_put 20 c).line) gives 0 not 11
    -- no line told of a bad list
    ∷ (λ c. (compiled (words []) "set\tz\t1\n" 20 c).line) gives 1 not 0
    -- words that stand for no record let pass: the number, and the length
    ∷ (λ c. (compiled no_words a_put 20 c).number) gives 2 not 0
    ∷ (λ c. (compiled no_words a_put 20 c).length) gives 0 not 11
    -- the output not written, and written by a refused call
    ∷ (λ c. get_or (compiled (words []) a_put 20 c).out 0 0) gives START not 999
    ∷ (λ c. get_or (compiled (words []) a_put 10 c).out 0 0) gives 999 not START
    ∷ []
