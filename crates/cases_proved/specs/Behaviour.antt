-- A chip as it is seen from outside: the events that it is given, and the numbers that can be seen of what they leave.
use Rattle.std.specs.Prelude.{cond, List, [], ◌∷◌, ℕ, ◌+◌, ◌*◌}
use Rattle.cases_proved.specs.Cited.{get_or, values, count_for, State, After, answerNumber, step_of, Outcome, run_of, tally, Unknown, OutOfRange}
use Rattle.cases_proved.specs.Cited.{step_past_entry, run_past_entry, tally_past_entry}

-- ---- a chip, and what can be seen of it

-- what one event does, what a run does, and how many of its commands were unknown and out of range
pub record Behaviour : Type 0 where
  pub step : ℕ → State → After
  pub run : List ℕ → State → Outcome
  pub unknown : List ℕ → State → ℕ
  pub out_of_range : List ℕ → State → ℕ

unfoldable pub chip : Behaviour
chip = record { step = step_of; run = run_of; unknown = tally Unknown; out_of_range = tally OutOfRange }

-- the same past the entry, which has tested 1 and 2
unfoldable pub past_entry : Behaviour
past_entry =
    record { step = step_past_entry; run = run_past_entry 0; unknown = tally_past_entry Unknown; out_of_range = tally_past_entry OutOfRange }

abbrev pub register : ℕ → State → ℕ
register f s = get_or (values s.chip.registers) f 0

abbrev pub count : State → ℕ
count s = s.count

-- TR
abbrev pub status : State → ℕ
status s = s.chip.status

abbrev pub last_rs : State → ℕ
last_rs s = cond s.chip.last_rs 1 0

abbrev pub cell : ℕ → ℕ → State → ℕ
cell column bank s = get_or s.memory (101 * bank + column) 0

abbrev pub writer : ℕ → ℕ → State → ℕ
writer column bank s = get_or s.writers (101 * bank + column) 0

-- how many pixels have value v
abbrev pub pixels : ℕ → State → ℕ
pixels v s = count_for s.chip.pixels v

-- the events one by one
abbrev pub stepped : (ℕ → State → After) → List ℕ → State → State
stepped step [] s = s
stepped step (e ∷ es) s = stepped step es (step e s).state

-- what they leave of one of these numbers
abbrev pub leave : State → List ℕ → (State → ℕ) → Behaviour → ℕ
leave s es part b = part (stepped b.step es s)

-- the answer to one more event, as a number
abbrev pub answer : State → List ℕ → ℕ → Behaviour → ℕ
answer s es e b = answerNumber (b.step e (stepped b.step es s)).answer

-- what a run leaves, how many events it does, and by which number it is refused
abbrev pub run_leaves : State → List ℕ → (State → ℕ) → Behaviour → ℕ
run_leaves s es part b = part (b.run es s).state

abbrev pub run_done : State → List ℕ → Behaviour → ℕ
run_done s es b = (b.run es s).done

abbrev pub run_refusal : State → List ℕ → Behaviour → ℕ
run_refusal s es b = (b.run es s).refusal

-- what it counts
abbrev pub run_unknown : State → List ℕ → Behaviour → ℕ
run_unknown s es b = b.unknown es s

abbrev pub run_out_of_range : State → List ℕ → Behaviour → ℕ
run_out_of_range s es b = b.out_of_range es s

-- ---- events and answers by name

abbrev pub START : ℕ
START = 256

abbrev pub STOP : ℕ
STOP = 257

-- a byte read, acknowledged by the master, and one that is not
abbrev pub READ : ℕ
READ = 258

abbrev pub READLAST : ℕ
READLAST = 259

abbrev pub RESET : ℕ
RESET = 260

abbrev pub sensor : ℕ → ℕ
sensor n = 512 + n

abbrev pub nothing : ℕ
nothing = 256

abbrev pub acknowledged : ℕ
acknowledged = 257

abbrev pub not_acknowledged : ℕ
not_acknowledged = 258

-- the three answers to a command byte
abbrev pub command_taken : ℕ
command_taken = 259

abbrev pub command_unknown : ℕ
command_unknown = 260

abbrev pub command_out_of_range : ℕ
command_out_of_range = 261

abbrev pub byte_read : ℕ → ℕ
byte_read n = 512 + n

-- START, the address of the chip with pins 0, and endless commands or display bytes
abbrev pub commands : List ℕ → List ℕ
commands bs = START ∷ 0x78 ∷ 0x00 ∷ bs

abbrev pub display_bytes : List ℕ → List ℕ
display_bytes bs = START ∷ 0x78 ∷ 0x40 ∷ bs
