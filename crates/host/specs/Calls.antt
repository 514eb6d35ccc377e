-- The three calls of a C host, on numbers and buffers: what each gives back, and how it leaves what was lent. Every input has its outcome.
use Rattle.std.specs.Prelude.{cond, not, ◌&&◌, List, ℕ, leb, eqb, length}
use Rattle.registers.specs.Record.{reset_chip}
use Rattle.registers.specs.Refusals.{refuse, ◌then◌, lengths_refusal}
use Rattle.registers.specs.State.{State, state}
use Rattle.chip.specs.Promised.{Unknown, OutOfRange}
use Rattle.engine.specs.Event.{number_of}
use Rattle.engine.specs.Step.{After, step_of, event_refusal, pixel_refusal}
use Rattle.engine.specs.Run.{Outcome, run_of, tally}
use Rattle.record_words.specs.Words.{record_length, stands_for, chip_of, words_of}

-- words that stand for no record: 2, unless a lent memory has another length, since 1 comes first
abbrev pub no_record_for : ℕ → ℕ → ℕ
no_record_for memoryLength writersLength = lengths_refusal memoryLength writersLength then 2

abbrev pub no_record : List ℕ → List ℕ → ℕ
no_record memory writers = no_record_for (length memory) (length writers)

-- ---- pcf8820_reset

-- the number given back, and the record's words
pub record Reset : Type 0 where
  pub number : ℕ
  pub words : List ℕ

abbrev pub reset : ℕ → List ℕ → Reset
reset n ws = record { number = n; words = ws }

unfoldable pub reset_call : ℕ → List ℕ → Reset
reset_call pins ws = cond (eqb (length ws) record_length && leb pins 3) (reset 0 (words_of (reset_chip pins))) (reset 2 ws)

-- ---- pcf8820_step

-- besides, the two memories and the event count
pub record Stepped : Type 0 where
  pub number : ℕ
  pub words : List ℕ
  pub memory : List ℕ
  pub writers : List ℕ
  pub count : ℕ

abbrev pub stepped : ℕ → List ℕ → List ℕ → List ℕ → ℕ → Stepped
stepped n ws m w count = record { number = n; words = ws; memory = m; writers = w; count = count }

abbrev pub after_step : After → Stepped
after_step a = stepped (number_of a.answer) (words_of a.state.chip) a.state.memory a.state.writers a.state.count

-- words that stand for no record leave the count too
unfoldable pub step_call : ℕ → List ℕ → List ℕ → List ℕ → ℕ → Stepped
step_call event ws m w count =
    cond (stands_for ws) (after_step (step_of event (state (chip_of ws) m w count))) (stepped (no_record m w) ws m w count)

-- ---- pcf8820_run

-- besides, how many events were done, and how many of those were unknown commands and commands out of range
pub record Ran : Type 0 where
  pub number : ℕ
  pub done : ℕ
  pub unknown : ℕ
  pub out_of_range : ℕ
  pub words : List ℕ
  pub memory : List ℕ
  pub writers : List ℕ
  pub count : ℕ

abbrev pub ran : ℕ → ℕ → ℕ → ℕ → List ℕ → List ℕ → List ℕ → ℕ → Ran
ran n d u o ws m w count =
    record { number = n; done = d; unknown = u; out_of_range = o; words = ws; memory = m; writers = w; count = count }

abbrev pub after_run : Outcome → ℕ → ℕ → Ran
after_run o u r = ran o.refusal o.done u r (words_of o.state.chip) o.state.memory o.state.writers o.state.count

-- the run over these events from s
abbrev pub run_for : List ℕ → State → Ran
run_for es s = after_run (run_of es s) (tally Unknown es s) (tally OutOfRange es s)

unfoldable pub run_call : List ℕ → List ℕ → List ℕ → List ℕ → ℕ → Ran
run_call events ws m w count =
    cond (stands_for ws) (run_for events (state (chip_of ws) m w count)) (ran (no_record m w) 0 0 0 ws m w count)

-- ---- exactly when a call is refused: the numbers in their order, read off what the host lends; 0 is none

-- at entry, of a step and of a run
abbrev pub entry_refusal : List ℕ → List ℕ → List ℕ → ℕ
entry_refusal ws m w = lengths_refusal (length m) (length w) then refuse (not (stands_for ws)) 2

abbrev pub step_refusal : ℕ → List ℕ → List ℕ → List ℕ → ℕ → ℕ
step_refusal event ws m w count = entry_refusal ws m w then event_refusal event count then pixel_refusal event (chip_of ws) m
