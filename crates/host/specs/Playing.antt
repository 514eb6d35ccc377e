-- By calls alone, in the words of the buffers that a host in C lends: how commands are answered and counted, demand 3, and the last writer.
use Rattle.std.specs.Prelude.{cond, List, [], ◌∷◌, ◌⊎◌, ◌≡◌, ℕ, zero, suc, ◌+◌, ◌^◌, ◌≤◌, ◌<◌, eqb, get_or, length, take}
use Rattle.registers.specs.Places.{H}
use Rattle.registers.specs.Record.{of_values, blank}
use Rattle.registers.specs.State.{places}
use Rattle.chip.specs.Promised.{CommandAnswer, CommandWhen, place_of, stored_of}
use Rattle.lists.specs.declared.Line.{Line}
use Rattle.lists.specs.Lists.{lines, reading_of}
use Rattle.drawing.specs.Plain.{Picture, plain_reading}
use Rattle.record_words.specs.Words.{PHASE, PHASE_RS}
use Rattle.host.specs.Counting.{TrueWords}
use Rattle.host.specs.Calls.{Stepped, step_call, step_refusal, Ran, ran, run_call}

-- what is lent with an event: the record's words, display bytes, writer numbers and the event count
pub record Buffers : Type 0 where
  pub words : List ℕ
  pub memory : List ℕ
  pub writers : List ℕ
  pub count : ℕ

abbrev pub buffers : List ℕ → List ℕ → List ℕ → ℕ → Buffers
buffers ws m w count = record { words = ws; memory = m; writers = w; count = count }

-- a call of pcf8820_step, and one of pcf8820_run
abbrev pub step_on : ℕ → Buffers → Stepped
step_on e b = step_call e b.words b.memory b.writers b.count

abbrev pub run_on : List ℕ → Buffers → Ran
run_on es b = run_call es b.words b.memory b.writers b.count

-- the buffers as a step leaves them
abbrev pub left_by : Stepped → Buffers
left_by r = buffers r.words r.memory r.writers r.count

-- the buffers that event i of the list comes upon, counted from 0, where each call is lent what the one before it left
abbrev pub upon_event : List ℕ → ℕ → Buffers → Buffers
upon_event [] i b = b
upon_event (e ∷ es) zero b = b
upon_event (e ∷ es) (suc i) b = upon_event es i (left_by (step_on e b))

-- the buffers after the last of them
abbrev pub after_events : List ℕ → Buffers → Buffers
after_events [] b = b
after_events (e ∷ es) b = after_events es (left_by (step_on e b))

-- ---- the answers to commands

-- a command is awaited: one byte or endless bytes, with RS 0
abbrev pub CommandAwaited : Buffers → Type 0
CommandAwaited b = ((get_or b.words PHASE 0 ≡ 4) ⊎ (get_or b.words PHASE 0 ≡ 5)) × (get_or b.words PHASE_RS 0 ≡ 0)

-- event e, lent these buffers, is a command byte that is accepted, and the sheet has this answer to it in the present page
pub record AnsweredAs (a : CommandAnswer) (e : ℕ) (b : Buffers) : Type 0 where
  pub not_refused : step_refusal e b.words b.memory b.writers b.count ≡ 0
  pub is-byte : e < 256
  pub awaited : CommandAwaited b
  pub in-page : CommandWhen (get_or b.words H 0) e a

-- how many of the first n calls of pcf8820_step give this number, where each is lent what the one before it left
abbrev pub calls_giving : ℕ → List ℕ → ℕ → Buffers → ℕ
calls_giving k [] n b = 0
calls_giving k (e ∷ es) zero b = 0
calls_giving k (e ∷ es) (suc n) b = cond (eqb (step_on e b).number k) 1 0 + calls_giving k es n (left_by (step_on e b))

-- pcf8820_run counts what pcf8820_step tells of the events that were done: 260 for unknown, 261 for out of range
pub record CountedByCalls (es : List ℕ) (b : Buffers) : Type 0 where
  pub unknown : (run_on es b).unknown ≡ calls_giving 260 es (run_on es b).done b
  pub out_of_range : (run_on es b).out_of_range ≡ calls_giving 261 es (run_on es b).done b

-- ---- demand 3

-- what a drawing list can say something of: the display bytes, and words 0 to 28 but those of H, X and Y
abbrev pub picture_in : Buffers → Picture
picture_in b = record { cells = b.memory; registers = blank (of_values b.words) }

-- the events es of the lines ls, given to pcf8820_step one by one
pub record PlayedByCalls (ls : List Line) (es : List ℕ) (b : Buffers) : Type 0 where
  -- no call gives the number of a refusal; for every command byte it gives 259, taken, and for every other byte 257, acknowledged
  pub not_refused : (i : ℕ) → i < length es → 256 ≤ (step_on (get_or es i 0) (upon_event es i b)).number
  pub taken :
      (i : ℕ) → i < length es → get_or es i 0 < 256 → CommandAwaited (upon_event es i b) → (step_on (get_or es i 0) (upon_event es i b)).number ≡ 259
  pub acknowledged :
      (i : ℕ) → i < length es → get_or es i 0 < 256 → (CommandAwaited (upon_event es i b) → ⊥) → (step_on (get_or es i 0) (upon_event es i b)).number ≡ 257
  -- the buffers are those of the list's plain reading
  pub same-picture : picture_in (after_events es b) ≡ plain_reading ls (picture_in b)
  -- pcf8820_run over the same events gives 0, does them all, counts no command that was unknown or out of range, and leaves the same buffers
  pub same_run :
      run_on es b
      ≡ ran 0 (length es) 0 0 (after_events es b).words (after_events es b).memory (after_events es b).writers (after_events es b).count
  -- and the record's counts of pixels are true then
  pub true_counts : TrueWords (after_events es b).words (after_events es b).memory

-- the text has a plain reading, and the output's first n events play it: with any two memories 1,717 long, the record's counts of pixels being those of
-- the first, and from any count that has room for them
pub record DrawnByCalls (ws text : List ℕ) (n : ℕ) (out : List ℕ) : Type 0 where
  pub list : List Line
  pub reads : reading_of text ≡ lines list
  pub plays :
      (m w : List ℕ) (count : ℕ) → length m ≡ places → length w ≡ places → TrueWords ws m → count + n < 2 ^ 64
      → PlayedByCalls list (take n out) (buffers ws m w count)

-- ---- the last writer

-- event e, lent these buffers, is an acknowledged display byte at place k
pub record StoredByCall (e : ℕ) (b : Buffers) (k : ℕ) : Type 0 where
  pub is-byte : e < 256
  -- bytes with RS 1 are awaited
  pub is_data : get_or b.words PHASE_RS 0 ≡ 1
  pub acknowledged : (step_on e b).number ≡ 257
  pub at_place : place_of (of_values b.words) ≡ k

-- of the events that the run did none was stored at k: byte and writer are as they were
pub record UntouchedByCalls (es : List ℕ) (b : Buffers) (k : ℕ) : Type 0 where
  pub none : (i : ℕ) → i < (run_on es b).done → StoredByCall (get_or es i 0) (upon_event es i b) k → ⊥
  pub byte : get_or (run_on es b).memory k 0 ≡ get_or b.memory k 0
  pub writer : get_or (run_on es b).writers k 0 ≡ get_or b.writers k 0

-- the last that was stored at k left its byte, and its number: the starting count plus its place in the list from 1
pub record WrittenByCalls (es : List ℕ) (b : Buffers) (k : ℕ) : Type 0 where
  pub event : ℕ
  pub is_done : event < (run_on es b).done
  pub stored : StoredByCall (get_or es event 0) (upon_event es event b) k
  pub is_last : (j : ℕ) → event < j → j < (run_on es b).done → StoredByCall (get_or es j 0) (upon_event es j b) k → ⊥
  pub byte : get_or (run_on es b).memory k 0 ≡ stored_of (of_values (upon_event es event b).words) (get_or es event 0)
  pub writer : get_or (run_on es b).writers k 0 ≡ b.count + (event + 1)

abbrev pub LastWriterByCalls : List ℕ → Buffers → ℕ → Type 0
LastWriterByCalls es b k = UntouchedByCalls es b k ⊎ WrittenByCalls es b k
