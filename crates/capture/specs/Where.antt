-- Which captures are replayed, and where the others are refused. proofs/Laws.antt holds `replay_of` against it.
use Rattle.std.specs.Prelude.{true, false, List, [], ◌∷◌, ◌++◌, ◌≡◌, ℕ, ◌<◌, ◌≤◌, length, get_or, None}
use Rattle.registers.specs.State.{State, places}
use Rattle.text.specs.Decimal.{number_of, decimal}
use Rattle.text.specs.Text.{count_of}
use Rattle.chip.specs.Promised.{Fit, outcome, run_of, refusal_of}
pub use Rattle.capture_lines.specs.Events.{Small}
use Rattle.capture_lines.specs.Line.{newline}
use Rattle.capture.specs.Feeding.{Playing, line_allowed, capture_allowed}
use Rattle.capture.specs.Reading.{first_line, capture_text, capture_then}
use Rattle.capture.specs.Replay.{started}

-- both lent memories are 1,717 long
pub record Lent (m w : List ℕ) : Type 0 where
  pub memory_long : length m ≡ places
  pub writers_long : length w ≡ places

-- what 1 and 2 let pass
pub record Passed (p : Playing) : Type 0 where
  pub fit : Fit p.state
  pub line-allowed : line_allowed p.line ≡ true

-- ---- a part: the conditions of 0 (no refusal), 1, 2

abbrev pub PartWhen : Playing → ℕ → Type 0
PartWhen p k =
    get_or
    (Passed p
    ∷ (Lent p.state.memory p.state.writers → ⊥)
    ∷ (Lent p.state.memory p.state.writers × (capture_allowed p.line p.state.chip ≡ false))
    ∷ [])
    k ⊥

-- ---- a whole capture

-- none of the events is refused, and they leave `end`
abbrev pub AllDone : List ℕ → State → State → Type 0
AllDone es s end = run_of es s ≡ outcome (length es) 0 end

-- ---- replayed: the text is that of a capture, to the byte, whose events are all done

pub record Replayed (text m w : List ℕ) (end : State) : Type 0 where
  pub lent : Lent m w
  pub pins : ℕ
  pub events : List ℕ
  pub pins_allowed : pins ≤ 3
  pub small : Small events
  pub written : text ≡ capture_text pins events
  pub done : AllDone events (started pins m w) end

-- ---- refused at line 1: no first line

abbrev pub NoFirstLine : List ℕ → Type 0
NoFirstLine text = (pins : ℕ) (body : List ℕ) → pins ≤ 3 → text ≡ first_line pins ++ newline ∷ body → ⊥

-- ---- refused at another line: what begins with it

pub data Stops (rest : List ℕ) (s : State) : Type 0 where
  -- it has no newline
  unended : count_of newline rest ≡ 0 → (rest ≡ [] → ⊥) → Stops rest s
  -- it is no number
  no_number : (line more : List ℕ) → count_of newline line ≡ 0 → number_of line ≡ None → rest ≡ line ++ newline ∷ more → Stops rest s
  -- it is an event that the chip refuses
  refused_event : (e : ℕ) (more : List ℕ) → e < 1000 → (refusal_of e s ≡ 0 → ⊥) → rest ≡ decimal e ++ newline ∷ more → Stops rest s

-- n events stand before that line, all done
pub record StoppedAfter (n : ℕ) (text m w : List ℕ) (end : State) : Type 0 where
  pub lent : Lent m w
  pub pins : ℕ
  pub events : List ℕ
  pub rest : List ℕ
  pub pins_allowed : pins ≤ 3
  pub small : Small events
  pub as_many : length events ≡ n
  pub written : text ≡ capture_then pins events rest
  pub done : AllDone events (started pins m w) end
  pub stops : Stops rest end
