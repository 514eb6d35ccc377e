-- What is kept of the wires as a host in C holds it, a wire state: five words of 64 bits.
use Rattle.std.specs.Prelude.{Bool, cond, ◌&&◌, List, [], ◌∷◌, ◌≡◌, ℕ, ◌≤◌, eqb, leb, length, get_or}
use Rattle.wire_samples.specs.declared.Stage.{Stage}
use Rattle.wire_samples.specs.declared.Stage.TheVariants.{Outside, Waiting, First, Writing, Reading}
use Rattle.wire_samples.specs.declared.Wires.{Wires}
use Rattle.wire_samples.specs.Sample.{wires}
use Rattle.std.specs.Prelude.{Option, None, Some}

-- where the words stand: unclear samples so far, the last sample, the stage, how many bits of the present byte are taken, and their value
abbrev pub UNCLEAR : ℕ
UNCLEAR = 0

abbrev pub LAST : ℕ
LAST = 1

abbrev pub STAGE : ℕ
STAGE = 2

abbrev pub BITS : ℕ
BITS = 3

abbrev pub VALUE : ℕ
VALUE = 4

-- how many words a wire state has
abbrev pub state_length : ℕ
state_length = 5

-- these words are a wire state: a sample is 0 to 3, there are five stages, 0 to 8 bits are taken, and their value is a byte; any count may stand
unfoldable pub stands_for : List ℕ → Bool
stands_for ws =
    eqb (length ws) state_length
    && (leb (get_or ws LAST 0) 3 && (leb (get_or ws STAGE 0) 4 && (leb (get_or ws BITS 0) 8 && leb (get_or ws VALUE 0) 255)))

-- the same as a statement
pub record IsState (ws : List ℕ) : Type 0 where
  pub long : length ws ≡ state_length
  pub last : get_or ws LAST 0 ≤ 3
  pub stage : get_or ws STAGE 0 ≤ 4
  pub bits : get_or ws BITS 0 ≤ 8
  pub value : get_or ws VALUE 0 ≤ 255

-- the stages by their numbers
abbrev pub stages : List Stage
stages = Outside ∷ Waiting ∷ First ∷ Writing ∷ Reading ∷ []

abbrev pub stage_of : ℕ → Stage
stage_of n = get_or stages n Outside

abbrev pub stage_number : Stage → ℕ
stage_number Outside = 0
stage_number Waiting = 1
stage_number First = 2
stage_number Writing = 3
stage_number Reading = 4

-- the wires that the words stand for, and their words
unfoldable pub wires_of : List ℕ → Wires
wires_of ws = wires (get_or ws UNCLEAR 0) (get_or ws LAST 0) (stage_of (get_or ws STAGE 0)) (get_or ws BITS 0) (get_or ws VALUE 0)

abbrev pub words_of : Wires → List ℕ
words_of w = w.unclear ∷ w.last ∷ stage_number w.stage ∷ w.bits ∷ w.value ∷ []

-- what reading gives
unfoldable pub read_of : List ℕ → Option Wires
read_of ws = cond (stands_for ws) (Some (wires_of ws)) None
