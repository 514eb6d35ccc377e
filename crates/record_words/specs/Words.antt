-- The chip's record as a host in C holds it: 38 words of 64 bits.
use Rattle.std.specs.Prelude.{Bool, true, cond, ◌&&◌, ◌||◌, Option, None, Some, List, [], ◌∷◌, ◌++◌, ℕ, ◌+◌, eqb, length, get_or}
use Rattle.registers.specs.declared.Chip.{Chip}
use Rattle.registers.specs.declared.PixelCounts.{PixelCounts}
use Rattle.registers.specs.declared.Phase.{Phase}
use Rattle.registers.specs.declared.Phase.TheVariants.{Idle, AddressAwaited, Ignoring, ControlAwaited, OneByte, EndlessBytes, Reading, ReadEnded}
use Rattle.registers.specs.Record.{phase_rs, limits, values, of_values, within, counts, by_value, count_limits}

-- where the words stand: 0..28 the registers in document 01's order, then these
abbrev pub PINS : ℕ
PINS = 29

abbrev pub STATUS : ℕ
STATUS = 30

abbrev pub LAST_RS : ℕ
LAST_RS = 31

abbrev pub PHASE : ℕ
PHASE = 32

abbrev pub PHASE_RS : ℕ
PHASE_RS = 33

-- the pixels of value v are word PIXELS + v
abbrev pub PIXELS : ℕ
PIXELS = 34

-- the largest value of each word: the registers' limits, then pins 3, a byte, a bit, eight phases, a bit, four counts
abbrev pub rest_limits : List ℕ
rest_limits = 3 ∷ 255 ∷ 1 ∷ 7 ∷ 1 ∷ count_limits

abbrev pub word_limits : List ℕ
word_limits = limits ++ rest_limits

-- the phase's RS is 0 but in phases 4 and 5
abbrev pub rs_fits : ℕ → ℕ → Bool
rs_fits phase rs = eqb rs 0 || (eqb phase 4 || eqb phase 5)

-- how many words a record has
abbrev pub record_length : ℕ
record_length = 38

-- these words are a chip's record
unfoldable pub stands_for : List ℕ → Bool
stands_for ws = eqb (length ws) record_length && (within true ws word_limits && rs_fits (get_or ws PHASE 0) (get_or ws PHASE_RS 0))

-- the phases by their numbers
abbrev pub phases : Bool → List Phase
phases rs = Idle ∷ AddressAwaited ∷ Ignoring ∷ ControlAwaited ∷ OneByte rs ∷ EndlessBytes rs ∷ Reading ∷ ReadEnded ∷ []

abbrev pub phase_of : ℕ → Bool → Phase
phase_of n rs = get_or (phases rs) n Idle

abbrev pub phase_number : Phase → ℕ
phase_number Idle = 0
phase_number AddressAwaited = 1
phase_number Ignoring = 2
phase_number ControlAwaited = 3
phase_number (OneByte rs) = 4
phase_number (EndlessBytes rs) = 5
phase_number Reading = 6
phase_number ReadEnded = 7

abbrev pub bit : Bool → ℕ
bit b = cond b 1 0

abbrev pub is_set : ℕ → Bool
is_set n = eqb n 1

abbrev pub pixels_of : List ℕ → PixelCounts
pixels_of ws = by_value (λ v. get_or ws (PIXELS + v) 0)

-- the record that the words stand for, and its words
unfoldable pub chip_of : List ℕ → Chip
chip_of ws =
    record {
      registers = of_values ws;
      pins = get_or ws PINS 0;
      status = get_or ws STATUS 0;
      last_rs = is_set (get_or ws LAST_RS 0);
      phase = phase_of (get_or ws PHASE 0) (is_set (get_or ws PHASE_RS 0));
      pixels = pixels_of ws;
    }

unfoldable pub words_of : Chip → List ℕ
words_of c =
    values c.registers
    ++ (c.pins ∷ c.status ∷ bit c.last_rs ∷ phase_number c.phase ∷ bit (phase_rs c.phase) ∷ counts c.pixels)

-- ---- what reading and writing give

unfoldable pub read_of : List ℕ → Option Chip
read_of ws = cond (stands_for ws) (Some (chip_of ws)) None

-- words that stand for no record are refused by 2
abbrev pub read_number : Option Chip → ℕ
read_number (Some c) = 0
read_number None = 2

-- the buffer ws after a record was written; one of another length is left as it was
unfoldable pub stored : Chip → List ℕ → List ℕ
stored c ws = cond (eqb (length ws) record_length) (words_of c) ws
