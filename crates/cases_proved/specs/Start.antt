-- The states that the cases start from: a chip after reset with some registers set, and the counts of pixels of a counting start.
use Rattle.std.specs.Prelude.{List, [], ◌∷◌, ℕ, ◌+◌, ◌*◌}
use Rattle.cases_proved.specs.Cited.{Registers, Chip, State, state, places, put, reset_registers, reset_chip, with_registers, with_pixels, replicate, set, GS0}
use Rattle.cases_proved.specs.Cited.{GS1, GS2, GS3}

-- a register and its value
pub record Setting : Type 0 where
  pub register : ℕ
  pub value : ℕ

infix 80 ◌is◌
abbrev pub ◌is◌ : ℕ → ℕ → Setting
f is n = record { register = f; value = n }

abbrev pub with_settings : List Setting → Registers → Registers
with_settings [] r = r
with_settings (a ∷ rest) r = with_settings rest (put a.register a.value r)

-- pins 0, idle
abbrev pub chip_with : List Setting → Chip
chip_with before = with_registers (reset_chip 0) (with_settings before reset_registers)

abbrev pub zeros : List ℕ
zeros = replicate places 0

-- the same with all memory 0, and a count of 0; `upon-true` holds the counts of pixels against those of a counting start
abbrev pub upon : List Setting → State
upon before = state (chip_with before) zeros zeros 0

-- ---- the same chip and memories with something else changed

abbrev pub counting : ℕ → State → State
counting n s = state s.chip s.memory s.writers n

abbrev pub with_pins : ℕ → State → State
with_pins n s =
    let c = s.chip in
    state (record { registers = c.registers; pins = n; status = c.status; last_rs = c.last_rs; phase = c.phase; pixels = c.pixels })
    s.memory s.writers s.count

-- these counts of pixels, which need not be those of the memory
abbrev pub having : ℕ → ℕ → ℕ → ℕ → State → State
having n0 n1 n2 n3 s =
    state (with_pixels s.chip (record { zeros = n0; ones = n1; twos = n2; threes = n3 })) s.memory s.writers s.count

-- byte b at place k
abbrev pub holding : ℕ → ℕ → State → State
holding k b s = state s.chip (set s.memory k b) s.writers s.count

-- memories of these lengths
abbrev pub lent : ℕ → ℕ → State → State
lent n k s = state s.chip (replicate n 0) (replicate k 0) s.count

-- ---- what is shown

-- the cell of the first worked stream
abbrev pub one_cell : List ℕ
one_cell = set zeros (101 * 2 + 5) 0xA7

-- a chip after reset with these registers set, and with grey registers that can be told apart
abbrev pub viewed : List Setting → Chip
viewed before = chip_with (GS0 is 40 ∷ GS1 is 41 ∷ GS2 is 42 ∷ GS3 is 43 ∷ before)
