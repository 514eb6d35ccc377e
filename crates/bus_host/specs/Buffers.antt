-- What a host in C lends for each chip of its bus, and four records read at once.
use Rattle.std.specs.Prelude.{Bool, true, cond, ◌&&◌, Option, None, Some, List, [], ◌∷◌, ℕ, ◌+◌, eqb, length}
use Rattle.registers.specs.State.{places}
use Rattle.bus.specs.Bus.{Device, device}
use Rattle.registers.specs.declared.Chip.{Chip}
use Rattle.record_words.specs.Words.{stands_for, chip_of, words_of}

-- a record's words, display bytes and writer numbers
pub record Lent : Type 0 where
  pub words : List ℕ
  pub memory : List ℕ
  pub writers : List ℕ

abbrev pub lent : List ℕ → List ℕ → List ℕ → Lent
lent ws m w = record { words = ws; memory = m; writers = w }

abbrev pub four_lent :
    List ℕ → List ℕ → List ℕ → List ℕ → List ℕ → List ℕ → List ℕ → List ℕ → List ℕ → List ℕ → List ℕ → List ℕ → List Lent
four_lent ws0 m0 w0 ws1 m1 w1 ws2 m2 w2 ws3 m3 w3 = lent ws0 m0 w0 ∷ lent ws1 m1 w1 ∷ lent ws2 m2 w2 ∷ lent ws3 m3 w3 ∷ []

-- the chip whose record the words stand for, and a chip in words
abbrev pub device_in : Lent → Device
device_in l = device (chip_of l.words) l.memory l.writers

abbrev pub lent_by : Device → Lent
lent_by d = lent (words_of d.chip) d.memory d.writers

-- ---- tests

abbrev pub has_lengths : Lent → Bool
has_lengths l = eqb (length l.memory) places && eqb (length l.writers) places

abbrev pub has_record : Lent → Bool
has_record l = stands_for l.words

abbrev pub every_lent : (Lent → Bool) → List Lent → Bool
every_lent f [] = true
every_lent f (l ∷ ls) = f l && every_lent f ls

abbrev pub how_many_lent : (Lent → Bool) → List Lent → ℕ
how_many_lent f [] = 0
how_many_lent f (l ∷ ls) = cond (f l) 1 0 + how_many_lent f ls

-- ---- four records

abbrev pub chips_of : List ℕ → List ℕ → List ℕ → List ℕ → List Chip
chips_of ws0 ws1 ws2 ws3 = chip_of ws0 ∷ chip_of ws1 ∷ chip_of ws2 ∷ chip_of ws3 ∷ []

unfoldable pub four_read : List ℕ → List ℕ → List ℕ → List ℕ → Option (List Chip)
four_read ws0 ws1 ws2 ws3 =
    cond (stands_for ws0 && (stands_for ws1 && (stands_for ws2 && stands_for ws3))) (Some (chips_of ws0 ws1 ws2 ws3)) None
