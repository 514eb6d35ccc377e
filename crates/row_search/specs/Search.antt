-- The search for the row of a command byte: which rows are looked at in a page, in which order, and how many (document 02, W3).
-- docs/INSTRUCTIONS.md prints the order and says why it is this one.
use Rattle.std.specs.Prelude.{Bool, cond, List, [], ◌∷◌, ℕ, suc, ◌+◌, eqb, get_or}
use Rattle.std.specs.Int.Bits.{bit_and}
use Rattle.registers.specs.Data.{codes, masks}
use Rattle.registers.specs.Table.{Row, is_of, row_at, nop, page_return, instruction_set, select_function, set_y, set_x, display_control}
use Rattle.registers.specs.Table.{external_display_control, bias_system, bias_system_half, display_part, generator_control, generator_configuration}
use Rattle.registers.specs.Table.{temperature_control, temperature_measurement, vlcd_control, grey_register, grey_level, display_off, oscillator_setting}
use Rattle.registers.specs.Table.{row_block_swapping}
use Rattle.row_search.specs.declared.Found.{Found}
use Rattle.row_search.specs.declared.Page.{Page}
use Rattle.row_search.specs.declared.Page.TheVariants.{Function, Display, Generator, Grey, Special}

-- what H holds in a page
abbrev pub held_in : Page → ℕ
held_in Function = 0
held_in Display = 1
held_in Generator = 2
held_in Grey = 3
held_in Special = 4

-- the rows of a page but page return, in the order in which they are looked at; NOP, a row of every page, is the last
abbrev pub rows_in : Page → List Row
rows_in Function = set_x ∷ set_y ∷ instruction_set ∷ select_function ∷ nop ∷ []
rows_in Display = display_control ∷ external_display_control ∷ display_part ∷ bias_system ∷ bias_system_half ∷ nop ∷ []
rows_in Generator = vlcd_control ∷ temperature_measurement ∷ generator_configuration ∷ generator_control ∷ temperature_control ∷ nop ∷ []
rows_in Grey = grey_level ∷ grey_register ∷ nop ∷ []
rows_in Special = display_off ∷ oscillator_setting ∷ row_block_swapping ∷ nop ∷ []

-- rows are looked at one by one, up to the first that passes a test: how many that are
abbrev pub looked_at : {A : Type 0} → (A → Bool) → List A → ℕ
looked_at t [] = 0
looked_at t (w ∷ ws) = suc (cond (t w) 0 (looked_at t ws))

-- row i was found, and n rows were looked at
abbrev pub found : ℕ → ℕ → Found
found i n = record { row = i; looked = n }

-- the row is the first in the sheet's order that stands in this page and takes the byte; looked at are page return, then this page's rows
unfoldable pub search_of : Page → ℕ → Found
search_of p b = found (row_at (held_in p) b) (looked_at (λ w. is_of w b) (page_return ∷ rows_in p))

-- ---- rows by their numbers, as the code holds them

-- page return and the rows of a page, by their places in the table
abbrev pub order : Page → List ℕ
order Function = 1 ∷ 5 ∷ 4 ∷ 2 ∷ 3 ∷ 0 ∷ []
order Display = 1 ∷ 6 ∷ 7 ∷ 10 ∷ 8 ∷ 9 ∷ 0 ∷ []
order Generator = 1 ∷ 15 ∷ 14 ∷ 12 ∷ 11 ∷ 13 ∷ 0 ∷ []
order Grey = 1 ∷ 17 ∷ 16 ∷ 0 ∷ []
order Special = 1 ∷ 18 ∷ 19 ∷ 20 ∷ 0 ∷ []

-- the row number i takes byte b, by the flat lists
abbrev pub fits : ℕ → ℕ → Bool
fits b i = eqb (bit_and b (get_or masks i 0)) (get_or codes i 0)

-- the first of these rows that takes byte b; 21, the number of rows, where none does
abbrev pub first_of : ℕ → List ℕ → ℕ
first_of b [] = 21
first_of b (i ∷ is) = cond (fits b i) i (first_of b is)

-- what looking at these rows gives
abbrev pub found_among : List ℕ → ℕ → Found
found_among is b = found (first_of b is) (looked_at (fits b) is)

-- how often i stands among these
abbrev pub occurrences : ℕ → List ℕ → ℕ
occurrences i [] = 0
occurrences i (n ∷ ns) = cond (eqb n i) 1 0 + occurrences i ns
