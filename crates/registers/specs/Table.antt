-- The instruction set of the data sheet (Table 2; RS 0, R/W 0) as data, page by page; what a row's byte does to the registers.
-- docs/INSTRUCTIONS.md prints the same rows.
use Rattle.std.specs.Prelude.{Bool, true, false, ◌&&◌, ◌||◌, List, [], ◌∷◌, ℕ, zero, suc, ◌+◌, ◌*◌, ◌/◌, ◌%◌, ◌^◌, leb, eqb, get_or}
use Rattle.registers.specs.declared.Registers.{Registers}
use Rattle.registers.specs.Record.{limits, put}
use Rattle.registers.specs.Places.{H, DO, PD, «V», D, E, MX, MY, PS, X, Y, BS, BSH, DP, PRS, HVE, S, TC, SM, VOP, GR, GS0, DOF, DM, EC, OC}

-- where the bits of a part of a command byte go
pub data Target : Type 0 where
  -- the register at that place of the record
  register : ℕ → Target
  -- the same, but a value above the register's limit leaves it unchanged (house)
  bounded : ℕ → Target
  -- the grey register that GR selects
  selected : Target
  -- bits of the sheet that the record does not hold: TRS and BRS
  unheld : Target

-- `width` bits of the byte, the lowest of them bit `low`
pub record Part : Type 0 where
  pub target : Target
  pub low : ℕ
  pub width : ℕ

-- a command of one page: its fixed bits, with 0 at the open ones, and what the open ones mean, from the top
pub record Row : Type 0 where
  pub page : ℕ
  pub code : ℕ
  pub parts : List Part

abbrev pub part : Target → ℕ → ℕ → Part
part t l w = record { target = t; low = l; width = w }

abbrev pub row : ℕ → ℕ → List Part → Row
row p c ps = record { page = p; code = c; parts = ps }

-- the independent command page: its rows stand in every page (H has three bits, so 8 is no page)
abbrev pub every_page : ℕ
every_page = 8

abbrev pub nop : Row
nop = row every_page 0b0000_0000 []

-- a field of no bits is 0: page 0
abbrev pub page_return : Row
page_return = row every_page 0b0000_0001 (part (register H) 0 0 ∷ [])

-- page 0, function and RAM
abbrev pub instruction_set : Row
instruction_set = row 0 0b0000_1000 (part (bounded H) 0 3 ∷ [])

abbrev pub select_function : Row
select_function = row 0 0b0001_0000 (part (register DO) 3 1 ∷ part (register PD) 2 1 ∷ part (register «V») 1 1 ∷ [])

abbrev pub set_y : Row
set_y = row 0 0b0100_0000 (part (bounded Y) 0 5 ∷ [])

abbrev pub set_x : Row
set_x = row 0 0b1000_0000 (part (bounded X) 0 7 ∷ [])

-- page 1, display setting
abbrev pub display_control : Row
display_control = row 1 0b0000_0100 (part (register D) 1 1 ∷ part (register E) 0 1 ∷ [])

abbrev pub external_display_control : Row
external_display_control = row 1 0b0000_1000 (part (register MX) 2 1 ∷ part (register MY) 1 1 ∷ part (register PS) 0 1 ∷ [])

abbrev pub bias_system : Row
bias_system = row 1 0b0001_0000 (part (register BS) 0 3 ∷ [])

abbrev pub bias_system_half : Row
bias_system_half = row 1 0b0011_1000 (part (register BSH) 0 1 ∷ [])

abbrev pub display_part : Row
display_part = row 1 0b0100_0000 (part (register DP) 0 3 ∷ [])

-- page 2, high voltage generator
abbrev pub generator_control : Row
generator_control = row 2 0b0000_0100 (part (register PRS) 1 1 ∷ part (register HVE) 0 1 ∷ [])

abbrev pub generator_configuration : Row
generator_configuration = row 2 0b0000_1000 (part (register S) 0 3 ∷ [])

abbrev pub temperature_control : Row
temperature_control = row 2 0b0001_0000 (part (register TC) 0 3 ∷ [])

abbrev pub temperature_measurement : Row
temperature_measurement = row 2 0b0010_0000 (part (register SM) 0 1 ∷ [])

abbrev pub vlcd_control : Row
vlcd_control = row 2 0b1000_0000 (part (register VOP) 0 7 ∷ [])

-- page 3, grey-scale and colour
abbrev pub grey_register : Row
grey_register = row 3 0b0100_0000 (part (register GR) 0 2 ∷ [])

abbrev pub grey_level : Row
grey_level = row 3 0b1000_0000 (part selected 0 6 ∷ [])

-- page 4, special features
abbrev pub display_off : Row
display_off = row 4 0b0000_0100 (part (register DOF) 1 1 ∷ part (register DM) 0 1 ∷ [])

abbrev pub oscillator_setting : Row
oscillator_setting = row 4 0b0000_1000 (part (register EC) 1 1 ∷ part (register OC) 0 1 ∷ [])

abbrev pub row_block_swapping : Row
row_block_swapping = row 4 0b0100_0000 (part unheld 4 1 ∷ part unheld 3 1 ∷ [])

-- the whole table, in the sheet's order
abbrev pub rows : List Row
rows =
    nop ∷ page_return
    ∷ instruction_set ∷ select_function ∷ set_y ∷ set_x
    ∷ display_control ∷ external_display_control ∷ bias_system ∷ bias_system_half ∷ display_part
    ∷ generator_control ∷ generator_configuration ∷ temperature_control ∷ temperature_measurement ∷ vlcd_control
    ∷ grey_register ∷ grey_level
    ∷ display_off ∷ oscillator_setting ∷ row_block_swapping ∷ []

-- b without its lowest k bits
abbrev pub above : ℕ → ℕ → ℕ
above zero b = b
above (suc k) b = b / 2 ^ suc k

-- the number in a part of byte b
abbrev pub value : Part → ℕ → ℕ
value p b = above p.low b % 2 ^ p.width

-- the open bits of b, where they stand
abbrev pub opened : List Part → ℕ → ℕ
opened [] b = 0
opened (p ∷ ps) b = value p b * 2 ^ p.low + opened ps b

-- b is a byte of the row: the fixed bits are the row's, the open ones are its own
abbrev pub is_of : Row → ℕ → Bool
is_of w b = eqb b (w.code + opened w.parts b)

abbrev pub stands_in : Row → ℕ → Bool
stands_in w h = eqb w.page h || eqb w.page every_page

abbrev pub matches : ℕ → ℕ → Row → Bool
matches h b w = stands_in w h && is_of w b

abbrev pub keep : Bool → Registers → Registers → Registers
keep true r old = r
keep false r old = old

-- a number that the target takes: any, but for a bounded register, which has a limit below what its bits say
abbrev pub in_range_of : Target → ℕ → Bool
in_range_of (register f) n = true
in_range_of (bounded f) n = leb n (get_or limits f 0)
in_range_of selected n = true
in_range_of unheld n = true

-- a part's number goes to its target
abbrev pub put_to : Target → ℕ → Registers → Registers
put_to (register f) n r = put f n r
put_to (bounded f) n r = keep (in_range_of (bounded f) n) (put f n r) r
put_to selected n r = put (GS0 + r.gr % 4) n r
put_to unheld n r = r

-- what byte b does to the registers by these parts
abbrev pub taken : List Part → ℕ → Registers → Registers
taken [] b r = r
taken (p ∷ ps) b r = taken ps b (put_to p.target (value p b) r)

-- the targets take the numbers of all these parts in byte b
abbrev pub in_range : List Part → ℕ → Bool
in_range [] b = true
in_range (p ∷ ps) b = in_range_of p.target (value p b) && in_range ps b

abbrev pub no_row : Row
no_row = row 0 0 []

-- row i takes byte b in page h
abbrev pub matches_at : ℕ → ℕ → ℕ → Bool
matches_at i h b = matches h b (get_or rows i no_row)

abbrev pub or_next : Bool → ℕ → ℕ
or_next true n = 0
or_next false n = suc n

-- how many rows stand before the first that takes b in page h
abbrev pub row_among : ℕ → ℕ → List Row → ℕ
row_among h b [] = 0
row_among h b (w ∷ ws) = or_next (matches h b w) (row_among h b ws)

-- the place of the row that takes b in page h, or the number of rows
unfoldable pub row_at : ℕ → ℕ → ℕ
row_at h b = row_among h b rows
