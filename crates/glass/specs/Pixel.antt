-- One pixel of the glass (document 01, "What the glass shows"): where its value stands, whether it is lit, by which grey register, and that register's
-- level.
use Rattle.std.specs.Prelude.{Bool, cond, not, ◌&&◌, ◌||◌, [], ◌∷◌, ℕ, ◌+◌, ◌*◌, ◌/◌, ◌%◌, ◌-◌, ◌^◌, leb, eqb, get_or}
use Rattle.registers.specs.declared.Registers.{Registers}

-- ---- where it stands

-- glass row r shows RAM row r, or 66 − r if MY = 1
abbrev pub ram_row : ℕ → ℕ → ℕ
ram_row my row = cond (eqb my 1) (66 - row) row

-- the place of a RAM row's pixels: a bank has four rows, row 4·bank + k. MX moves bytes as they are written, and plays no part here
abbrev pub place_at : ℕ → ℕ → ℕ
place_at ram column = 101 * (ram / 4) + column

abbrev pub bit_of : ℕ → ℕ → ℕ
bit_of b i = b / 2 ^ i % 2

-- the value of row 4·bank + k in the bank's byte b: bits 2k + 1 and 2k, the higher one worth 2
abbrev pub value_in : ℕ → ℕ → ℕ
value_in b k = 2 * bit_of b (2 * k + 1) + bit_of b (2 * k)

-- ---- whether it is lit

-- PD or DOF set
abbrev pub is_off : Registers → Bool
is_off r = eqb r.pd 1 || eqb r.dof 1

-- the RAM rows that a partial display drives: DP 000 rows 0..7, DP 111 rows 56..63, other DP none
abbrev pub is_driven : ℕ → ℕ → Bool
is_driven dp ram = (eqb dp 0b000 && leb ram 7) || (eqb dp 0b111 && leb 56 ram && leb ram 63)

-- PS = 1 is the partial display
abbrev pub is_undriven : ℕ → ℕ → ℕ → Bool
is_undriven ps dp ram = eqb ps 1 && not (is_driven dp ram)

-- ---- by which grey register

-- by D and E: 00 register 0; 01 register 3; 10 the register of the value v; 11 register 3 − v
abbrev pub register_used : ℕ → ℕ → ℕ → ℕ
register_used d e v = cond (eqb d 0) (cond (eqb e 0) 0 3) (cond (eqb e 0) v (3 - v))

pub data Pixel : Type 0 where
  dark : Pixel
  undriven : Pixel
  -- lit by the grey register of this number
  uses : ℕ → Pixel

-- what a RAM row shows of the byte at its place, tested in this order
abbrev pub pixel_of : Registers → ℕ → ℕ → Pixel
pixel_of r ram byte =
    cond (is_off r) dark
    (cond (is_undriven r.ps r.dp ram) undriven
    (uses (register_used r.d r.e (value_in byte (ram % 4)))))

-- ---- its level

-- the number that a grey register holds; there are four, and 0 stands for what is past them
abbrev pub held_by : Registers → ℕ → ℕ
held_by r g = get_or (r.gs0 ∷ r.gs1 ∷ r.gs2 ∷ r.gs3 ∷ []) g 0

-- the level for the number held. By document 01 it is that number, 0..63; document 02, W2, amends this: a register that holds 63 shows level 64, so that a
-- level is 0..62 or 64. Its source is the data sheet, 8.1.8: the chip converts a setting of 63 to 64 inside. The register still holds 63
abbrev pub level_for : ℕ → ℕ
level_for n = cond (eqb n 63) 64 n

-- the level of a grey register
abbrev pub level_of : Registers → ℕ → ℕ
level_of r g = level_for (held_by r g)
