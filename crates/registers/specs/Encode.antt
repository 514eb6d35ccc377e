-- A row's byte from the registers that it is to set: the other way round of `taken`.
use Rattle.std.specs.Prelude.{List, [], ◌∷◌, Bool, true, false, ◌&&◌, ◌||◌, ℕ, ◌+◌, ◌*◌, ◌%◌, ◌^◌, eqb, leb, get_or}
use Rattle.registers.specs.declared.Registers.{Registers}
use Rattle.registers.specs.Places.{GS0, GS3}
use Rattle.registers.specs.Record.{values}
use Rattle.registers.specs.Table.{Target, Part, Row, rows, in_range_of, put_to, or_next}
use Rattle.registers.specs.Table.Target.{register, bounded, selected, unheld}

-- what a target holds; bits that the record does not hold go out as 0
abbrev pub held : Target → Registers → ℕ
held (register f) t = get_or (values t) f 0
held (bounded f) t = get_or (values t) f 0
held selected t = get_or (values t) (GS0 + t.gr % 4) 0
held unheld t = 0

-- the open bits, where they stand
abbrev pub encoded : List Part → Registers → ℕ
encoded [] t = 0
encoded (p ∷ ps) t = held p.target t * 2 ^ p.low + encoded ps t

-- the byte by which the row says what t holds
abbrev pub row_byte : Row → Registers → ℕ
row_byte w t = w.code + encoded w.parts t

-- what t holds of the parts is what their targets take
abbrev pub holds_in_range : List Part → Registers → Bool
holds_in_range [] t = true
holds_in_range (p ∷ ps) t = in_range_of p.target (held p.target t) && holds_in_range ps t

-- registers r with the parts' fields as t has them
abbrev pub with_parts : List Part → Registers → Registers → Registers
with_parts [] t r = r
with_parts (p ∷ ps) t r = with_parts ps t (put_to p.target (held p.target t) r)

-- ---- which row sets a register

-- one of the four grey registers, which a row sets once GR selects it
abbrev pub is_grey : ℕ → Bool
is_grey f = leb GS0 f && leb f GS3

abbrev pub sets_field : ℕ → Target → Bool
sets_field f (register g) = eqb f g
sets_field f (bounded g) = false
sets_field f selected = is_grey f
sets_field f unheld = false

abbrev pub has_field : ℕ → List Part → Bool
has_field f [] = false
has_field f (p ∷ ps) = sets_field f p.target || has_field f ps

abbrev pub row_holding : ℕ → List Row → ℕ
row_holding f [] = 0
row_holding f (w ∷ ws) = or_next (has_field f w.parts) (row_holding f ws)

-- the place in the table of the row that sets register f; a field other than H, X and Y has one row
abbrev pub row_for : ℕ → ℕ
row_for f = row_holding f rows
