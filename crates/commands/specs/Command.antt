-- A command byte: the row of the present page that takes it changes its own fields, and a byte of no row does nothing; and how the chip answers it.
use Rattle.std.specs.Prelude.{Bool, true, false, cond, List, [], map, ℕ, ltb, eqb, get_or, length}
use Rattle.registers.specs.declared.Registers.{Registers}
use Rattle.registers.specs.Table.{Row, Part, rows, row_at, taken, in_range}
use Rattle.commands.specs.declared.answer.CommandAnswer.{CommandAnswer}
use Rattle.commands.specs.declared.answer.CommandAnswer.TheVariants.{Taken, Unknown, OutOfRange}

-- the parts of row i; past the last row there are none
abbrev pub parts_at : ℕ → List Part
parts_at i = get_or (map (λ (w : Row). w.parts) rows) i []

unfoldable pub command_of : ℕ → Registers → Registers
command_of b r = taken (parts_at (row_at r.h b)) b r

-- ---- the answer (document 02, W5): from the table and the page alone, whatever the other registers hold

-- to a byte of row i: past the last row it is unknown, and else taken, unless its number is out of range
abbrev pub row_answer : ℕ → ℕ → CommandAnswer
row_answer i b = cond (ltb i (length rows)) (cond (in_range (parts_at i) b) Taken OutOfRange) Unknown

-- to byte b in page h
unfoldable pub answer_to : ℕ → ℕ → CommandAnswer
answer_to h b = row_answer (row_at h b) b

-- the numbers that a host has for these answers
abbrev pub command_number : CommandAnswer → ℕ
command_number Taken = 259
command_number Unknown = 260
command_number OutOfRange = 261

abbrev pub is_taken : CommandAnswer → Bool
is_taken Taken = true
is_taken Unknown = false
is_taken OutOfRange = false

-- 1 where answer a is this one, 0 where it is another
abbrev pub counts : CommandAnswer → CommandAnswer → ℕ
counts k a = cond (eqb (command_number a) (command_number k)) 1 0
