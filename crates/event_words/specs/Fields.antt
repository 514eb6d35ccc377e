-- The fields of a row along the flat lists of the table, as the code goes through them.
use Rattle.std.specs.Prelude.{cond, List, [], ◌∷◌, ◌++◌, ℕ, ◌%◌, ◌^◌, eqb, get_or}
use Rattle.registers.specs.declared.Registers.{Registers}
use Rattle.registers.specs.Data.{part_rows, part_targets, part_lows, part_widths, place_of}
use Rattle.registers.specs.Record.{names, values}
use Rattle.registers.specs.Table.{above}
use Rattle.print.specs.Printed.{decimal_of}

-- a register by its place, and a number
abbrev pub named_field : ℕ → ℕ → List ℕ
named_field place n = 32 ∷ (get_or names place [] ++ 32 ∷ decimal_of n)

-- part k of all, if it is one of row i
abbrev pub field_at : Registers → ℕ → ℕ → ℕ → List ℕ
field_at r b i k =
    cond (eqb (get_or part_rows k 0) i)
    (named_field (place_of (get_or part_targets k 0) (values r)) (above (get_or part_lows k 0) b % 2 ^ get_or part_widths k 0)) []
