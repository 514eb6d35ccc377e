use mathlib.Core.Path.{◌≡◌}
use Prim.Native.Nat.{◌+◌, ◌-◌}
use Rattle.registers.specs.Data.{shares_of, byte_of}
use Rattle.instruction_table.proofs.encoding.byte_of.Given as goal

abbrev pub invariant-loop-part : goal.invariant-loop-part
invariant-loop-part l = l.sum + shares_of l.values l.row l.part (29 - l.part) ≡ byte_of l.values l.row
