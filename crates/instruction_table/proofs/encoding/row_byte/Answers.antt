use mathlib.Core.Path.{ap, ◌∙◌}
use mathlib.Core.List.{List}
use Prim.Native.Nat.{ℕ}
use Rattle.registers.specs.Data.{byte_of}
use Rattle.instruction_table.proofs.RowByte.{byte-of}
use Rattle.instruction_table.proofs.encoding.row_byte.Goals as goal

pub returns : goal.returns
returns c =
    let given = c.args in
    c.byte_of.ensures ∙ ap (λ (v : List ℕ). byte_of v given.row) c.bytes.ensures ∙ byte-of given.row given.registers
