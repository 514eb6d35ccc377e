-- A command keeps the registers allowed.
use mathlib.Core.Path.{◌≡◌}
use mathlib.Core.Bool.{true}
use Prim.Native.Nat.{ℕ}
use Rattle.registers.specs.declared.Registers.{Registers}
use Rattle.registers.specs.Record.{allowed_registers}
use Rattle.registers.specs.Table.{row_at}
use Rattle.registers.proofs.Parts.{taken-allowed, row_room}
use Rattle.commands.specs.Command.{command_of, parts_at}

pub command-allowed : (b : ℕ) (r : Registers) → allowed_registers r ≡ true → allowed_registers (command_of b r) ≡ true
unfolding command_of
command-allowed b r h = taken-allowed (parts_at (row_at r.h b)) b r (row_room (row_at r.h b)) h
