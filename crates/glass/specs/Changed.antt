-- A chip with one register changed.
use Rattle.std.specs.Prelude.{ℕ}
use Rattle.registers.specs.declared.Chip.{Chip}
use Rattle.registers.specs.Record.{put, with_registers}

-- the same record with register f, by its place in the order, at n
abbrev pub changed : ℕ → ℕ → Chip → Chip
changed f n c = with_registers c (put f n c.registers)
