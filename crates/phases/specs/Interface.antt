-- A chip's record as the code holds it while events come: the registers, the bus interface, and the pixels by value.
use Rattle.registers.specs.declared.Chip.{Chip}
use Rattle.registers.specs.declared.Phase.{Phase}
use Rattle.registers.specs.declared.PixelCounts.{PixelCounts}
use Rattle.registers.specs.declared.Registers.{Registers}
use Rattle.phases.specs.declared.interface.Interface.{Interface}

-- put together
abbrev pub whole : Registers → Interface → PixelCounts → Chip
whole r i n =
    record { registers = r; pins = i.pins; status = i.status; last_rs = i.last_rs; phase = i.phase; pixels = n }

-- the same interface in another phase
abbrev pub turned : Interface → Phase → Interface
turned i p = record { pins = i.pins; status = i.status; last_rs = i.last_rs; phase = p }
