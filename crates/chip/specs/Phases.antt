-- What a byte means, by the bus phase.
use Rattle.std.specs.Prelude.{Bool, true, false, not}
use Rattle.registers.specs.declared.Phase.{Phase}
use Rattle.registers.specs.declared.Phase.TheVariants.{Idle, AddressAwaited, Ignoring, ControlAwaited, OneByte, EndlessBytes, Reading, ReadEnded}

-- display data: one byte or endless bytes are awaited, with RS 1
abbrev pub awaits_data : Phase → Bool
awaits_data Idle = false
awaits_data AddressAwaited = false
awaits_data Ignoring = false
awaits_data ControlAwaited = false
awaits_data (OneByte rs) = rs
awaits_data (EndlessBytes rs) = rs
awaits_data Reading = false
awaits_data ReadEnded = false

-- a command: the same, with RS 0
abbrev pub awaits_command : Phase → Bool
awaits_command Idle = false
awaits_command AddressAwaited = false
awaits_command Ignoring = false
awaits_command ControlAwaited = false
awaits_command (OneByte rs) = not rs
awaits_command (EndlessBytes rs) = not rs
awaits_command Reading = false
awaits_command ReadEnded = false

-- nothing: the chip takes no byte
abbrev pub ignores_bytes : Phase → Bool
ignores_bytes Idle = true
ignores_bytes AddressAwaited = false
ignores_bytes Ignoring = true
ignores_bytes ControlAwaited = false
ignores_bytes (OneByte rs) = false
ignores_bytes (EndlessBytes rs) = false
ignores_bytes Reading = true
ignores_bytes ReadEnded = true

-- the phase after a byte that the chip does not take: a byte from the master while the chip reads out makes it ignore the rest
abbrev pub phase_after_ignored : Phase → Phase
phase_after_ignored Idle = Idle
phase_after_ignored AddressAwaited = AddressAwaited
phase_after_ignored Ignoring = Ignoring
phase_after_ignored ControlAwaited = ControlAwaited
phase_after_ignored (OneByte rs) = OneByte rs
phase_after_ignored (EndlessBytes rs) = EndlessBytes rs
phase_after_ignored Reading = Ignoring
phase_after_ignored ReadEnded = Ignoring
