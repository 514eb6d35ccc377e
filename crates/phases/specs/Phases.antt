-- The bus phases: what a byte is in each of them, and which phase comes after it.
use Rattle.std.specs.Prelude.{Bool, true, false, cond, ℕ, ◌+◌, ◌/◌, ◌%◌, eqb}
use Rattle.registers.specs.declared.Phase.{Phase}
use Rattle.registers.specs.declared.Phase.TheVariants.{Idle, AddressAwaited, Ignoring, ControlAwaited, OneByte, EndlessBytes, Reading, ReadEnded}

-- ---- an address byte

-- high seven bits 01111 SA1 SA0
unfoldable pub is_addressed : ℕ → ℕ → Bool
is_addressed pins b = eqb (b / 2) (60 + pins)

-- the low bit of a matching address: 0 writes, 1 reads
unfoldable pub phase_after_address : Bool → ℕ → Phase
phase_after_address matched b = cond matched (cond (eqb (b % 2) 0) ControlAwaited Reading) Ignoring

-- ---- a control byte

-- bit 6 of a control byte is RS, bit 7 is Co
abbrev pub rs_of : ℕ → Bool
rs_of b = eqb (b / 64 % 2) 1

abbrev pub phase_after_control : ℕ → Phase
phase_after_control b = cond (eqb (b / 128) 1) (OneByte (rs_of b)) (EndlessBytes (rs_of b))

-- ---- content: a command where RS is 0, display data where it is 1

abbrev pub awaits_content : Phase → Bool
awaits_content Idle = false
awaits_content AddressAwaited = false
awaits_content Ignoring = false
awaits_content ControlAwaited = false
awaits_content (OneByte rs) = true
awaits_content (EndlessBytes rs) = true
awaits_content Reading = false
awaits_content ReadEnded = false

-- content that goes on up to START or STOP
abbrev pub is_endless : Phase → Bool
is_endless Idle = false
is_endless AddressAwaited = false
is_endless Ignoring = false
is_endless ControlAwaited = false
is_endless (OneByte rs) = false
is_endless (EndlessBytes rs) = true
is_endless Reading = false
is_endless ReadEnded = false

-- a single byte is followed by a control byte, endless bytes by more of them
abbrev pub phase_after_content : Phase → Phase
phase_after_content Idle = Idle
phase_after_content AddressAwaited = AddressAwaited
phase_after_content Ignoring = Ignoring
phase_after_content ControlAwaited = ControlAwaited
phase_after_content (OneByte rs) = ControlAwaited
phase_after_content (EndlessBytes rs) = EndlessBytes rs
phase_after_content Reading = Reading
phase_after_content ReadEnded = ReadEnded

-- ---- reading

abbrev pub is_reading : Phase → Bool
is_reading Idle = false
is_reading AddressAwaited = false
is_reading Ignoring = false
is_reading ControlAwaited = false
is_reading (OneByte rs) = false
is_reading (EndlessBytes rs) = false
is_reading Reading = true
is_reading ReadEnded = false

-- a byte that the master does not acknowledge ends the read
unfoldable pub phase_after_last_read : Phase → Phase
phase_after_last_read p = cond (is_reading p) ReadEnded p
