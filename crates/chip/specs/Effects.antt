-- What a display byte does: the shape that its law is stated in.
use Rattle.std.specs.Prelude.{ℕ, ◌+◌, set}
use Rattle.registers.specs.Record.{in_phase, with_registers, with_pixels}
use Rattle.registers.specs.State.{State}
use Rattle.phases.specs.Phases.{phase_after_content}
use Rattle.chip.specs.Promised.{Acknowledged, After, after, stored_of, place_of, next_address, pixels_after}

-- display byte b is stored as the registers say, with the event's number, the pixels by value are mended, and the address moves on
abbrev pub displayed : ℕ → State → After
displayed b s =
    after Acknowledged
    (with_pixels (with_registers (in_phase s.chip (phase_after_content s.chip.phase)) (next_address s.chip.registers))
    (pixels_after s.chip.registers s.chip.pixels s.memory b))
    (set s.memory (place_of s.chip.registers) (stored_of s.chip.registers b))
    (set s.writers (place_of s.chip.registers) (s.count + 1)) (s.count + 1)
