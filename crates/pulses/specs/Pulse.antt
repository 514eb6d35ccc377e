-- The pulses of the four frames that build a grey level (document 02, W4): of a level, and of a pixel of the glass.
use Rattle.std.specs.Prelude.{List, Result, Ok, Err, ℕ, ◌+◌, ◌*◌, ◌/◌, ◌-◌}
use Rattle.registers.specs.declared.Chip.{Chip}
use Rattle.glass.specs.declared.answer.Shown.{Shown}
use Rattle.glass.specs.declared.answer.Shown.TheVariants as shown
use Rattle.glass.specs.Glass.{glass_of}
use Rattle.pulses.specs.declared.answer.Pulses.{Pulses}
use Rattle.pulses.specs.declared.answer.Pulses.TheVariants.{Dark, Undriven, Lit}

-- frame k of the four, 0..3, gets the whole part of (k + 1)·g / 4 less that of k·g / 4, g being the level: 17 gives 4, 4, 4, 5, and 30 gives 7, 8, 7, 8.
-- The level is that which the glass shows, 0..62 or 64, so that a register of 63 gives 16 four times
abbrev pub pulse : ℕ → ℕ → ℕ
pulse g k = (k + 1) * g / 4 - k * g / 4

-- what is shown, a level as its four pulses
abbrev pub pulses_for : Result Shown ℕ → Result Pulses ℕ
pulses_for (Ok (shown.Level g)) = Ok (Lit (pulse g 0) (pulse g 1) (pulse g 2) (pulse g 3))
pulses_for (Ok shown.Dark) = Ok Dark
pulses_for (Ok shown.Undriven) = Ok Undriven
pulses_for (Err n) = Err n

-- what a pixel gets, for every input: refused by 1, 2 and 5 where the glass is
abbrev pub pulses_of : Chip → List ℕ → ℕ → ℕ → Result Pulses ℕ
pulses_of c memory row column = pulses_for (glass_of c memory row column)
