-- A pixel's pulses as one number: a refusal's is that of document 01's table, the others are the host's.
use Rattle.std.specs.Prelude.{Result, Ok, Err, ℕ, ◌+◌, ◌*◌, ◌^◌}
use Rattle.pulses.specs.declared.answer.Pulses.{Pulses}
use Rattle.pulses.specs.declared.answer.Pulses.TheVariants.{Dark, Undriven, Lit}

-- the four pulses are the bytes of a word, frame 0's the lowest, below a 1 that no refusal reaches
abbrev pub pulses_number : Result Pulses ℕ → ℕ
pulses_number (Err n) = n
pulses_number (Ok Dark) = 256
pulses_number (Ok Undriven) = 257
pulses_number (Ok (Lit a b c d)) = 2 ^ 32 + a + 2 ^ 8 * b + 2 ^ 16 * c + 2 ^ 24 * d
