-- Frame after frame: what a pixel gets over many, while the chip may change.
use Rattle.std.specs.Prelude.{true, List, [], ◌∷◌, Result, Ok, Err, ◌≡◌, ℕ, zero, suc, ◌+◌, ◌%◌, ◌≤◌, ◌<◌, get_or}
use Rattle.registers.specs.declared.Registers.{Registers}
use Rattle.registers.specs.Record.{allowed}
use Rattle.registers.specs.State.{State}
use Rattle.pulses.specs.declared.answer.Pulses.{Pulses}
use Rattle.pulses.specs.declared.answer.Pulses.TheVariants.{Dark, Undriven, Lit}
use Rattle.pulses.specs.Pulse.{pulses_of}

-- the pulse of frame f, which is frame f mod 4 of its round; a pixel that is not lit has none
abbrev pub pulse_in : Result Pulses ℕ → ℕ → ℕ
pulse_in (Ok (Lit a b c d)) f = get_or (a ∷ b ∷ c ∷ d ∷ []) (f % 4) 0
pulse_in (Ok Dark) f = 0
pulse_in (Ok Undriven) f = 0
pulse_in (Err n) f = 0

-- the pulses that a pixel gets in n frames from frame f on, added up; `during` has what the chip and its memories are in each frame
abbrev pub total : (ℕ → State) → ℕ → ℕ → ℕ → ℕ → ℕ
total during row column f zero = 0
total during row column f (suc n) = pulse_in (pulses_of (during f).chip (during f).memory row column) f + total during row column (f + 1) n

-- an allowed record with these registers, and this display memory; pins, status byte, last RS, phase, count and writers may be any
pub record Holds (r : Registers) (m : List ℕ) (s : State) : Type 0 where
  pub is-allowed : allowed s.chip ≡ true
  pub registers : s.chip.registers ≡ r
  pub memory : s.memory ≡ m

-- in each of n frames from frame f on
abbrev pub Unchanged : Registers → List ℕ → (ℕ → State) → ℕ → ℕ → Type 0
Unchanged r m during f n = (k : ℕ) → f ≤ k → k < f + n → Holds r m (during k)
