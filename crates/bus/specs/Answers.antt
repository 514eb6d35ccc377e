-- What the laws of a bus's answers say of one device.
use Rattle.std.specs.Prelude.{true, ◌⊎◌, ◌≡◌, ℕ}
use Rattle.engine.specs.Event.{is_acknowledged}
use Rattle.engine.specs.Step.{step_of}
use Rattle.chip.specs.Phases.{awaits_command}
use Rattle.bus.specs.Bus.{Device, alone}

-- as a chip of its own with count n beside it, it acknowledges e
abbrev pub Acknowledges : ℕ → ℕ → Device → Type 0
Acknowledges e n d = is_acknowledged (step_of e (alone n d)).answer ≡ true

-- a byte would come to it as a command
abbrev pub AwaitsCommand : Device → Type 0
AwaitsCommand d = awaits_command d.chip.phase ≡ true

-- the two reads: the master acknowledges the byte, or does not
abbrev pub IsRead : ℕ → Type 0
IsRead e = (e ≡ 258) ⊎ (e ≡ 259)
