-- Events for one chip of a bus, played on the bus, where each of them goes well and the other chips are left alone.
use Rattle.std.specs.Prelude.{true, List, ◌≡◌, ℕ, ◌+◌, ◌<◌, get_or, length}
use Rattle.chip.specs.Phases.{awaits_command}
use Rattle.chip.specs.Plays.{played}
use Rattle.chip.specs.Promised.{Command, Taken, is_acknowledged}
use Rattle.bus.specs.Bus.{Bus}
use Rattle.bus.specs.Reach.{KeptButPhase}
use Rattle.bus.specs.Streams.{Sent, sent, refusal_at, answer_at, bus_played, bus_before, device_with, is_on, chip_on, events_of}

-- the event is not refused; if it is a byte the bus answers that it is acknowledged; and that it is taken, if the chip with pins p awaits a command
pub record GoodOnBus (p : ℕ) (x : Sent) (b : Bus) : Type 0 where
  pub not_refused : refusal_at x b ≡ 0
  pub acknowledged : x.event < 256 → is_acknowledged (answer_at x b) ≡ true
  pub taken : x.event < 256 → awaits_command (device_with p b.devices).chip.phase ≡ true → answer_at x b ≡ Command Taken

-- every device with other pins than p is as it was, but for the phase
abbrev pub OthersKept : ℕ → Bus → Bus → Type 0
OthersKept p a b = (q : ℕ) → (q ≡ p → ⊥) → is_on q a.devices ≡ true → KeptButPhase (device_with q a.devices) (device_with q b.devices)

pub record PlaysOnBus (p : ℕ) (xs : List Sent) (b : Bus) : Type 0 where
  pub all-good : (i : ℕ) → i < length xs → GoodOnBus p (get_or xs i (sent 0 0)) (bus_before xs i b)
  -- the chip comes to where it would come alone
  pub same_chip : chip_on p (bus_played xs b) ≡ played (events_of xs) (chip_on p b)
  pub others_kept : OthersKept p b (bus_played xs b)
  pub count_after : (bus_played xs b).count ≡ b.count + length xs
