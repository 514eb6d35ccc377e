-- One bus event (document 01, "Bus events", and 1 to 4 of "Numbers given back"; 16 of document 02, W8).
use Rattle.std.specs.Prelude.{Bool, true, false, cond, not, ◌&&◌, List, ◌≡◌, ℕ, zero, suc, ◌+◌, ◌-◌, ◌^◌, eqb, ltb, length, set}
use Rattle.registers.specs.declared.Chip.{Chip}
use Rattle.registers.specs.declared.PixelCounts.{PixelCounts}
use Rattle.registers.specs.declared.Phase.{Phase}
use Rattle.registers.specs.declared.Phase.TheVariants.{Idle, AddressAwaited, Ignoring, ControlAwaited, OneByte, EndlessBytes, Reading, ReadEnded}
use Rattle.registers.specs.Record.{allowed, phase_rs, in_phase, with_registers, with_pixels}
use Rattle.registers.specs.Refusals.{refuse, ◌then◌, lengths_refusal, record_refusal, is_listed_event}
use Rattle.registers.specs.State.{State, state, places}
use Rattle.commands.specs.Command.{command_of, answer_to}
use Rattle.display.specs.Display.{stored_of, place_of, next_address, pixels_fit, pixels_after}
use Rattle.phases.specs.Changes.{controlled, read_byte, pulsed, sensed}
use Rattle.phases.specs.Phases.{is_addressed, phase_after_address, phase_after_last_read}
use Rattle.engine.specs.declared.event.Event.{Event}
use Rattle.engine.specs.declared.event.Event.TheVariants.{Byte, Start, Stop, ReadAcknowledged, ReadNotAcknowledged, Reset, Sensor, Unlisted}
use Rattle.engine.specs.Answer.{Answer, Refused, Nothing, Acknowledged, NotAcknowledged, Command, Read}
use Rattle.engine.specs.Event.{event_of}

-- ---- refusals, in their order; 0 is none

-- 1 and 2, of the chip and the lengths of the lent memories
abbrev pub entry_for : Chip → ℕ → ℕ → ℕ
entry_for c memoryLength writersLength = lengths_refusal memoryLength writersLength then record_refusal c

-- what a step and a run test first
unfoldable pub entry_refusal : State → ℕ
entry_refusal s = entry_for s.chip (length s.memory) (length s.writers)

-- 3 and 4
unfoldable pub event_refusal : ℕ → ℕ → ℕ
event_refusal e count = refuse (not (is_listed_event e)) 3 then refuse (eqb count (2 ^ 64 - 1)) 4

-- a byte from the master that comes as display data: a phase has RS 1 only where such data is awaited
abbrev pub is_display_byte : ℕ → Phase → Bool
is_display_byte e p = ltb e 256 && phase_rs p

-- 16: a display byte after which a count of pixels would be below 0 or above that of all pixels
unfoldable pub pixel_refusal : ℕ → Chip → List ℕ → ℕ
pixel_refusal e c m = refuse (is_display_byte e c.phase && not (pixels_fit c.registers c.pixels m e)) 16

-- the pixels by value after event e: a display byte mends them, and no other event changes them
abbrev pub pixels_upon : ℕ → Chip → List ℕ → PixelCounts
pixels_upon e c m = cond (is_display_byte e c.phase) (pixels_after c.registers c.pixels m e) c.pixels

unfoldable pub refusal_of : ℕ → State → ℕ
refusal_of e s = entry_refusal s then event_refusal e s.count then pixel_refusal e s.chip s.memory

-- what 1 and 2 let pass
pub record Fit (s : State) : Type 0 where
  pub memory_long : length s.memory ≡ places
  pub writers_long : length s.writers ≡ places
  pub is-allowed : allowed s.chip ≡ true

-- ---- what comes of an event: the count is up to date, and is the event's number

pub record After : Type 0 where
  pub answer : Answer
  pub state : State

abbrev pub after : Answer → Chip → List ℕ → List ℕ → ℕ → After
after a c m w n = record { answer = a; state = Rattle.registers.specs.State.state c m w n }

-- this answer and this chip, with both memories and the count as they were
abbrev pub nothing_stored : Answer → Chip → State → After
nothing_stored a c s = after a c s.memory s.writers s.count

-- the same outcome but with the pixels by value as they were: the code mends them in a place of its own
abbrev pub unmended : PixelCounts → After → After
unmended n a = after a.answer (with_pixels a.state.chip n) a.state.memory a.state.writers a.state.count

-- ---- a byte from the master

unfoldable pub acknowledge : Bool → Answer
acknowledge t = cond t Acknowledged NotAcknowledged

-- a byte with RS 0 is a command, one with RS 1 display data, stored with the event's number, and the pixels by value are mended; then the phase is p
abbrev pub content_of : Bool → Phase → ℕ → State → After
content_of false p b s =
    nothing_stored (Command (answer_to s.chip.registers.h b)) (with_registers (in_phase s.chip p) (command_of b s.chip.registers)) s
content_of true p b s =
    after Acknowledged
    (with_pixels (with_registers (in_phase s.chip p) (next_address s.chip.registers)) (pixels_after s.chip.registers s.chip.pixels s.memory b))
    (set s.memory (place_of s.chip.registers) (stored_of s.chip.registers b))
    (set s.writers (place_of s.chip.registers) s.count) s.count

-- the answer to an address byte, and the phase after it
abbrev pub on_address : Bool → ℕ → State → After
on_address matched b s = nothing_stored (acknowledge matched) (in_phase s.chip (phase_after_address matched b)) s

abbrev pub on_byte : Phase → ℕ → State → After
on_byte Idle b s = nothing_stored NotAcknowledged s.chip s
on_byte AddressAwaited b s = on_address (is_addressed s.chip.pins b) b s
on_byte Ignoring b s = nothing_stored NotAcknowledged s.chip s
on_byte ControlAwaited b s = nothing_stored Acknowledged (controlled b s.chip) s
on_byte (OneByte rs) b s = content_of rs ControlAwaited b s
on_byte (EndlessBytes rs) b s = content_of rs (EndlessBytes rs) b s
on_byte Reading b s = nothing_stored NotAcknowledged (in_phase s.chip Ignoring) s
on_byte ReadEnded b s = nothing_stored NotAcknowledged (in_phase s.chip Ignoring) s

-- ---- the other events

unfoldable pub applied : Event → State → After
applied (Byte b) s = on_byte s.chip.phase b s
applied Start s = nothing_stored Nothing (in_phase s.chip AddressAwaited) s
applied Stop s = nothing_stored Nothing (in_phase s.chip Idle) s
applied ReadAcknowledged s = nothing_stored (Read (read_byte s.chip)) s.chip s
applied ReadNotAcknowledged s = nothing_stored (Read (read_byte s.chip)) (in_phase s.chip (phase_after_last_read s.chip.phase)) s
applied Reset s = nothing_stored Nothing (pulsed s.chip) s
applied (Sensor value) s = nothing_stored Nothing (sensed value s.chip) s
-- refused before it is applied
applied Unlisted s = nothing_stored Nothing s.chip s

-- ---- the step

abbrev pub counted : State → State
counted s = state s.chip s.memory s.writers (s.count + 1)

-- an accepted event first adds 1 to the count, and that is its number
unfoldable pub accepted : ℕ → State → After
accepted e s = applied (event_of e) (counted s)

abbrev pub unless_refused : ℕ → After → State → After
unless_refused zero a s = a
unless_refused (suc n) a s = nothing_stored (Refused (suc n)) s.chip s

unfoldable pub step_of : ℕ → State → After
step_of e s = unless_refused (refusal_of e s) (accepted e s) s
