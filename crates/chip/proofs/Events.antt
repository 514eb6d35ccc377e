-- What each kind of event does, where it is not refused; and that only command bytes are answered as commands.
use mathlib.Core.Bool.{true, false, Bool}
use mathlib.Core.Path.{◌≡◌, refl, ap, ◌∙◌, sym, subst}
use Prim.Native.Nat.{ℕ, ◌<◌}
use native.Mathlib.Decide.{dec_lt}
use native.Mathlib.Omega.{arith}
use lib.ListN.{set}
use Rattle.registers.specs.declared.Phase.{Phase}
use Rattle.registers.specs.declared.Phase.TheVariants.{Idle, AddressAwaited, Ignoring, ControlAwaited, OneByte, EndlessBytes, Reading, ReadEnded}
use Rattle.registers.specs.Record.{in_phase, with_registers, with_pixels}
use Rattle.registers.specs.State.{State}
use Rattle.registers.proofs.Below.{false-true, true-false}
use Rattle.phases.specs.Phases.{phase_after_content}
use Rattle.engine.specs.declared.event.Event.{Event}
use Rattle.engine.specs.Step.{on_byte, applied, accepted, counted, acknowledge}
use Rattle.engine.proofs.Events.{byte-event, other-event}
use Rattle.engine.specs.declared.event.Event.TheVariants.{Byte, Start, Stop, ReadAcknowledged, ReadNotAcknowledged, Reset, Sensor, Unlisted}
use Rattle.engine.specs.Event.{event_of, is_byte}
use Rattle.chip.specs.Phases.{awaits_data, awaits_command, ignores_bytes, phase_after_ignored}
use Rattle.chip.specs.Promised.{Acknowledged, NotAcknowledged, Command, after, nothing_stored, refusal_of, step_of, command_of, answer_to, stored_of}
use Rattle.chip.specs.Promised.{place_of, next_address, pixels_after, Answer, CommandAnswer, Refused, Nothing, Read, After}
use Rattle.chip.specs.Effects.{displayed}
use Rattle.chip.proofs.Refusals.{accepted-step}

same-phase : (s : State) (p : Phase) → s.chip.phase ≡ p → nothing_stored NotAcknowledged s.chip s ≡ nothing_stored NotAcknowledged (in_phase s.chip p) s
same-phase s p e = ap (λ (q : Phase). nothing_stored NotAcknowledged (in_phase s.chip q) s) e

-- a byte in the phases that take a command, take display data, or take nothing
pub command-at :
    (p : Phase) (b : ℕ) (s : State) → awaits_command p ≡ true
    → on_byte p b s
    ≡ nothing_stored (Command (answer_to s.chip.registers.h b)) (with_registers (in_phase s.chip (phase_after_content p)) (command_of b s.chip.registers)) s
command-at Idle b s t = absurd (false-true t)
command-at AddressAwaited b s t = absurd (false-true t)
command-at Ignoring b s t = absurd (false-true t)
command-at ControlAwaited b s t = absurd (false-true t)
command-at (OneByte true) b s t = absurd (false-true t)
command-at (OneByte false) b s t = refl
command-at (EndlessBytes true) b s t = absurd (false-true t)
command-at (EndlessBytes false) b s t = refl
command-at Reading b s t = absurd (false-true t)
command-at ReadEnded b s t = absurd (false-true t)

pub display-at :
    (p : Phase) (b : ℕ) (s : State) → awaits_data p ≡ true
    → on_byte p b s
    ≡ after Acknowledged
    (with_pixels (with_registers (in_phase s.chip (phase_after_content p)) (next_address s.chip.registers))
    (pixels_after s.chip.registers s.chip.pixels s.memory b))
    (set s.memory (place_of s.chip.registers) (stored_of s.chip.registers b)) (set s.writers (place_of s.chip.registers) s.count) s.count
display-at Idle b s t = absurd (false-true t)
display-at AddressAwaited b s t = absurd (false-true t)
display-at Ignoring b s t = absurd (false-true t)
display-at ControlAwaited b s t = absurd (false-true t)
display-at (OneByte true) b s t = refl
display-at (OneByte false) b s t = absurd (false-true t)
display-at (EndlessBytes true) b s t = refl
display-at (EndlessBytes false) b s t = absurd (false-true t)
display-at Reading b s t = absurd (false-true t)
display-at ReadEnded b s t = absurd (false-true t)

pub ignored-at :
    (p : Phase) (b : ℕ) (s : State) → s.chip.phase ≡ p → ignores_bytes p ≡ true
    → on_byte p b s ≡ nothing_stored NotAcknowledged (in_phase s.chip (phase_after_ignored p)) s
ignored-at Idle b s e t = same-phase s Idle e
ignored-at AddressAwaited b s e t = absurd (false-true t)
ignored-at Ignoring b s e t = same-phase s Ignoring e
ignored-at ControlAwaited b s e t = absurd (false-true t)
ignored-at (OneByte rs) b s e t = absurd (false-true t)
ignored-at (EndlessBytes rs) b s e t = absurd (false-true t)
ignored-at Reading b s e t = refl
ignored-at ReadEnded b s e t = refl

-- an accepted byte, by the phase
pub by-phase :
    (s : State) (b : ℕ) → b < 256 → refusal_of b s ≡ 0
    → step_of b s ≡ on_byte s.chip.phase b (counted s)
unfolding accepted applied
by-phase s b is_byte_lem h =
    accepted-step b s h
    ∙ ap (λ (e : Event). applied e (counted s)) (byte-event b is_byte_lem)

pub in-known-phase :
    (s : State) (b : ℕ) → b < 256 → refusal_of b s ≡ 0 → (p : Phase) → s.chip.phase ≡ p
    → step_of b s ≡ on_byte p b (counted s)
in-known-phase s b is_byte_lem h p e =
    by-phase s b is_byte_lem h ∙ ap (λ (q : Phase). on_byte q b (counted s)) e

pub display-step : (s : State) (b : ℕ) → b < 256 → refusal_of b s ≡ 0 → awaits_data s.chip.phase ≡ true → step_of b s ≡ displayed b s
display-step s b is_byte_lem h t =
    by-phase s b is_byte_lem h ∙ display-at s.chip.phase b (counted s) t

-- ---- only command bytes are answered as commands

abbrev IsCommand : Answer → Type 0
IsCommand (Refused k) = ⊥
IsCommand Nothing = ⊥
IsCommand Acknowledged = ⊥
IsCommand NotAcknowledged = ⊥
IsCommand (Command a) = Unit
IsCommand (Read b) = ⊥

acknowledge-none : (t : Bool) → IsCommand (acknowledge t) → ⊥
unfolding acknowledge
acknowledge-none true c = c
acknowledge-none false c = c

byte-command : (p : Phase) (b : ℕ) (s : State) → IsCommand (on_byte p b s).answer → awaits_command p ≡ true
byte-command Idle b s c = absurd c
byte-command AddressAwaited b s c = absurd (acknowledge-none _ c)
byte-command Ignoring b s c = absurd c
byte-command ControlAwaited b s c = absurd c
byte-command (OneByte true) b s c = absurd c
byte-command (OneByte false) b s c = refl
byte-command (EndlessBytes true) b s c = absurd c
byte-command (EndlessBytes false) b s c = refl
byte-command Reading b s c = absurd c
byte-command ReadEnded b s c = absurd c

applied-command :
    (v : Event) (s : State) → IsCommand (applied v s).answer → (is_byte v ≡ true) × (awaits_command s.chip.phase ≡ true)
unfolding applied
applied-command (Byte b) s c = (refl, byte-command s.chip.phase b s c)
applied-command Start s c = absurd c
applied-command Stop s c = absurd c
applied-command ReadAcknowledged s c = absurd c
applied-command ReadNotAcknowledged s c = absurd c
applied-command Reset s c = absurd c
applied-command (Sensor v) s c = absurd c
applied-command Unlisted s c = absurd c

-- the same answer, the same answer to a command
pub same-command : {a b : CommandAnswer} → Command a ≡ Command b → a ≡ b
same-command {a} {b} e = subst (λ (x : Answer). held x ≡ b) (sym e) refl
  where
    held : Answer → CommandAnswer
    held (Refused k) = b
    held Nothing = b
    held Acknowledged = b
    held NotAcknowledged = b
    held (Command x) = x
    held (Read n) = b

-- an event that is answered as a command is a byte, and a command was awaited
pub answered-command :
    (e : ℕ) (s : State) → refusal_of e s ≡ 0 → (a : CommandAnswer) → (step_of e s).answer ≡ Command a
    → (e < 256) × (awaits_command s.chip.phase ≡ true)
unfolding accepted
answered-command e s h a q =
    let is : IsCommand (accepted e s).answer =
    subst IsCommand (sym (ap (λ (x : After). x.answer) (sym (accepted-step e s h)) ∙ q)) tt
    in
    let so = applied-command (event_of e) (counted s) is in
    (below (dec_lt e 256) so.0, so.1)
  where
    below : Dec (e < 256) → is_byte (event_of e) ≡ true → e < 256
    below (yes l) t = l
    below (no n) t = absurd (true-false (sym t ∙ other-event e (omega arith)))
