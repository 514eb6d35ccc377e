-- Events played one after the other, and what one needs to know of a chip to send it messages.
use Rattle.std.specs.Prelude.{true, List, [], ◌∷◌, ◌++◌, ◌≡◌, ℕ, ◌+◌, ◌*◌, ◌^◌, ◌<◌, set}
use Rattle.registers.specs.declared.Registers.{Registers}
use Rattle.registers.specs.State.{State}
use Rattle.chip.specs.Phases.{awaits_command}
use Rattle.chip.specs.Promised.{Command, Taken, is_acknowledged, Fit, refusal_of, step_of, command_of, answer_to, stored_of, place_of, next_address, TrueCounts}

-- the event is not refused, and if it is a byte it is acknowledged; if that is a command byte, it is taken
pub record Good (e : ℕ) (s : State) : Type 0 where
  pub not_refused : refusal_of e s ≡ 0
  pub acknowledged : e < 256 → is_acknowledged (step_of e s).answer ≡ true
  pub taken : e < 256 → awaits_command s.chip.phase ≡ true → (step_of e s).answer ≡ Command Taken

-- each event is good upon the state that the one before it left, and Q holds of the last state
unfoldable pub Plays : List ℕ → (State → Type 0) → State → Type 0
Plays [] Q s = Q s
Plays (e ∷ es) Q s = Good e s × Plays es Q (step_of e s).state

-- the state after these events
abbrev pub played : List ℕ → State → State
played [] s = s
played (e ∷ es) s = played es (step_of e s).state

-- what can be seen of a state from outside: registers, display memory, pins, that 1 and 2 let it pass, that its counts of pixels are true, and room
-- for n more events
pub record Visible (r : Registers) (m : List ℕ) (pins n : ℕ) (s : State) : Type 0 where
  pub registers : s.chip.registers ≡ r
  pub memory : s.memory ≡ m
  pub pins_are : s.chip.pins ≡ pins
  pub fit : Fit s
  pub true_counts : TrueCounts s
  pub room : s.count + n < 2 ^ 64

-- ---- messages

-- the address byte of a write to the chip with these pins
abbrev pub write_address : ℕ → ℕ
write_address pins = 120 + 2 * pins

-- command bytes, each after its own control byte 80h, and what follows them
abbrev pub singles : List ℕ → List ℕ → List ℕ
singles [] es = es
singles (b ∷ bs) es = 128 ∷ b ∷ singles bs es

-- START, address, commands, STOP
abbrev pub message : ℕ → List ℕ → List ℕ
message pins bs = 256 ∷ write_address pins ∷ singles bs (257 ∷ [])

-- START, address, commands, 40h, display bytes, STOP
abbrev pub data_message : ℕ → List ℕ → List ℕ → List ℕ
data_message pins bs ds = 256 ∷ write_address pins ∷ singles bs (64 ∷ ds ++ 257 ∷ [])

-- command byte b is taken, and takes registers r to r'
pub record Does (b : ℕ) (r r' : Registers) : Type 0 where
  pub is-byte : b < 256
  pub is-taken : answer_to r.h b ≡ Taken
  pub leaves : command_of b r ≡ r'

-- command bytes, one after the other, take r to r'
pub data Leads : List ℕ → Registers → Registers → Type 0 where
  no_more : {r : Registers} → Leads [] r r
  by : {b : ℕ} {bs : List ℕ} {r q r' : Registers} → Does b r q → Leads bs q r' → Leads (b ∷ bs) r r'

-- the registers after display bytes
unfoldable pub advanced : List ℕ → Registers → Registers
advanced [] r = r
advanced (d ∷ ds) r = advanced ds (next_address r)

-- the display memory after display bytes
unfoldable pub written : List ℕ → Registers → List ℕ → List ℕ
written [] r m = m
written (d ∷ ds) r m = written ds (next_address r) (set m (place_of r) (stored_of r d))

-- all of them are bytes
abbrev pub Bytes : List ℕ → Type 0
Bytes [] = Unit
Bytes (b ∷ bs) = (b < 256) × Bytes bs
