-- Document 01, "Numbers given back", 1 to 4, and 16 of document 02, W8: exactly when each refusal of an event comes.
use Rattle.std.specs.Prelude.{true, false, ◌⊎◌, ◌≡◌, ℕ, ◌-◌, ◌^◌, ◌≤◌, ◌<◌, length, get_or}
use Rattle.registers.specs.Record.{allowed}
use Rattle.registers.specs.State.{State, places}
use Rattle.chip.specs.Phases.{awaits_data}
use Rattle.chip.specs.Promised.{Fit, stored_of, place_of, StaysIn, GoesOut}

-- the event numbers that document 01 lists
abbrev pub ListedEvent : ℕ → Type 0
ListedEvent e = (e ≤ 260) ⊎ ((512 ≤ e) × (e ≤ 767))

-- both lent memories are 1,717 long
pub record Lengths (s : State) : Type 0 where
  pub memory_long : length s.memory ≡ places
  pub writers_long : length s.writers ≡ places

-- ---- the pixels by value, where event e comes upon s as a display byte: the byte at the address leaves, the byte as it is stored joins

pub record ComesAsData (e : ℕ) (s : State) : Type 0 where
  pub is-byte : e < 256
  pub is_data : awaits_data s.chip.phase ≡ true

-- after the whole byte every count would be a number from 0 to 6,767
abbrev pub CountsStayIn : ℕ → State → Type 0
CountsStayIn e s =
    ComesAsData e s → (v : ℕ) → v < 4
    → StaysIn s.chip.pixels (place_of s.chip.registers) (get_or s.memory (place_of s.chip.registers) 0) (stored_of s.chip.registers e) v

-- some count would be below 0 or above 6,767
pub record CountGoesOut (e : ℕ) (s : State) : Type 0 where
  pub comes : ComesAsData e s
  pub goes :
      GoesOut s.chip.pixels (place_of s.chip.registers) (get_or s.memory (place_of s.chip.registers) 0) (stored_of s.chip.registers e)

-- ---- the table

-- an event that is not refused
pub record Accepts (e : ℕ) (s : State) : Type 0 where
  pub fit : Fit s
  pub listed : ListedEvent e
  pub room : s.count ≡ 2 ^ 64 - 1 → ⊥
  pub counts_stay_in : CountsStayIn e s

-- 0 is none; the rest in their order
pub data When (e : ℕ) (s : State) : ℕ → Type 0 where
  none : Accepts e s → When e s 0
  not_long : (Lengths s → ⊥) → When e s 1
  not_allowed : Lengths s → allowed s.chip ≡ false → When e s 2
  not_listed : Fit s → (ListedEvent e → ⊥) → When e s 3
  count_full : Fit s → ListedEvent e → s.count ≡ 2 ^ 64 - 1 → When e s 4
  goes_out : Fit s → (s.count ≡ 2 ^ 64 - 1 → ⊥) → CountGoesOut e s → When e s 16
