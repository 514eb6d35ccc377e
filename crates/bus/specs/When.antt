-- Exactly when each refusal of a bus event comes (document 02, W6 and W8), in its words.
use Rattle.std.specs.Prelude.{true, List, ◌⊎◌, ◌≡◌, ℕ, ◌-◌, ◌^◌, ◌≤◌, ◌<◌, length}
use Rattle.registers.specs.declared.Phase.{Phase}
use Rattle.registers.specs.declared.Phase.TheVariants.{Idle, AddressAwaited, Ignoring}
use Rattle.registers.specs.Record.{allowed}
use Rattle.registers.specs.State.{places}
use Rattle.chip.specs.When.{ListedEvent, CountsStayIn, CountGoesOut}
use Rattle.bus.specs.Bus.{Device, Bus, At, Somewhere, alone, is_past}

-- ---- 1 and 2

abbrev pub AllLong : List Device → Type 0
AllLong ds = (i : ℕ) (d : Device) → At i d ds → (length d.memory ≡ places) × (length d.writers ≡ places)

abbrev pub AllAllowed : List Device → Type 0
AllAllowed ds = (i : ℕ) (d : Device) → At i d ds → allowed d.chip ≡ true

-- ---- 12

-- no two have the same pins
abbrev pub OwnPins : List Device → Type 0
OwnPins ds = (i j : ℕ) (c d : Device) → i < j → At i c ds → At j d ds → c.chip.pins ≡ d.chip.pins → ⊥

abbrev pub AllIn : Phase → List Device → Type 0
AllIn p ds = (i : ℕ) (d : Device) → At i d ds → d.chip.phase ≡ p

-- all ignoring but at most one past its address
pub record OthersIgnore (ds : List Device) : Type 0 where
  pub ignoring_or_past : (i : ℕ) (d : Device) → At i d ds → (d.chip.phase ≡ Ignoring) ⊎ (is_past d ≡ true)
  pub one-past : (i j : ℕ) (c d : Device) → At i c ds → At j d ds → is_past c ≡ true → is_past d ≡ true → i ≡ j

-- devices that can share a bus
pub record Sharing (ds : List Device) : Type 0 where
  pub own_pins : OwnPins ds
  pub together : AllIn Idle ds ⊎ (AllIn AddressAwaited ds ⊎ OthersIgnore ds)

-- ---- the table

-- what 1, 2 and 12 let pass
pub record Sound (ds : List Device) : Type 0 where
  pub long : AllLong ds
  pub allowed : AllAllowed ds
  pub sharing : Sharing ds

-- a sensor reading names pins 0 to 3; the number added to other events is not looked at
abbrev pub PinsNamed : ℕ → ℕ → Type 0
PinsNamed e k = 512 ≤ e → e ≤ 767 → k ≤ 3

-- an event that is not refused
pub record Accepts (e k : ℕ) (b : Bus) : Type 0 where
  pub sound : Sound b.devices
  pub listed : ListedEvent e
  pub named : PinsNamed e k
  pub room : b.count ≡ 2 ^ 64 - 1 → ⊥
  pub counts_stay_in : (i : ℕ) (d : Device) → At i d b.devices → CountsStayIn e (alone b.count d)

-- 0 is none; the rest in their order
pub data When (e k : ℕ) (b : Bus) : ℕ → Type 0 where
  none : Accepts e k b → When e k b 0
  not_long : (AllLong b.devices → ⊥) → When e k b 1
  not_allowed : AllLong b.devices → (AllAllowed b.devices → ⊥) → When e k b 2
  not_sharing : AllLong b.devices → AllAllowed b.devices → (Sharing b.devices → ⊥) → When e k b 12
  not_listed : Sound b.devices → (ListedEvent e → ⊥) → When e k b 3
  no_such_pins : Sound b.devices → 512 ≤ e → e ≤ 767 → 3 < k → When e k b 13
  count_full : Sound b.devices → ListedEvent e → PinsNamed e k → b.count ≡ 2 ^ 64 - 1 → When e k b 4
  goes_out : Sound b.devices → (b.count ≡ 2 ^ 64 - 1 → ⊥) → Somewhere (λ (d : Device). CountGoesOut e (alone b.count d)) b.devices → When e k b 16
