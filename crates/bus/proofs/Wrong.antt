-- What a bus does not do: wrong rules, and what they would give at a chosen bus. Most are computed: a definition that followed such a rule would not
-- have passed here.
use mathlib.Core.Bool.{true, false, cond}
use mathlib.Core.List.{List, [], ◌∷◌, map}
use mathlib.Core.Logic.{inl, inr}
use mathlib.Core.Path.{◌≡◌, refl, ap}
use Prim.Native.Nat.{ℕ, zero, suc, ◌+◌, ◌-◌, ◌^◌, ◌≤◌}
use native.Mathlib.Omega.{arith}
use lib.ListN.{get_or}
use Rattle.registers.specs.declared.Chip.{Chip}
use Rattle.registers.specs.declared.Phase.{Phase}
use Rattle.registers.specs.declared.Phase.TheVariants.{Idle, AddressAwaited, Ignoring, ControlAwaited, EndlessBytes, Reading}
use Rattle.registers.specs.Record.{reset_registers, put, allowed, cleared}
use Rattle.registers.proofs.Below.{false-true}
use Rattle.commands.specs.declared.answer.CommandAnswer.{CommandAnswer}
use Rattle.commands.specs.declared.answer.CommandAnswer.TheVariants.{Taken, Unknown, OutOfRange}
use Rattle.commands.specs.Command.{answer_to, command_number}
use Rattle.display.specs.Display.{stored_of, place_of, column_of}
use Rattle.phases.specs.Changes.{read_byte, pulsed, sensed}
use Rattle.phases.specs.Phases.{is_addressed}
use Rattle.engine.specs.Answer.{Answer, Nothing, Acknowledged, Read}
use Rattle.engine.specs.Event.{event_of, number_of}
use Rattle.engine.specs.Step.{acknowledge, on_byte, applied}
use Rattle.chip.specs.When.{ListedEvent}
use Rattle.bus.specs.Bus.{Device, device, Bus, bus, alone, device_of, is_past}
use Rattle.bus.specs.Reach.{pulsed_device}
use Rattle.bus.specs.Refusals.{bus_refusal}
use Rattle.bus.specs.Step.{BusAfter, heard_by, device_after, unanswered, answer_of, bus_accepted, bus_step_of}
use Rattle.bus.specs.When.{When, not_sharing, not_listed, no_such_pins, count_full, goes_out}
use Rattle.bus.proofs.Refusals.{shares, exactly-when, refused-changes-nothing, pins-of-readings, bus-accepts}
use Rattle.bus.proofs.Speaking.{one-past-place}

-- ---- chosen devices

-- a chip with these pins in this phase: status 5, last RS 0, and registers as after a reset but PD 0 and SM 1
abbrev chip_in : ℕ → Phase → Chip
chip_in pins p = record { registers = put 2 0 (put 18 1 reset_registers); pins = pins; status = 5; last_rs = false; phase = p; pixels = cleared }

-- of its memories only the first place matters here
abbrev device_in : ℕ → Phase → Device
device_in pins p = device (chip_in pins p) (0 ∷ []) (0 ∷ [])

abbrev awaiting : List Device
awaiting = device_in 0 AddressAwaited ∷ device_in 1 AddressAwaited ∷ []

abbrev reading : List Device
reading = device_in 0 Ignoring ∷ device_in 1 Reading ∷ []

-- chip 1 is sent data
abbrev storing : List Device
storing = device_in 0 Ignoring ∷ device_in 1 (EndlessBytes true) ∷ []

abbrev statuses : List Device → List ℕ
statuses ds = map (λ (d : Device). d.chip.status) ds

-- ---- answers

-- the first chip alone
abbrev by_first : ℕ → ℕ → ℕ → List Device → Answer
by_first e k n [] = unanswered (event_of e)
by_first e k n (d ∷ ds) = (heard_by e k n d).answer

-- the last chip alone
abbrev by_last : ℕ → ℕ → ℕ → List Device → Answer
by_last e k n [] = unanswered (event_of e)
by_last e k n (d ∷ []) = (heard_by e k n d).answer
by_last e k n (d ∷ c ∷ ds) = by_last e k n (c ∷ ds)

-- 122 is the write address of pins 1, 120 that of pins 0
pub first-does-not-acknowledge-alone : answer_of 122 0 1 awaiting ≡ by_first 122 0 1 awaiting → ⊥
unfolding heard_by applied acknowledge is_addressed
first-does-not-acknowledge-alone q = let z = ap number_of q in omega arith

pub last-does-not-acknowledge-alone : answer_of 120 0 1 awaiting ≡ by_last 120 0 1 awaiting → ⊥
unfolding heard_by applied acknowledge is_addressed
last-does-not-acknowledge-alone q = let z = ap number_of q in omega arith

-- 124 is the address of neither: that is no acknowledge, and not nothing
pub unacknowledged-is-not-nothing : answer_of 124 0 1 awaiting ≡ Nothing → ⊥
unfolding heard_by applied acknowledge is_addressed
unacknowledged-is-not-nothing q = let z = ap number_of q in omega arith

-- a read gives the reading chip's 5: not what the first chip puts, nor that with the 255 of the others by OR
pub first-is-not-read : answer_of 258 0 1 reading ≡ by_first 258 0 1 reading → ⊥
unfolding heard_by applied read_byte
first-is-not-read q = let z = ap number_of q in omega arith

pub bytes-are-not-joined-by-or : answer_of 258 0 1 reading ≡ Read 255 → ⊥
unfolding heard_by applied read_byte
bytes-are-not-joined-by-or q = let z = ap number_of q in omega arith

-- with no chip reading the line is high
pub none-reads-as-0 : answer_of 258 0 1 storing ≡ Read 0 → ⊥
unfolding heard_by applied read_byte
none-reads-as-0 q = let z = ap number_of q in omega arith

-- NOP is answered as a command that was taken, and not as any byte is
pub command-is-not-any-byte : answer_of 0 0 1 (device_in 0 Ignoring ∷ device_in 1 (EndlessBytes false) ∷ []) ≡ Acknowledged → ⊥
unfolding heard_by applied
command-is-not-any-byte q = let z = ap number_of q in below (answer_to 0 0) z
  where
    below : (a : CommandAnswer) → command_number a ≡ 257 → ⊥
    below Taken z = omega arith
    below Unknown z = omega arith
    below OutOfRange z = omega arith

-- ---- sensor readings and reset

-- a sensor reading of 7, taken by all
abbrev sensed_by_all : ℕ → ℕ → List Device → List Device
sensed_by_all e n ds = map (λ (d : Device). device_of (applied (event_of e) (alone n d)).state) ds

pub sensor-is-not-for-all : statuses (map (device_after 519 1 1) awaiting) ≡ statuses (sensed_by_all 519 1 awaiting) → ⊥
unfolding heard_by applied sensed
sensor-is-not-for-all q = let z : ◌≡◌ {A = ℕ} 0 1 = cc in omega arith

-- for the chip at the place that it names, and not with the pins
abbrev sensed_by_place : ℕ → ℕ → ℕ → List Device → List Device
sensed_by_place e k n [] = []
sensed_by_place e zero n (d ∷ ds) = device_of (applied (event_of e) (alone n d)).state ∷ ds
sensed_by_place e (suc k) n (d ∷ ds) = d ∷ sensed_by_place e k n ds

pub sensor-goes-by-pins :
    let ds = device_in 1 Idle ∷ device_in 0 Idle ∷ [] in statuses (map (device_after 519 1 1) ds) ≡ statuses (sensed_by_place 519 1 1 ds) → ⊥
unfolding heard_by applied sensed
sensor-goes-by-pins q = let z : ◌≡◌ {A = ℕ} 0 1 = cc in omega arith

-- a reset pulse for the addressed chip alone
abbrev pulsed_if_past : Device → Device
pulsed_if_past d = cond (is_past d) (pulsed_device d) d

pub reset-is-for-all : statuses (map (device_after 260 0 1) storing) ≡ statuses (map pulsed_if_past storing) → ⊥
unfolding heard_by applied pulsed
reset-is-for-all q = let z : ◌≡◌ {A = ℕ} 0 1 = cc in omega arith

-- ---- display bytes and the count

-- what stands at the first place of each
abbrev first_bytes : List Device → List ℕ
first_bytes ds = map (λ (d : Device). get_or d.memory 0 0) ds

abbrev first_writers : List Device → List ℕ
first_writers ds = map (λ (d : Device). get_or d.writers 0 0) ds

-- a byte that every chip stores
abbrev stored_by_all : ℕ → ℕ → List Device → List Device
stored_by_all e n ds = map (λ (d : Device). device_of (on_byte (EndlessBytes true) e (alone n d)).state) ds

pub byte-is-not-stored-by-all : first_bytes (map (device_after 167 0 8) storing) ≡ first_bytes (stored_by_all 167 8 storing) → ⊥
unfolding heard_by applied stored_of place_of column_of
byte-is-not-stored-by-all q = let z : ◌≡◌ {A = ℕ} 0 167 = ap (λ (l : List ℕ). get_or l 0 0) q in omega arith

-- after 7 events of the bus: numbered by those of the chip itself, of which this is the first, or by the count before it
pub number-is-not-the-chips-own : first_writers (bus_accepted 167 0 (bus storing 7)).bus.devices ≡ 0 ∷ 1 ∷ [] → ⊥
unfolding bus_accepted heard_by applied place_of column_of
number-is-not-the-chips-own q = let z : ◌≡◌ {A = ℕ} 8 1 = ap (λ (l : List ℕ). get_or l 1 0) q in omega arith

pub number-is-not-the-count-before : first_writers (bus_accepted 167 0 (bus storing 7)).bus.devices ≡ 0 ∷ 7 ∷ [] → ⊥
unfolding bus_accepted heard_by applied place_of column_of
number-is-not-the-count-before q = let z : ◌≡◌ {A = ℕ} 8 7 = ap (λ (l : List ℕ). get_or l 1 0) q in omega arith

-- counted once for each chip
pub event-is-not-counted-twice : (bus_accepted 167 0 (bus storing 7)).bus.count ≡ 9 → ⊥
unfolding bus_accepted
event-is-not-counted-twice q = omega arith

-- ---- refusals

-- whatever the memories hold
module _ (m w : List ℕ) where
  abbrev holding : ℕ → Phase → Device
  holding pins p = device (chip_in pins p) m w

  abbrev same_pins : List Device
  same_pins = holding 1 Idle ∷ holding 0 Idle ∷ holding 1 Idle ∷ []

  abbrev ignoring : List Device
  ignoring = holding 0 Ignoring ∷ holding 1 Ignoring ∷ holding 2 Ignoring ∷ holding 3 Ignoring ∷ []

  module _ (e k n : ℕ) where
    -- 12 that lets two pass that are past their address
    pub two-past-do-not-pass : bus_refusal e k (bus (holding 0 ControlAwaited ∷ holding 1 Reading ∷ []) n) ≡ 0 → ⊥
    two-past-do-not-pass q =
        let b = bus (holding 0 ControlAwaited ∷ holding 1 Reading ∷ []) n in
        let same = one-past-place b.devices (bus-accepts e k b q).sound 0 1 (holding 0 ControlAwaited) (holding 1 Reading) refl refl refl refl in
        omega arith

    -- or one that is idle beside one that ignores
    pub idle-and-ignoring-do-not-pass : bus_refusal e k (bus (holding 0 Idle ∷ holding 1 Ignoring ∷ []) n) ≡ 0 → ⊥
    idle-and-ignoring-do-not-pass q =
        let b = bus (holding 0 Idle ∷ holding 1 Ignoring ∷ []) n in
        false-true ((shares b.devices).1 (bus-accepts e k b q).sound.sharing)

    -- or two with the same pins that are not neighbours
    pub same-pins-do-not-pass : bus_refusal e k (bus same_pins n) ≡ 0 → ⊥
    same-pins-do-not-pass q = false-true ((shares same_pins).1 (bus-accepts e k (bus same_pins n) q).sound.sharing)

    -- 12 that refuses four that ignore
    pub four-ignoring-are-not-12 : bus_refusal e k (bus ignoring n) ≡ 12 → ⊥
    four-ignoring-are-not-12 q = go ((exactly-when e k (bus ignoring n) 12).0 q)
      where
        go : When e k (bus ignoring n) 12 → ⊥
        go (not_sharing l a wrong) = wrong ((shares ignoring).0 refl)

  -- the order: 3 and 13 before 12, 12 before 2
  pub three-is-not-before-12 : (k n : ℕ) → bus_refusal 300 k (bus same_pins n) ≡ 3 → ⊥
  three-is-not-before-12 k n q = go ((exactly-when 300 k (bus same_pins n) 3).0 q)
    where
      go : When 300 k (bus same_pins n) 3 → ⊥
      go (not_listed sound wrong) = false-true ((shares same_pins).1 sound.sharing)

  pub thirteen-is-not-before-12 : (n : ℕ) → bus_refusal 512 4 (bus same_pins n) ≡ 13 → ⊥
  thirteen-is-not-before-12 n q = go ((exactly-when 512 4 (bus same_pins n) 13).0 q)
    where
      go : When 512 4 (bus same_pins n) 13 → ⊥
      go (no_such_pins sound low high above) = false-true ((shares same_pins).1 sound.sharing)

  pub twelve-is-not-before-2 : (e k n : ℕ) → bus_refusal e k (bus (holding 4 Idle ∷ holding 4 Idle ∷ []) n) ≡ 12 → ⊥
  unfolding allowed
  twelve-is-not-before-2 e k n q = go ((exactly-when e k (bus (holding 4 Idle ∷ holding 4 Idle ∷ []) n) 12).0 q)
    where
      go : When e k (bus (holding 4 Idle ∷ holding 4 Idle ∷ []) n) 12 → ⊥
      go (not_sharing l a wrong) = false-true (a 0 (holding 4 Idle) refl)

-- 4 before 13
pub four-is-not-before-13 : (b : Bus) → bus_refusal 512 4 b ≡ 4 → ⊥
four-is-not-before-13 b q = go ((exactly-when 512 4 b 4).0 q)
  where
    go : When 512 4 b 4 → ⊥
    go (count_full sound listed named full) = let l = named (omega arith) (omega arith) in omega arith

-- 16 before 4
pub sixteen-is-not-before-4 : (e k : ℕ) (b : Bus) → b.count ≡ 2 ^ 64 - 1 → bus_refusal e k b ≡ 16 → ⊥
sixteen-is-not-before-4 e k b full q = go ((exactly-when e k b 16).0 q)
  where
    go : When e k b 16 → ⊥
    go (goes_out sound room one) = room full

-- 16 for an event that is no byte
pub sixteen-is-for-bytes : (e k : ℕ) (b : Bus) → 256 ≤ e → bus_refusal e k b ≡ 16 → ⊥
sixteen-is-for-bytes e k b high q = go ((exactly-when e k b 16).0 q)
  where
    go : When e k b 16 → ⊥
    go (goes_out sound room one) = omega (arith, one.so.comes.is-byte)

-- 13 for a START, whatever the number added
pub start-names-no-pins : (k : ℕ) (b : Bus) → bus_refusal 256 k b ≡ 13 → ⊥
start-names-no-pins k b q = pins-of-readings 256 k b refl q

-- the pins that are named cut to a byte
pub pins-are-not-cut : (b : Bus) → bus_refusal 512 256 b ≡ 0 → ⊥
pins-are-not-cut b q = let l = (bus-accepts 512 256 b q).named (omega arith) (omega arith) in omega arith

-- a refused event that is counted
pub refused-is-not-counted : (k : ℕ) (b : Bus) → (bus_step_of 300 k b).bus.count ≡ b.count + 1 → ⊥
refused-is-not-counted k b q = go (bus_refusal 300 k b) refl
  where
    listed : ListedEvent 300 → ⊥
    listed (inl l) = omega arith
    listed (inr l) = omega (arith, l.0)

    go : (r : ℕ) → bus_refusal 300 k b ≡ r → ⊥
    go zero h = listed (bus-accepts 300 k b h).listed
    go (suc r) h =
        let kept = ap (λ (x : BusAfter). x.bus.count) (refused-changes-nothing 300 k b r h) in
        omega arith
