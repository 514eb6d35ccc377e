-- What is promised of a bus for each of its chips, in one place: read this file first. The work stands in the file beside it and in crate `bus`.
use mathlib.Core.Bool.{true}
use mathlib.Core.List.{List, [], ◌∷◌, ◌++◌}
use mathlib.Core.Logic.{◌↔◌}
use mathlib.Core.Path.{◌≡◌, refl, sym, ap, ◌∙◌, subst}
use Prim.Native.Nat.{ℕ, ◌+◌, ◌<◌, ◌≤◌}
use lib.ListN.{length}
use Rattle.std.specs.Prelude.{Result}
use Rattle.registers.specs.declared.Chip.{Chip}
use Rattle.registers.specs.declared.Phase.{Phase}
use Rattle.registers.specs.Record.{allowed, in_phase}
use Rattle.chip.specs.Plays.{played}
use Rattle.glass.specs.declared.answer.Shown.{Shown}
use Rattle.glass.specs.Glass.{glass_of, glass_refusal, place_refusal}
use Rattle.compiler.specs.Answer.{Done}
use Rattle.compiler.specs.Compile.{compile_of}
use Rattle.bus.specs.Apart.{Turn, turn_at, AllAlike, SameBytes, bytes_sent, written_to, SameBut}
use Rattle.bus.specs.Bus.{Device, Bus, alone, AllTrue}
use Rattle.bus.specs.LastWriter.{PlaceOnBus}
use Rattle.bus.specs.Reach.{KeptButPhase}
use Rattle.bus.specs.Refusals.{BusFit}
use Rattle.bus.specs.Streams.{Sent, bus_played, accepted_of, heard_of, device_with, device_at, is_on, chip_on}
use Rattle.bus.specs.When.{Sound}
use Rattle.bus.proofs.Alone as Alone
use Rattle.bus.proofs.Apart.{non-interference}
use Rattle.bus.proofs.Differing as Differing
use Rattle.bus.proofs.Differing.{opening}
use Rattle.bus.proofs.LastWriter.{last-writer-on-bus}
use Rattle.bus.proofs.Picks.{found}
use Rattle.bus.proofs.Reach.{four-pins}
use Rattle.bus.proofs.Refusals.{sound-fit}
use Rattle.bus_drawing.specs.Demand3.{DrawsOnBus}
use Rattle.bus_drawing.proofs.OnBus.{demand-3-on-bus}

-- ---- which buses these laws speak of

-- `BusFit` is what 1, 2 and 12 let pass, as the code tests it; `Sound` says the same in the words of the table of refusals
pub passes : (ds : List Device) → BusFit ds ↔ Sound ds
passes = sound-fit

-- each of the pins 0 to 3 is there, of four chips that pass
pub each-of-four : (a b c d : Device) → Sound (a ∷ b ∷ c ∷ d ∷ []) → (p : ℕ) → p ≤ 3 → is_on p (a ∷ b ∷ c ∷ d ∷ []) ≡ true
each-of-four a b c d sound p low =
    let there = four-pins a b c d sound p low in
    found p (a ∷ b ∷ c ∷ d ∷ []) there.place there.which there.stands there.so

-- ---- streams of events

-- a chip on a bus comes to where a chip alone comes that is sent what it hears, its count the bus's
pub own-way : (p : ℕ) (xs : List Sent) (b : Bus) → is_on p b.devices ≡ true → chip_on p (bus_played xs b) ≡ played (heard_of p xs b) (chip_on p b)
own-way = Alone.own-way

-- the same of the chip at a place of the list
pub own-way-at :
    (i : ℕ) (xs : List Sent) (b : Bus) → i < length b.devices
    → alone (bus_played xs b).count (device_at i (bus_played xs b).devices)
    ≡ played (heard_of (device_at i b.devices).chip.pins xs b) (alone b.count (device_at i b.devices))
own-way-at = Alone.own-way-at

-- the bus has counted the events that it accepted, and no others
pub count_after : (xs : List Sent) (b : Bus) → (bus_played xs b).count ≡ b.count + length (accepted_of xs b)
count_after = Alone.count_after

-- true counts of pixels are true after any stream
pub still-true : (xs : List Sent) (b : Bus) → AllTrue b.devices → AllTrue (bus_played xs b).devices
still-true = Alone.played-true

-- chips that pass still do after any stream
pub still-passes : (xs : List Sent) (b : Bus) → BusFit b.devices → BusFit (bus_played xs b).devices
still-passes = Alone.played-fit

-- ---- the demands

-- demand 2, for each chip by its pins, after any stream, refused events in it too: a place is untouched, or names by the bus's count the last event
-- that this chip stored there
pub demand-2 : (p : ℕ) (xs : List Sent) (b : Bus) → is_on p b.devices ≡ true → (k : ℕ) → PlaceOnBus p xs b k
demand-2 = last-writer-on-bus

-- demand 3, for each chip by its pins: what was compiled for its record draws the list on it, on every bus that 1, 2 and 12 let pass, from true counts
-- of its pixels, and leaves the other chips as they were but for the phase
pub demand-3 : (c : Chip) (text out : List ℕ) (n k : ℕ) → (compile_of c text out).answer ≡ Done n k → DrawsOnBus c text n (compile_of c text out).out
demand-3 = demand-3-on-bus

-- non-interference: where two streams differ only in bytes of data for one chip, the other chips come out the same, from true counts of pixels, which
-- `still-true` gives after either stream
pub others-the-same :
    (p : ℕ) (xs ys : List Sent) (b : Bus) → BusFit b.devices → AllTrue b.devices → AllAlike p (turn_at p b.devices) xs ys → SameBut p (bus_played xs b) (bus_played ys b)
others-the-same = non-interference

-- data are all bytes behind the write address, as many on either side
pub message-is-data : (p : ℕ) (t : Turn) → p ≤ 3 → (xs ys : List ℕ) → SameBytes xs ys → AllAlike p t (opening p ++ bytes_sent xs) (opening p ++ bytes_sent ys)
message-is-data = Differing.message-is-data

-- and where a stream begins behind it, all bytes from there on
pub mid-message-is-data :
    (p : ℕ) (b : Bus) → written_to (device_with p b.devices).chip.phase ≡ true → (xs ys : List ℕ) → SameBytes xs ys
    → AllAlike p (turn_at p b.devices) (bytes_sent xs) (bytes_sent ys)
mid-message-is-data p b past xs ys pairs =
    subst (λ (t : Turn). AllAlike p t (bytes_sent xs) (bytes_sent ys)) (sym (Differing.mid-message p b past)) (Differing.bytes-are-data p xs ys pairs)

-- ---- the glass

-- what a device's glass shows
abbrev pub shows : Device → ℕ → ℕ → Result Shown ℕ
shows d row column = glass_of d.chip d.memory row column

-- and so does their glass
pub others-show-the-same :
    (p : ℕ) (xs ys : List Sent) (b : Bus) → BusFit b.devices → AllTrue b.devices → AllAlike p (turn_at p b.devices) xs ys → (q : ℕ) → (q ≡ p → ⊥) → (row column : ℕ)
    → shows (device_with q (bus_played xs b).devices) row column ≡ shows (device_with q (bus_played ys b).devices) row column
others-show-the-same p xs ys b fit t alike q apart row column =
    ap (λ (d : Device). shows d row column) ((others-the-same p xs ys b fit t alike).by_pins q apart)

phase-unseen : (c : Chip) (q : Phase) (m : List ℕ) (row column : ℕ) → glass_of (in_phase c q) m row column ≡ glass_of c m row column
unfolding glass_of glass_refusal place_refusal allowed
phase-unseen c q m row column = refl

-- a device that is as it was but for the phase, as the others are where a list is drawn, shows what it showed
pub kept-shows : (c d : Device) → KeptButPhase c d → (row column : ℕ) → shows d row column ≡ shows c row column
kept-shows c d kept row column =
    ap (λ (x : Device). shows x row column) kept ∙ phase-unseen c.chip d.chip.phase c.memory row column
