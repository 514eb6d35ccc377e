-- How far non-interference goes: streams that it speaks of do lead the chip apart whose data they change, and an address byte is no data.
use mathlib.Core.Bool.{Bool, true, cond}
use mathlib.Core.List.{List, [], ◌∷◌, ◌++◌}
use mathlib.Core.Logic.{inl}
use mathlib.Core.Path.{◌≡◌, refl, sym, ap, ◌∙◌, subst}
use Prim.Native.Nat.{ℕ, ◌+◌, ◌/◌, ◌%◌, ◌^◌, ◌≤◌, ◌<◌}
use native.Mathlib.Omega.{arith}
use borrow.Author.Tests.{eq-eqb, ne_eqb}
use Rattle.registers.specs.declared.Phase.{Phase}
use Rattle.registers.specs.declared.Phase.TheVariants.{Idle, AddressAwaited, Ignoring, ControlAwaited, OneByte, EndlessBytes, Reading, ReadEnded}
use Rattle.registers.proofs.Below.{false-true}
use Rattle.registers.proofs.Within.{allowed-pins}
use Rattle.phases.specs.Phases.{is_addressed, phase_after_address, phase_after_control}
use Rattle.engine.specs.declared.event.Event.{Event}
use Rattle.engine.specs.Event.{event_of}
use Rattle.engine.proofs.Events.{byte-event}
use Rattle.chip.specs.Phases.{awaits_command}
use Rattle.chip.specs.Plays.{write_address}
use Rattle.bus.specs.Apart.{Turn, turn_after, turn_of, turn_at, AllAlike, SameBytes, bytes_sent, written_to, SameBut}
use Rattle.bus.specs.Apart.Alike.{same, data_bytes}
use Rattle.bus.specs.Apart.Turn.{address, data_byte, other}
use Rattle.bus.specs.Bus.{Device, Bus, AllTrue, is_ignoring_phase}
use Rattle.bus.specs.Refusals.{BusFit}
use Rattle.bus.specs.Streams.{Sent, sent, refusal_at, stepped, bus_played, device_with, is_on}
use Rattle.bus.specs.When.When.{none}
use Rattle.bus.proofs.Alone.{counts-stepped, pick-after, stays_on, stepped-fit, stepped-true}
use Rattle.bus.proofs.Counts.{all_take}
use Rattle.bus.proofs.Fits.{fits-alone}
use Rattle.bus.proofs.Phases.{phase_after, phase_after_byte, device-phase}
use Rattle.bus.proofs.Picks.{OnBus, by_pins, with-pins}
use Rattle.bus.proofs.Refusals.{exactly-when, sound-fit, all-stay-in}

-- ---- the phase of one device

-- an event that is no sensor reading, on a bus that 1, 2 and 12 let pass, with true counts of pixels and room in the count
taken : (e : ℕ) (b : Bus) → BusFit b.devices → AllTrue b.devices → e ≤ 260 → b.count + 1 < 2 ^ 64 → refusal_at (sent e 0) b ≡ 0
taken e b fit t low room =
    (exactly-when e 0 b 0).1
    (none (record {
      sound = (sound-fit b.devices).0 fit;
      listed = inl low;
      named = λ l h. absurd (omega arith);
      room = λ q. omega arith;
      counts_stay_in = (all-stay-in e b.count b.devices).0 (all_take e b.devices fit.long fit.allowed t);
    }))

phase-after :
    (x : Sent) (b : Bus) (q : ℕ) → is_on q b.devices ≡ true → refusal_at x b ≡ 0
    → (device_with q (stepped x b).devices).chip.phase ≡ phase_after (event_of x.event) q (device_with q b.devices).chip.phase
phase-after x b q on h =
    ap (λ (d : Device). d.chip.phase) (pick-after (OnBus q) (device_with q) (by_pins q) x b on h)
    ∙ device-phase x.event x.pins (b.count + 1) (device_with q b.devices)
    ∙ ap (λ (n : ℕ). phase_after (event_of x.event) n (device_with q b.devices).chip.phase) (with-pins q b.devices on)

low-pins : (b : Bus) (q : ℕ) → BusFit b.devices → is_on q b.devices ≡ true → q ≤ 3
low-pins b q fit on =
    let there = (by_pins q).stands b.devices on in
    let fits = fits-alone b.count b.devices fit there.0 (device_with q b.devices) there.1 in
    omega (arith, allowed-pins (device_with q b.devices).chip fits.is-allowed, with-pins q b.devices on)

addressed : (p : ℕ) → phase_after_address (is_addressed p (write_address p)) (write_address p) ≡ ControlAwaited
unfolding is_addressed phase_after_address
addressed p = simp (eq-eqb (write_address p / 2) (60 + p) (omega arith), eq-eqb (write_address p % 2) 0 (omega arith))

not-addressed : (p q : ℕ) → (q ≡ p → ⊥) → phase_after_address (is_addressed q (write_address p)) (write_address p) ≡ Ignoring
unfolding is_addressed phase_after_address
not-addressed p q apart = simp (ne_eqb (write_address p / 2) (60 + q) (λ e. apart (omega arith)))

-- ---- START and a write address

-- START, then the write address of p
abbrev pub opening : ℕ → List Sent
opening p = sent 256 0 ∷ sent (write_address p) 0 ∷ []

module _ (b : Bus) (fit : BusFit b.devices) (t : AllTrue b.devices) (room : b.count + 3 < 2 ^ 64) (p q : ℕ)
    (on-p : is_on p b.devices ≡ true) (on-q : is_on q b.devices ≡ true)
  where
    abbrev started : Bus
    started = stepped (sent 256 0) b

    abbrev opened : Bus
    opened = bus_played (opening p) b

    start-taken : refusal_at (sent 256 0) b ≡ 0
    start-taken = taken 256 b fit t (omega arith) (omega arith)

    started-fit : BusFit started.devices
    started-fit = stepped-fit (sent 256 0) b fit

    started-true : AllTrue started.devices
    started-true = stepped-true (sent 256 0) b t

    on-started : is_on q started.devices ≡ true
    on-started = stays_on (OnBus q) (device_with q) (by_pins q) (sent 256 0) b on-q

    count-started : started.count ≡ b.count + 1
    count-started = counts-stepped (sent 256 0) b start-taken

    address-taken : refusal_at (sent (write_address p) 0) started ≡ 0
    address-taken = let low = low-pins b p fit on-p in taken (write_address p) started started-fit started-true (omega arith) (omega (arith, count-started))

    count-opened : opened.count ≡ b.count + 2
    count-opened = counts-stepped (sent (write_address p) 0) started address-taken ∙ omega (arith, count-started)

    -- where they find the device with pins q
    after-opening : (device_with q opened.devices).chip.phase ≡ phase_after_address (is_addressed q (write_address p)) (write_address p)
    after-opening =
        let low = low-pins b p fit on-p in
        phase-after (sent (write_address p) 0) started q on-started address-taken
        ∙ ap (λ (v : Event). phase_after v q (device_with q started.devices).chip.phase) (byte-event (write_address p) (omega arith))
        ∙ ap (phase_after_byte (write_address p) q) (phase-after (sent 256 0) b q on-q start-taken)

    -- and a control byte after them
    control-taken : (e : ℕ) → e ≤ 255 → refusal_at (sent e 0) opened ≡ 0
    control-taken e low =
        taken e opened (stepped-fit (sent (write_address p) 0) started started-fit) (stepped-true (sent (write_address p) 0) started started-true)
        (omega arith) (omega (arith, count-opened))

    on-opened : is_on q opened.devices ≡ true
    on-opened = stays_on (OnBus q) (device_with q) (by_pins q) (sent (write_address p) 0) started on-started

-- an address byte is no data: change it, and the chip that it names or names no more does not come out the same
pub address-is-no-data :
    (b : Bus) → BusFit b.devices → AllTrue b.devices → b.count + 3 < 2 ^ 64 → (p q : ℕ) → (q ≡ p → ⊥) → is_on p b.devices ≡ true → is_on q b.devices ≡ true
    → SameBut p (bus_played (opening p) b) (bus_played (opening q) b) → ⊥
address-is-no-data b fit t room p q apart on-p on-q s =
    let first = after-opening b fit t room p q on-p on-q ∙ not-addressed p q apart in
    let second = after-opening b fit t room q q on-q on-q ∙ addressed q in
    false-true (sym (ap is_ignoring_phase (sym first ∙ ap (λ (d : Device). d.chip.phase) (s.by_pins q apart) ∙ second)))

-- ---- a control byte after them

-- START, the write address of p, and a byte of data
abbrev pub speaking : ℕ → ℕ → List Sent
speaking p e = sent 256 0 ∷ sent (write_address p) 0 ∷ sent e 0 ∷ []

turn-opened : (p : ℕ) → p ≤ 3 → turn_after p (event_of (write_address p)) address ≡ data_byte
turn-opened p low =
    ap (λ (v : Event). turn_after p v address) (byte-event (write_address p) (omega arith))
    ∙ ap (λ (x : Bool). cond x data_byte other) (eq-eqb (write_address p) (write_address p) refl)

speaking-alike : (p : ℕ) (t : Turn) (d e : ℕ) → p ≤ 3 → d < 256 → e < 256 → AllAlike p t (speaking p d) (speaking p e)
speaking-alike p t d e low hd he = (same refl, (same refl, (data_bytes (turn-opened p low) hd he, tt)))

-- every byte behind the write address is data, and so may be another in the other stream: control bytes, commands and display bytes
pub bytes-are-data : (p : ℕ) (xs ys : List ℕ) → SameBytes xs ys → AllAlike p data_byte (bytes_sent xs) (bytes_sent ys)
bytes-are-data p [] [] pairs = tt
bytes-are-data p [] (y ∷ ys) pairs = absurd pairs
bytes-are-data p (x ∷ xs) [] pairs = absurd pairs
bytes-are-data p (x ∷ xs) (y ∷ ys) pairs = (
  data_bytes refl pairs.0 pairs.1,
  subst (λ (v : Event). AllAlike p (turn_after p v data_byte) (bytes_sent xs) (bytes_sent ys)) (sym (byte-event x pairs.0)) (bytes-are-data p xs ys pairs.2),
)

pub message-is-data : (p : ℕ) (t : Turn) → p ≤ 3 → (xs ys : List ℕ) → SameBytes xs ys → AllAlike p t (opening p ++ bytes_sent xs) (opening p ++ bytes_sent ys)
message-is-data p t low xs ys pairs =
    (same refl, (same refl, subst (λ (u : Turn). AllAlike p u (bytes_sent xs) (bytes_sent ys)) (sym (turn-opened p low)) (bytes-are-data p xs ys pairs)))

-- a stream that begins in mid-message: the chip is past its write address
pub mid-message : (p : ℕ) (b : Bus) → written_to (device_with p b.devices).chip.phase ≡ true → turn_at p b.devices ≡ data_byte
mid-message p b = go (device_with p b.devices).chip.phase
  where
    go : (q : Phase) → written_to q ≡ true → turn_of q ≡ data_byte
    go Idle e = absurd (false-true e)
    go AddressAwaited e = absurd (false-true e)
    go Ignoring e = absurd (false-true e)
    go ControlAwaited e = refl
    go (OneByte rs) e = refl
    go (EndlessBytes rs) e = refl
    go Reading e = absurd (false-true e)
    go ReadEnded e = absurd (false-true e)

-- streams that are alike do lead the chip apart that they speak to: 80h announces one command byte, 40h display bytes
pub data-lead-apart :
    (b : Bus) → BusFit b.devices → AllTrue b.devices → b.count + 3 < 2 ^ 64 → (p : ℕ) → is_on p b.devices ≡ true
    → AllAlike p (turn_at p b.devices) (speaking p 128) (speaking p 64)
    × (device_with p (bus_played (speaking p 128) b).devices ≡ device_with p (bus_played (speaking p 64) b).devices → ⊥)
data-lead-apart b fit t room p on = (speaking-alike p (turn_at p b.devices) 128 64 (low-pins b p fit on) (omega arith) (omega arith), differ)
  where
    awaiting : (device_with p (bus_played (opening p) b).devices).chip.phase ≡ ControlAwaited
    awaiting = after-opening b fit t room p p on on ∙ addressed p

    controlled : (e : ℕ) → e ≤ 255 → (device_with p (bus_played (speaking p e) b).devices).chip.phase ≡ phase_after_control e
    controlled e low =
        phase-after (sent e 0) (bus_played (opening p) b) p (on-opened b fit t room p p on on) (control-taken b fit t room p p on on e low)
        ∙ ap (λ (v : Event). phase_after v p (device_with p (bus_played (opening p) b).devices).chip.phase) (byte-event e (omega arith))
        ∙ ap (phase_after_byte e p) awaiting

    differ : device_with p (bus_played (speaking p 128) b).devices ≡ device_with p (bus_played (speaking p 64) b).devices → ⊥
    differ e =
        false-true
        (sym
        (ap awaits_command (sym (controlled 128 (omega arith)) ∙ ap (λ (d : Device). d.chip.phase) e ∙ controlled 64 (omega arith))))
