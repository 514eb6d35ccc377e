-- What a host lends, as the devices of a bus: the tests of the devices are tests of the words.
use mathlib.Core.Bool.{Bool, true, cond, not, ◌&&◌, ◌||◌}
use mathlib.Core.List.{List, [], ◌∷◌, map}
use mathlib.Core.Path.{◌≡◌, refl, ap₂}
use Prim.Native.Nat.{ℕ, ◌+◌, ◌<◌}
use native.Mathlib.Omega.{arith}
use lib.Dec.{eqb, leb, ltb}
use lib.ListN.{get_or}
use Rattle.registers.proofs.Below.{below_at, same, same-eq}
use Rattle.bus.specs.Bus.{Device, every, how_many, is_idle, awaits_address, is_ignoring, is_past, has_other_pins, pins_differ, phases_agree}
use Rattle.bus.specs.Bus.{is_idle_phase, is_awaiting_phase, is_ignoring_phase, is_past_phase}
use Rattle.bus.specs.Refusals.{is_long, is_allowed, can_share}
use Rattle.record_words.specs.Words.{PHASE, PHASE_RS, is_set, phase_of, chip_of}
use Rattle.record_words.proofs.Laws.{words-chip-words, stands-allowed}
use Rattle.record_words.proofs.Stands.{stands_at}
use Rattle.bus_host.specs.Buffers.{Lent, device_in, lent_by, has_lengths, has_record, every_lent, how_many_lent}
use Rattle.bus_host.specs.BusCall.{pins_word, phase_word, pins_words_differ, phase_words_agree}
use Rattle.bus_host.proofs.CodeWays.{both}

-- ---- a test that holds of devices as another does of what is lent, where words stand for records

module _ (f : Device → Bool) (g : Lent → Bool) (told : (l : Lent) → has_record l ≡ true → f (device_in l) ≡ g l) where
  every_in : (ls : List Lent) → every_lent has_record ls ≡ true → every f (map device_in ls) ≡ every_lent g ls
  every_in [] h = refl
  every_in (l ∷ ls) h =
      let first = both (has_record l) (every_lent has_record ls) h in
      ap₂ (λ (a b : Bool). a && b) (told l first.0) (every_in ls first.1)

  how-many-in : (ls : List Lent) → every_lent has_record ls ≡ true → how_many f (map device_in ls) ≡ how_many_lent g ls
  how-many-in [] h = refl
  how-many-in (l ∷ ls) h =
      let first = both (has_record l) (every_lent has_record ls) h in
      ap₂ (λ (a : Bool) (b : ℕ). cond a 1 0 + b) (told l first.0) (how-many-in ls first.1)

pub long-in : (ls : List Lent) → every_lent has_record ls ≡ true → every is_long (map device_in ls) ≡ every_lent has_lengths ls
long-in = every_in is_long has_lengths (λ l h. refl)

pub allowed-in : (ls : List Lent) → every_lent has_record ls ≡ true → every is_allowed (map device_in ls) ≡ every_lent has_record ls
allowed-in = every_in is_allowed has_record (λ l h. rw (stands-allowed l.words h, h))

-- words that stand for records, written anew, are the same words
pub lent_back : (ls : List Lent) → every_lent has_record ls ≡ true → map lent_by (map device_in ls) ≡ ls
lent_back [] h = refl
lent_back (l ∷ ls) h =
    let first = both (has_record l) (every_lent has_record ls) h in
    rw (words-chip-words l.words first.0, lent_back ls first.1)

-- ---- phases by their words

module _ (rs : Bool) (n : ℕ) (h : n < 8) where
  idle-word : is_idle_phase (phase_of n rs) ≡ eqb n 0
  idle-word = same-eq _ _ (below_at 8 (λ (i : ℕ). same (is_idle_phase (phase_of i rs)) (eqb i 0)) tt n h)

  awaiting-word : is_awaiting_phase (phase_of n rs) ≡ eqb n 1
  awaiting-word = same-eq _ _ (below_at 8 (λ (i : ℕ). same (is_awaiting_phase (phase_of i rs)) (eqb i 1)) tt n h)

  message-word : is_ignoring_phase (phase_of n rs) || is_past_phase (phase_of n rs) ≡ leb 2 n
  message-word = same-eq _ _ (below_at 8 (λ (i : ℕ). same (is_ignoring_phase (phase_of i rs) || is_past_phase (phase_of i rs)) (leb 2 i)) tt n h)

  past_word : is_past_phase (phase_of n rs) ≡ ltb 2 n
  past_word = same-eq _ _ (below_at 8 (λ (i : ℕ). same (is_past_phase (phase_of i rs)) (ltb 2 i)) tt n h)

module _ (l : Lent) (h : has_record l ≡ true) where
  phase-below : phase_word l < 8
  phase-below = let most = stands_at l.words h PHASE in omega arith

  abbrev rs : Bool
  rs = is_set (get_or l.words PHASE_RS 0)

  idle-in : is_idle (device_in l) ≡ eqb (phase_word l) 0
  unfolding chip_of
  idle-in = idle-word rs (phase_word l) phase-below

  awaiting-in : awaits_address (device_in l) ≡ eqb (phase_word l) 1
  unfolding chip_of
  awaiting-in = awaiting-word rs (phase_word l) phase-below

  message-in : is_ignoring (device_in l) || is_past (device_in l) ≡ leb 2 (phase_word l)
  unfolding chip_of
  message-in = message-word rs (phase_word l) phase-below

  past-in : is_past (device_in l) ≡ ltb 2 (phase_word l)
  unfolding chip_of
  past-in = past_word rs (phase_word l) phase-below

agree-in : (ls : List Lent) → every_lent has_record ls ≡ true → phases_agree (map device_in ls) ≡ phase_words_agree ls
agree-in ls h =
    rw (
      every_in is_idle (λ (l : Lent). eqb (phase_word l) 0) idle-in ls h,
      every_in awaits_address (λ (l : Lent). eqb (phase_word l) 1) awaiting-in ls h,
      every_in (λ (d : Device). is_ignoring d || is_past d) (λ (l : Lent). leb 2 (phase_word l)) message-in ls h,
      how-many-in is_past (λ (l : Lent). ltb 2 (phase_word l)) past-in ls h,
    )

other-pins : (p o : Lent) → has_other_pins (device_in p).chip.pins (device_in o) ≡ not (eqb (pins_word o) (pins_word p))
unfolding chip_of
other-pins p o = refl

differ-in : (ls : List Lent) → every_lent has_record ls ≡ true → pins_differ (map device_in ls) ≡ pins_words_differ ls
differ-in [] h = refl
differ-in (l ∷ ls) h =
    let rest = (both (has_record l) (every_lent has_record ls) h).1 in
    ap₂ (λ (a b : Bool). a && b)
    (every_in (has_other_pins (device_in l).chip.pins) (λ (o : Lent). not (eqb (pins_word o) (pins_word l))) (λ o r. other-pins l o) ls rest)
    (differ-in ls rest)

pub share_in : (ls : List Lent) → every_lent has_record ls ≡ true → can_share (map device_in ls) ≡ pins_words_differ ls && phase_words_agree ls
share_in ls h = ap₂ (λ (a b : Bool). a && b) (differ-in ls h) (agree-in ls h)
