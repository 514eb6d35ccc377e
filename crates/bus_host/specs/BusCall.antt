-- The call of a host in C for an event of a bus: what it gives back, and how it leaves the buffers and the count. Every input has its outcome.
use Rattle.std.specs.Prelude.{Bool, true, cond, not, ◌&&◌, ◌||◌, List, [], ◌∷◌, map, ℕ, eqb, leb, ltb, get_or}
use Rattle.registers.specs.Refusals.{refuse, ◌then◌}
use Rattle.engine.specs.Event.{number_of}
use Rattle.bus.specs.Bus.{bus, every}
use Rattle.bus.specs.Refusals.{sent_refusal, counts_fit, pixels_refusal_for}
use Rattle.bus.specs.Step.{BusAfter, bus_step_of}
use Rattle.bus_host.specs.Buffers.{Lent, device_in, lent_by, has_lengths, has_record, every_lent, how_many_lent}
use Rattle.record_words.specs.Words.{PINS, PHASE}

-- the number given back, the buffers of each chip, and the event count
pub record Called : Type 0 where
  pub number : ℕ
  pub buffers : List Lent
  pub count : ℕ

abbrev pub called : ℕ → List Lent → ℕ → Called
called r ls n = record { number = r; buffers = ls; count = n }

-- words that stand for no record: 2, unless a lent memory has another length, since 1 comes first
abbrev pub no_record_for : Bool → ℕ
no_record_for long = refuse (not long) 1 then 2

abbrev pub after_bus_step : BusAfter → Called
after_bus_step a = called (number_of a.answer) (map lent_by a.bus.devices) a.bus.count

-- event e, with k for the pins that a sensor reading names
unfoldable pub bus_call : ℕ → ℕ → List Lent → ℕ → Called
bus_call e k ls n =
    cond (every_lent has_record ls) (after_bus_step (bus_step_of e k (bus (map device_in ls) n))) (called (no_record_for (every_lent has_lengths ls)) ls n)

-- ---- exactly when a call is refused, read off what the host lends

-- pins that differ, as words
abbrev pub pins_word : Lent → ℕ
pins_word l = get_or l.words PINS 0

abbrev pub pins_words_differ : List Lent → Bool
pins_words_differ [] = true
pins_words_differ (l ∷ ls) = every_lent (λ (o : Lent). not (eqb (pins_word o) (pins_word l))) ls && pins_words_differ ls

-- phases that stand together, as words: all 0, all 1, or all 2 and more, of which at most one is above 2
abbrev pub phase_word : Lent → ℕ
phase_word l = get_or l.words PHASE 0

abbrev pub phase_words_agree : List Lent → Bool
phase_words_agree ls =
    every_lent (λ (l : Lent). eqb (phase_word l) 0) ls
    || (every_lent (λ (l : Lent). eqb (phase_word l) 1) ls
    || (every_lent (λ (l : Lent). leb 2 (phase_word l)) ls && leb (how_many_lent (λ (l : Lent). ltb 2 (phase_word l)) ls) 1))

-- 1: a memory of another length; 2: words that stand for no record; 12: chips that can't share a bus; 0 is none
abbrev pub lent_refusal : List Lent → ℕ
lent_refusal ls =
    refuse (not (every_lent has_lengths ls)) 1 then refuse (not (every_lent has_record ls)) 2 then refuse (not (pins_words_differ ls && phase_words_agree ls)) 12

-- then 3, 13 and 4, of the event, and 16 of what it would do to the records that the words stand for
abbrev pub bus_call_refusal : ℕ → ℕ → List Lent → ℕ → ℕ
bus_call_refusal e k ls n = lent_refusal ls then sent_refusal e k n then pixels_refusal_for (every (counts_fit e) (map device_in ls))

-- ---- the numbers by which a byte is acknowledged: 257, and of commands 259, 260 and 261

abbrev pub tells_acknowledge : ℕ → Bool
tells_acknowledge r = eqb r 257 || (leb 259 r && leb r 261)
