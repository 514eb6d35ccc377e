-- Ways through the code of the calls, over plain variables.
use mathlib.Core.Path.{◌≡◌, refl, sym, ap, ◌∙◌}
use mathlib.Core.Bool.{true, false}
use Rattle.std.specs.Prelude as std
use Rattle.std.specs.Prelude.{Option, None, Some}
use mathlib.Core.List.{List}
use Prim.Native.Nat.{ℕ, zero, suc, ◌≤◌, ◌<◌}
use borrow.Author.Tests.{eq-eqb, ne_eqb, le-leb, lt-leb}
use lib.ListN.{length}
use Rattle.registers.specs.declared.Chip.{Chip}
use Rattle.registers.specs.Record.{reset_chip}
use Rattle.registers.specs.Refusals.{◌then◌, lengths_refusal, record_refusal}
use Rattle.registers.specs.State.{State, state, places}
use Rattle.engine.specs.Answer.{Answer}
use Rattle.engine.specs.Event.{number_of}
use Rattle.engine.specs.Step.{Fit, after, entry_refusal, refusal_of, accepted, unless_refused, step_of}
use Rattle.engine.specs.PastEntry.{refusal_past_entry, step_past_entry, run_past_entry, tally_past_entry}
use Rattle.chip.specs.Promised.{Unknown, OutOfRange}
use Rattle.engine.specs.Run.{outcome, unless_stopped, run_from, run_of, count_unless, tally}
use Rattle.engine.proofs.Refusals.{entry-fit, fit-entry}
use Rattle.engine.proofs.Tallies.{tally-refused}
use Rattle.chip.proofs.Laws.{tallied-from-entry, step-past-entry, run-past-entry}
use Rattle.chip.specs.Promised.{CommandAnswer}
use Rattle.glass.specs.declared.answer.Shown.{Shown}
use Rattle.glass.specs.Answer.{shown_number, cell_number}
use Rattle.glass.specs.Glass.{cell_of, glass_of}
use Rattle.pulses.specs.declared.answer.Pulses.{Pulses}
use Rattle.pulses.specs.Answer.{pulses_number}
use Rattle.pulses.specs.Pulse.{pulses_of}
use Rattle.pulses.specs.Row.{pulse_row, row_of}
use Rattle.compiler.specs.Answer.{Compiled}
use Rattle.compiler.specs.declared.answer.Numbers.{Numbers}
use Rattle.compiler.specs.Compile.{Result, answered, compile_of, numbers_of}
use Rattle.record_words.specs.Words.{record_length, stands_for, chip_of, words_of, read_of, stored}
use Rattle.record_words.proofs.Laws.{read-record-exactly, read-none-exactly, stored-over, words-chip-words, stands-allowed}
use Rattle.host.specs.Calls.{no_record_for, no_record, reset, reset_call, stepped, after_step, step_call, ran, after_run, run_call}
use Rattle.host.specs.Compiling.{compiled, with_numbers, compile_call}
use Rattle.host.specs.Views.{glass_call, place_call}
use Rattle.host.specs.Pulses.{pulses_call, pulse_row_call}

module _ (pins : ℕ) (ws : List ℕ) where
  pub reset-other-length : (length ws ≡ record_length → ⊥) → reset 2 ws ≡ reset_call pins ws
  unfolding reset_call
  reset-other-length d = simp (ne_eqb _ _ d)

  pub reset-other-pins : length ws ≡ record_length → 3 < pins → reset 2 ws ≡ reset_call pins ws
  unfolding reset_call
  reset-other-pins n h = simp (eq-eqb _ _ n, lt-leb _ _ h)

  pub reset-done : (c : Chip) (l : List ℕ) → length ws ≡ record_length → pins ≤ 3 → c ≡ reset_chip pins → l ≡ stored c ws → reset 0 l ≡ reset_call pins ws
  unfolding reset_call stored
  reset-done c l n h ec el = rw (el, eq-eqb _ _ n, le-leb _ _ h, ec)

-- x is what the words gave: no record
module _ (ws : List ℕ) (x : Option Chip) (ex : x ≡ read_of ws) (no : x ≡ None) where
  none : stands_for ws ≡ false
  none = (read-none-exactly ws).0 (sym ex ∙ no)

  pub step-no-record : (m w : List ℕ) (count e n : ℕ) → n ≡ no_record m w → stepped n ws m w count ≡ step_call e ws m w count
  unfolding step_call
  step-no-record m w count e n en = rw (none, en)

  pub run-no-record : (m w es : List ℕ) (count n : ℕ) → n ≡ no_record m w → ran n 0 0 0 ws m w count ≡ run_call es ws m w count
  unfolding run_call
  run-no-record m w es count n en = rw (none, en)

  pub place-no-record : (row column : ℕ) → 2 ≡ place_call row column ws
  unfolding place_call
  place-no-record row column = rw none

  pub glass-no-record : (row column : ℕ) (m : List ℕ) (n : ℕ) → n ≡ no_record_for (length m) places → n ≡ glass_call row column ws m
  unfolding glass_call
  glass-no-record row column m n en = rw none en

  pub pulses-no-record : (row column : ℕ) (m : List ℕ) (n : ℕ) → n ≡ no_record_for (length m) places → n ≡ pulses_call row column ws m
  unfolding pulses_call
  pulses-no-record row column m n en = rw none en

  pub pulse-row-no-record : (row : ℕ) (m out : List ℕ) (n : ℕ) → n ≡ no_record_for (length m) places → pulse_row n out ≡ pulse_row_call row ws m out
  unfolding pulse_row_call
  pulse-row-no-record row m out n en = rw (none, en)

  pub compile-no-record : (text out : List ℕ) → compiled 2 0 0 0 out ≡ compile_call ws text out
  unfolding compile_call
  compile-no-record text out = sym (rw none)

-- from what 1 and 2 let pass
tally-past : (b : CommandAnswer) (es : List ℕ) (s : State) → Fit s → tally_past_entry b es s ≡ tally b es s
tally-past b es s fit = sym (tallied-from-entry b es s ∙ ap (λ (k : ℕ). count_unless k (tally_past_entry b es s)) (fit-entry s fit))

-- or the record c
module _ (ws : List ℕ) (x : Option Chip) (c : Chip) (ex : x ≡ read_of ws) (is : x ≡ Some c) where
  stands : stands_for ws ≡ true
  stands = ((read-record-exactly ws c).0 (sym ex ∙ is)).0

  chip : c ≡ chip_of ws
  chip = ((read-record-exactly ws c).0 (sym ex ∙ is)).1

  -- the record is allowed, and the lengths were tested: k is their refusal
  module _ (m w : List ℕ) (count k : ℕ) (told : k ≡ lengths_refusal (length m) (length w)) where
    fits : k ≡ 0 → Fit (state c m w count)
    unfolding entry_refusal
    fits z = entry-fit (state c m w count) (rw (sym told ∙ z, chip, stands-allowed ws stands))

    at_entry : (k ≡ 0 → ⊥) → entry_refusal (state c m w count) ≡ k
    unfolding entry_refusal
    at_entry n = go k n told
      where
        go : (j : ℕ) → (j ≡ 0 → ⊥) → j ≡ lengths_refusal (length m) (length w) → lengths_refusal (length m) (length w) then record_refusal c ≡ j
        go zero z e = absurd (z refl)
        go (suc j) z e = rw (← e)

    same-words : words_of c ≡ ws
    same-words = ap words_of chip ∙ words-chip-words ws stands

    pub step-other-length : (e : ℕ) → (k ≡ 0 → ⊥) → stepped k ws m w count ≡ step_call e ws m w count
    unfolding step_call step_of refusal_of refusal_past_entry
    step-other-length e n = rw (stands, ← chip, at_entry n) (go k n)
      where
        go : (j : ℕ) → (j ≡ 0 → ⊥) → stepped j ws m w count ≡ after_step (unless_refused (j then refusal_past_entry e (state c m w count)) (accepted e (state c m w count)) (state c m w count))
        go zero z = absurd (z refl)
        go (suc j) z = ap (λ (l : List ℕ). stepped (suc j) l m w count) (sym same-words)

    pub run-other-length : (es : List ℕ) → (k ≡ 0 → ⊥) → ran k 0 0 0 ws m w count ≡ run_call es ws m w count
    unfolding run_call run_of
    run-other-length es n =
        rw (stands, ← chip, ← tally-refused Unknown es (state c m w count) k (sym (at_entry n)) n, ← tally-refused OutOfRange es (state c m w count) k (sym (at_entry n)) n, at_entry n)
        (go k n)
      where
        go : (j : ℕ) → (j ≡ 0 → ⊥) → ran j 0 0 0 ws m w count ≡ after_run (unless_stopped j 0 (state c m w count) (run_from 0 es (state c m w count))) 0 0
        go zero z = absurd (z refl)
        go (suc j) z = ap (λ (l : List ℕ). ran (suc j) 0 0 0 l m w count) (sym same-words)

  pub step-done :
      (m w : List ℕ) (count e n k : ℕ) (c' : Chip) (a : Answer) (l m' w' : List ℕ) (count' : ℕ)
      → k ≡ lengths_refusal (length m) (length w) → k ≡ 0
      → after a c' m' w' count' ≡ step_past_entry e (state c m w count) → l ≡ stored c' ws → n ≡ number_of a
      → stepped n l m' w' count' ≡ step_call e ws m w count
  unfolding step_call
  step-done m w count e n k c' a l m' w' count' told z ea el en =
      let whole = ea ∙ step-past-entry e (state c m w count) (fits m w count k told z) in
      rw (stands, ← chip, ← whole, el ∙ stored-over ws c' stands, en)

  pub run-done :
      (m w es : List ℕ) (count n d u o k : ℕ) (c' : Chip) (l m' w' : List ℕ) (count' : ℕ)
      → k ≡ lengths_refusal (length m) (length w) → k ≡ 0
      → outcome d n (state c' m' w' count') ≡ run_past_entry 0 es (state c m w count) → u ≡ tally_past_entry Unknown es (state c m w count)
      → o ≡ tally_past_entry OutOfRange es (state c m w count) → l ≡ stored c' ws → ran n d u o l m' w' count' ≡ run_call es ws m w count
  unfolding run_call
  run-done m w es count n d u o k c' l m' w' count' told z er eu eo el =
      let s = state c m w count in
      let fit = fits m w count k told z in
      rw (stands, ← chip, ← er ∙ run-past-entry es s fit, ← eu ∙ tally-past Unknown es s fit, ← eo ∙ tally-past OutOfRange es s fit, el ∙ stored-over ws c' stands)

  pub place-done : (row column n : ℕ) (a : std.Result ℕ ℕ) → a ≡ cell_of c row column → n ≡ cell_number a → n ≡ place_call row column ws
  unfolding place_call
  place-done row column n a ea en = rw (stands, ← chip, ← ea) en

  pub glass-done : (row column : ℕ) (m : List ℕ) (n : ℕ) (a : std.Result Shown ℕ) → a ≡ glass_of c m row column → n ≡ shown_number a → n ≡ glass_call row column ws m
  unfolding glass_call
  glass-done row column m n a ea en = rw (stands, ← chip, ← ea) en

  pub pulses-done :
      (row column : ℕ) (m : List ℕ) (n : ℕ) (a : std.Result Pulses ℕ) → a ≡ pulses_of c m row column → n ≡ pulses_number a → n ≡ pulses_call row column ws m
  unfolding pulses_call
  pulses-done row column m n a ea en = rw (stands, ← chip, ← ea) en

  pub pulse-row-done :
      (row : ℕ) (m out : List ℕ) (n : ℕ) (out' : List ℕ) → pulse_row n out' ≡ row_of c m row out → pulse_row n out' ≡ pulse_row_call row ws m out
  unfolding pulse_row_call
  pulse-row-done row m out n out' er = rw (stands, ← chip) er

  pub compile-done :
      (text out : List ℕ) (a : Compiled) (t : Numbers) (out' : List ℕ)
      → answered a out' ≡ compile_of c text out → t ≡ numbers_of a → with_numbers t out' ≡ compile_call ws text out
  unfolding compile_call
  compile-done text out a t out' er et =
      ap (λ (z : Numbers). with_numbers z out') et
      ∙ ap (λ (r : Result). with_numbers (numbers_of r.answer) r.out) er
      ∙ ap (λ (d : Chip). with_numbers (numbers_of (compile_of d text out).answer) (compile_of d text out).out) chip
      ∙ sym (rw stands)
