-- What is promised of the chip, in one place: read this file first. The work stands in the files beside it.
use mathlib.Core.Bool.{true}
use mathlib.Core.List.{List, [], ◌∷◌, ◌++◌}
use mathlib.Core.Logic.{◌↔◌, inl}
use mathlib.Core.Path.{◌≡◌, refl, sym, ap, ◌∙◌, subst}
use Prim.Native.Nat.{ℕ, zero, suc, ◌+◌, ◌*◌, ◌<◌, ◌≤◌}
use native.Mathlib.Nat.{suc-ne-zero}
use native.Mathlib.Omega.{arith}
use lib.ListN.{get_or}
use Rattle.registers.specs.declared.Phase.TheVariants.{Idle, AddressAwaited, ControlAwaited}
use Rattle.registers.specs.Encode.{row_byte}
use Rattle.registers.specs.declared.PixelCounts.{PixelCounts}
use Rattle.registers.specs.Record.{in_phase, with_registers, pixels, count_for}
use Rattle.registers.specs.State.{State}
use Rattle.registers.proofs.TableTest.{row_no}
use Rattle.registers.proofs.Within.{allowed-registers}
use Rattle.pixel_counts.specs.Counts.{counts_of}
use Rattle.pixel_counts.proofs.Laws.{counts-add, mendable-exactly, moves-exactly}
use Rattle.display.specs.Display.{pixels_after}
use Rattle.commands.proofs.Answers.{answer-exactly, untaken-kept, nop-taken, return-taken, swap-taken}
use Rattle.engine.specs.declared.event.Event.{Event}
use Rattle.engine.specs.Run.{run_of, unless_stopped, run_from}
use Rattle.phases.specs.Phases.{phase_after_content}
use Rattle.phases.specs.Changes.{read_byte}
use Rattle.engine.specs.Step.{accepted, applied, step_of, counted}
use Rattle.engine.proofs.Allowed.{accepted-fit}
use Rattle.engine.proofs.Events.{sensor-event}
use Rattle.engine.proofs.Pixels.{accepted-true, accepted-kept}
use Rattle.engine.proofs.Tallies.{tally-refused}
use Rattle.engine.proofs.PastEntry as PastEntry
use Rattle.engine.proofs.Refusals.{entry-fit, fit-entry, accepts}
use Rattle.chip.specs.Effects.{displayed}
use Rattle.chip.specs.LastWriter.{before, PlaceAfter, LastWriter}
use Rattle.chip.specs.Phases.{awaits_data, awaits_command, ignores_bytes, phase_after_ignored}
use Rattle.chip.specs.Promised.{CommandAnswer, Taken, Refused, Nothing, Acknowledged, NotAcknowledged, Command, Read, After, nothing_stored, Fit, entry_refusal, refusal_of, is_addressed}
use Rattle.chip.specs.Promised.{acknowledge, phase_after_address, controlled, phase_after_last_read, pulsed, sensed, command_of, answer_to, CommandWhen, count_unless, tally}
use Rattle.chip.specs.Promised.{stored_of, place_of, shown, TrueCounts}
use Rattle.chip.specs.Promised.{PastEntryNumber, step_past_entry, run_past_entry, tally_past_entry}
use Rattle.chip.specs.Runs.{continued, StepByStep, tally_over}
use Rattle.chip.specs.When.{ComesAsData, When, none, not_long, not_allowed, not_listed, count_full, goes_out}
use Rattle.chip.proofs.Events.{by-phase, in-known-phase, command-at, display-step, ignored-at, answered-command, same-command}
use Rattle.chip.proofs.Held.{held-does}
use Rattle.chip.proofs.LastWriter.{from-written, idle, counts-accepted}
use Rattle.chip.proofs.Refusals.{refusal-when, when-so, accepted-step, accepted-when, true-accepts, no-data}
use Rattle.chip.proofs.Runs.{from-append, from-fit, from-steps, entry-stops}
use Rattle.chip.proofs.Tallies.{from-tallies, from-tallies-append, entry-tallies, at-most-done}

-- ---- refusals

-- each number comes exactly when document 01's table says
pub exactly-when : (e : ℕ) (s : State) (k : ℕ) → (refusal_of e s ≡ k) ↔ When e s k
exactly-when e s k = (λ q. subst (λ (n : ℕ). When e s n) q (refusal-when e s), when-so e s k)

-- and there is none above 16
pub refusal-at-most : (e : ℕ) (s : State) → refusal_of e s ≤ 16
refusal-at-most e s = go (refusal-when e s)
  where
    go : {k : ℕ} → When e s k → k ≤ 16
    go (none a) = omega arith
    go (not_long l) = omega arith
    go (not_allowed l a) = omega arith
    go (not_listed f l) = omega arith
    go (count_full f l c) = omega arith
    go (goes_out f r o) = omega arith

-- a refused event gives its number, and changes nothing
pub refused : (e : ℕ) (s : State) (k : ℕ) → refusal_of e s ≡ suc k → step_of e s ≡ record { answer = Refused (suc k); state = s }
unfolding step_of
refused e s k h = rw h

-- what 1 and 2 let pass stays so: an allowed record stays allowed after any event, and the memories keep their length
pub stays_fit : (e : ℕ) (s : State) → Fit s → Fit (step_of e s).state
stays_fit e s fit = go (refusal_of e s) refl
  where
    go : (k : ℕ) → refusal_of e s ≡ k → Fit (step_of e s).state
    go zero h = rw (accepted-step e s h) (accepted-fit e s fit)
    go (suc k) h = rw (refused e s k h) fit

-- ---- events that are not refused, one law each

module _ (s : State) where
  pub start-law : refusal_of 256 s ≡ 0 → step_of 256 s ≡ nothing_stored Nothing (in_phase s.chip AddressAwaited) (counted s)
  unfolding accepted applied
  start-law h = accepted-step 256 s h

  pub stop-law : refusal_of 257 s ≡ 0 → step_of 257 s ≡ nothing_stored Nothing (in_phase s.chip Idle) (counted s)
  unfolding accepted applied
  stop-law h = accepted-step 257 s h

  -- a byte read, acknowledged by the master, and one that is not: the second ends the read
  pub read-law : refusal_of 258 s ≡ 0 → step_of 258 s ≡ nothing_stored (Read (read_byte s.chip)) s.chip (counted s)
  unfolding accepted applied read_byte
  read-law h = accepted-step 258 s h

  pub last-read-law :
      refusal_of 259 s ≡ 0 → step_of 259 s ≡ nothing_stored (Read (read_byte s.chip)) (in_phase s.chip (phase_after_last_read s.chip.phase)) (counted s)
  unfolding accepted applied read_byte
  last-read-law h = accepted-step 259 s h

  -- the reset pulse touches neither memory, count nor pins
  pub reset-law : refusal_of 260 s ≡ 0 → step_of 260 s ≡ nothing_stored Nothing (pulsed s.chip) (counted s)
  unfolding accepted applied
  reset-law h = accepted-step 260 s h

  pub sensor-law : (v : ℕ) → v < 256 → refusal_of (512 + v) s ≡ 0 → step_of (512 + v) s ≡ nothing_stored Nothing (sensed v s.chip) (counted s)
  unfolding accepted applied
  sensor-law v b h =
      accepted-step (512 + v) s h
      ∙ ap (λ (e : Event). applied e (counted s)) (sensor-event v b)

  -- a byte from the master: address, control byte, command, display byte, or one that is ignored
  module _ (b : ℕ) (is-byte : b < 256) (h : refusal_of b s ≡ 0) where
    pub address-law :
        s.chip.phase ≡ AddressAwaited
        → step_of b s
        ≡ nothing_stored (acknowledge (is_addressed s.chip.pins b)) (in_phase s.chip (phase_after_address (is_addressed s.chip.pins b) b)) (counted s)
    address-law e = in-known-phase s b is-byte h AddressAwaited e

    pub control-law : s.chip.phase ≡ ControlAwaited → step_of b s ≡ nothing_stored Acknowledged (controlled b s.chip) (counted s)
    control-law e = in-known-phase s b is-byte h ControlAwaited e

    pub command-law :
        awaits_command s.chip.phase ≡ true
        → step_of b s
        ≡ nothing_stored (Command (answer_to s.chip.registers.h b))
        (with_registers (in_phase s.chip (phase_after_content s.chip.phase)) (command_of b s.chip.registers)) (counted s)
    command-law t =
        by-phase s b is-byte h ∙ command-at s.chip.phase b (counted s) t

    pub display-law : awaits_data s.chip.phase ≡ true → step_of b s ≡ displayed b s
    display-law t = display-step s b is-byte h t

    pub ignored-law : ignores_bytes s.chip.phase ≡ true → step_of b s ≡ nothing_stored NotAcknowledged (in_phase s.chip (phase_after_ignored s.chip.phase)) (counted s)
    ignored-law t =
        by-phase s b is-byte h ∙ ignored-at s.chip.phase b (counted s) refl t

-- ---- the pixels by value (document 02, W8)

-- true before an event, true after it, whatever the event, accepted or not
pub stays-true : (e : ℕ) (s : State) → TrueCounts s → TrueCounts (step_of e s).state
stays-true e s t = go (refusal_of e s) refl
  where
    go : (k : ℕ) → refusal_of e s ≡ k → TrueCounts (step_of e s).state
    go zero h = rw (accepted-step e s h) (accepted-true e s (accepts e s h).fit t)
    go (suc k) h = rw (refused e s k h) t

-- true counts add up to all pixels, and are never a reason for 16
pub true-counts-add : (s : State) → TrueCounts s → s.chip.pixels.zeros + s.chip.pixels.ones + s.chip.pixels.twos + s.chip.pixels.threes ≡ pixels
unfolding counts_of
true-counts-add s t =
    ap (λ (n : PixelCounts). n.zeros + n.ones + n.twos + n.threes) t ∙ counts-add s.memory

pub true-never-16 : (e : ℕ) (s : State) → TrueCounts s → refusal_of e s ≡ 16 → ⊥
true-never-16 e s t h = go ((exactly-when e s 16).0 h)
  where
    go : When e s 16 → ⊥
    go (goes_out fit room out) =
        let none-there = true-accepts e s fit t (inl (omega (arith, out.comes.is-byte))) room in
        let z : ◌≡◌ {A = ℕ} 0 16 = sym none-there ∙ h in
        omega arith

-- counts of any kind: at an accepted display byte each of them moves by exactly what left, the pixels of the byte that stood at the address, and
-- what joined, those of the byte that is stored; at any other accepted event none moves, not at a reset pulse either
pub counts_move :
    (e : ℕ) (s : State) → refusal_of e s ≡ 0 → ComesAsData e s → let place = place_of s.chip.registers in
    (v : ℕ) → v < 4
    → count_for (step_of e s).state.chip.pixels v + shown v place (get_or s.memory place 0)
    ≡ count_for s.chip.pixels v + shown v place (stored_of s.chip.registers e)
unfolding pixels_after
counts_move e s h comes v l =
    ap (λ (x : After). count_for x.state.chip.pixels v + shown v (place_of s.chip.registers) (get_or s.memory (place_of s.chip.registers) 0))
    (display-law s e comes.is-byte h comes.is_data)
    ∙ moves-exactly s.chip.pixels _ _ _ ((mendable-exactly _ _ _ _).1 ((accepted-when e s h).counts_stay_in comes)) v l

pub counts-kept :
    (e : ℕ) (s : State) → refusal_of e s ≡ 0 → (ComesAsData e s → ⊥) → (step_of e s).state.chip.pixels ≡ s.chip.pixels
counts-kept e s h none-comes = rw (accepted-step e s h) (accepted-kept e s (no-data e s none-comes))

-- taken, unknown or out of range: each exactly when an accepted byte comes as a command, and the sheet says so of it in the present page
pub answered-exactly :
    (e : ℕ) (s : State) → refusal_of e s ≡ 0 → (a : CommandAnswer)
    → ((step_of e s).answer ≡ Command a) ↔ ((e < 256) × (awaits_command s.chip.phase ≡ true) × CommandWhen s.chip.registers.h e a)
answered-exactly e s h a = (there, back)
  where
    given : e < 256 → awaits_command s.chip.phase ≡ true → (step_of e s).answer ≡ Command (answer_to s.chip.registers.h e)
    given byte t = ap (λ (x : After). x.answer) (command-law s e byte h t)

    there : (step_of e s).answer ≡ Command a → (e < 256) × (awaits_command s.chip.phase ≡ true) × CommandWhen s.chip.registers.h e a
    there q =
        let so = answered-command e s h a q in
        (so.0, so.1, (answer-exactly s.chip.registers.h e a).0 (same-command (sym (given so.0 so.1) ∙ q)))

    back : (e < 256) × (awaits_command s.chip.phase ≡ true) × CommandWhen s.chip.registers.h e a → (step_of e s).answer ≡ Command a
    back w = given w.0 w.1 ∙ ap Command ((answer-exactly s.chip.registers.h e a).1 w.2)

-- NOP and page return are taken in every page, row block swapping in page 4 whatever it says, and in its page every row's byte that says what the
-- registers hold already, which leaves them so
module _ (s : State) (t : awaits_command s.chip.phase ≡ true) where
  said : (b : ℕ) → b < 256 → refusal_of b s ≡ 0 → answer_to s.chip.registers.h b ≡ Taken → (step_of b s).answer ≡ Command Taken
  said b byte h e = ap (λ (x : After). x.answer) (command-law s b byte h t) ∙ ap Command e

  pub nop-law : refusal_of 0b0000_0000 s ≡ 0 → (step_of 0b0000_0000 s).answer ≡ Command Taken
  nop-law h = said 0 (omega arith) h (nop-taken s.chip.registers.h)

  pub page-return-law : refusal_of 0b0000_0001 s ≡ 0 → (step_of 0b0000_0001 s).answer ≡ Command Taken
  page-return-law h = said 1 (omega arith) h (return-taken s.chip.registers.h)

  pub swap-law :
      (k : ℕ) → k < 4 → s.chip.registers.h ≡ 4 → refusal_of (0b0100_0000 + 8 * k) s ≡ 0 → (step_of (0b0100_0000 + 8 * k) s).answer ≡ Command Taken
  swap-law k l e h = said (64 + 8 * k) (omega arith) h (ap (λ (n : ℕ). answer_to n (64 + 8 * k)) e ∙ swap-taken k l)

  pub held-law :
      (i : ℕ) → i < 21 → (row_no i).page ≡ s.chip.registers.h → let b = row_byte (row_no i) s.chip.registers in refusal_of b s ≡ 0
      → ((step_of b s).answer ≡ Command Taken) × ((step_of b s).state.chip.registers ≡ s.chip.registers)
  held-law i l e h =
      let does = held-does s.chip.registers (allowed-registers s.chip (accepts _ s h).fit.is-allowed) i l e in (
        said _ does.is-byte h does.is-taken,
        ap (λ (x : After). x.state.chip.registers) (command-law s _ does.is-byte h t) ∙ does.leaves,
      )

-- a command that is unknown or out of range leaves every register as it was
pub untaken-law :
    (b : ℕ) (s : State) → b < 256 → refusal_of b s ≡ 0 → awaits_command s.chip.phase ≡ true → ((step_of b s).answer ≡ Command Taken → ⊥)
    → (step_of b s).state.chip.registers ≡ s.chip.registers
untaken-law b s byte h t untaken =
    let law = command-law s b byte h t in
    ap (λ (x : After). x.state.chip.registers) law
    ∙ untaken-kept b s.chip.registers (λ q. untaken (ap (λ (x : After). x.answer) law ∙ ap Command q))

-- every accepted event adds 1 to the count, and that is its number
pub count_law : (e : ℕ) (s : State) → refusal_of e s ≡ 0 → (step_of e s).state.count ≡ s.count + 1
count_law e s h = rw (accepted-step e s h) (counts-accepted e s)

-- ---- runs

-- a run over two lists is the run over the first, gone on with the second where the first was not stopped
pub run-append : (xs ys : List ℕ) (s : State) → run_of (xs ++ ys) s ≡ continued (run_of xs s) ys
unfolding run_of run_from
run-append xs ys s = go (entry_refusal s)
  where
    go : (k : ℕ) → unless_stopped k 0 s (run_from 0 (xs ++ ys) s) ≡ continued (unless_stopped k 0 s (run_from 0 xs s)) ys
    go zero = from-append 0 xs ys s
    go (suc k) = refl

-- a run is its steps: it ends in the state that its first `done` steps leave, one by one, none of them refused; where it stops, its refusal is
-- that of the event that comes next
pub run-steps : (es : List ℕ) (s : State) → StepByStep es s (run_of es s)
unfolding run_of
run-steps es s = go (entry_refusal s) refl
  where
    go : (k : ℕ) → entry_refusal s ≡ k → StepByStep es s (unless_stopped k 0 s (run_from 0 es s))
    go zero q = from-steps es s (entry-fit s q)
    go (suc k) q = entry-stops es s k q

-- what a run counts of the answers to commands, it counts over the steps that it did, a refused one not among them; so no more than those
pub run-tallies : (a : CommandAnswer) (es : List ℕ) (s : State) → tally a es s ≡ tally_over a es (run_of es s).done s
unfolding run_of
run-tallies a es s = go (entry_refusal s) refl
  where
    go : (x : ℕ) → entry_refusal s ≡ x → tally a es s ≡ tally_over a es (unless_stopped x 0 s (run_from 0 es s)).done s
    go zero q = from-tallies a es s
    go (suc x) q = entry-tallies a es s x q

pub run-tallies-at-most : (a : CommandAnswer) (es : List ℕ) (s : State) → tally a es s ≤ (run_of es s).done
run-tallies-at-most a es s = rw (run-tallies a es s) (at-most-done a es (run_of es s).done s)

-- a run over two lists counts what the run over the first counts, and where that was not stopped what the run over the second does from there on
pub run-tallies-append :
    (a : CommandAnswer) (xs ys : List ℕ) (s : State) → tally a (xs ++ ys) s ≡ tally a xs s + count_unless (run_of xs s).refusal (tally a ys (run_of xs s).state)
unfolding run_of
run-tallies-append a xs ys s = go (entry_refusal s) refl
  where
    go :
        (k : ℕ) → entry_refusal s ≡ k
        → tally a (xs ++ ys) s
        ≡ tally a xs s + count_unless (unless_stopped k 0 s (run_from 0 xs s)).refusal (tally a ys (unless_stopped k 0 s (run_from 0 xs s)).state)
    go zero q = from-tallies-append a 0 xs ys s
    go (suc k) q =
        let none : (es : List ℕ) → 0 ≡ tally a es s = λ es. tally-refused a es s (suc k) (sym q) (suc-ne-zero k) in
        omega (arith, none (xs ++ ys), none xs)

-- 1 and 2 are tested at entry, and not again: a run is what its entry refuses, or what comes past it, for every input, also with no events and with a
-- record that is not allowed (document 02, W9)
pub tested-at-entry : (es : List ℕ) (s : State) → run_of es s ≡ unless_stopped (entry_refusal s) 0 s (run_past_entry 0 es s)
tested-at-entry es s = PastEntry.tested-at-entry es s

pub tallied-from-entry : (a : CommandAnswer) (es : List ℕ) (s : State) → tally a es s ≡ count_unless (entry_refusal s) (tally_past_entry a es s)
tallied-from-entry a es s = PastEntry.tallied-from-entry es s a

-- past its entry 3, 4 and 16 alone stop a run, whatever the record
pub past-entry-refusals : (es : List ℕ) (s : State) → PastEntryNumber (run_past_entry 0 es s).refusal
past-entry-refusals es s = PastEntry.run-past-entry-number 0 es s

-- whoever has tested 1 and 2 can go on past the entry
pub step-past-entry : (e : ℕ) (s : State) → Fit s → step_past_entry e s ≡ step_of e s
step-past-entry e s fit = PastEntry.same_step e s fit

pub run-past-entry : (es : List ℕ) (s : State) → Fit s → run_past_entry 0 es s ≡ run_of es s
run-past-entry es s fit =
    sym (tested-at-entry es s ∙ ap (λ (k : ℕ). unless_stopped k 0 s (run_past_entry 0 es s)) (fit-entry s fit))

-- an allowed record stays allowed over a run, and the memories keep their length
pub run-stays-fit : (es : List ℕ) (s : State) → Fit s → Fit (run_of es s).state
unfolding run_of
run-stays-fit es s fit = go (entry_refusal s)
  where
    go : (x : ℕ) → Fit (unless_stopped x 0 s (run_from 0 es s)).state
    go zero = from-fit 0 es s fit
    go (suc x) = fit

-- true counts stay true from event to event, and over a run
pub events-stay-true : (es : List ℕ) (n : ℕ) (s : State) → TrueCounts s → TrueCounts (before es n s)
events-stay-true [] n s t = t
events-stay-true (e ∷ es) zero s t = t
events-stay-true (e ∷ es) (suc n) s t = events-stay-true es n (step_of e s).state (stays-true e s t)

pub run-stays-true : (es : List ℕ) (s : State) → TrueCounts s → TrueCounts (run_of es s).state
run-stays-true es s t = subst TrueCounts (sym (run-steps es s).ends) (events-stay-true es (run_of es s).done s t)

-- the last writer, demand 2: at every place either nothing was stored and byte and writer are as they were, or the last display byte that was stored
-- there is named by the writer and its stored byte is there
pub last-writer : (es : List ℕ) (s : State) (k : ℕ) → LastWriter es s k
unfolding run_of
last-writer es s k = go (entry_refusal s) refl
  where
    go : (x : ℕ) → entry_refusal s ≡ x → PlaceAfter es (unless_stopped x 0 s (run_from 0 es s)).done s (unless_stopped x 0 s (run_from 0 es s)).state k
    go zero q = from-written es s k (entry-fit s q)
    go (suc x) q = inl (idle es s k)
