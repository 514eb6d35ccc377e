-- How long the lines of a part are at most: 74 bytes for each of its bytes, so that a buffer of that length has room for them.
use mathlib.Core.Bool.{Bool, true, false, cond, not, ◌&&◌}
use mathlib.Core.List.{List, [], ◌∷◌, append-nil}
use mathlib.Core.Logic.{⊎_elim}
use mathlib.Core.Path.{◌≡◌, refl, sym, subst}
use Prim.Native.Nat.{ℕ, zero, suc, ◌*◌, ◌^◌, ◌<◌, ◌≤◌}
use native.Mathlib.Omega.{arith}
use lib.Dec.{eqb}
use lib.ListN.{length, length-append}
use Rattle.registers.specs.declared.Phase.{Phase}
use Rattle.registers.specs.declared.Phase.TheVariants.{Idle, AddressAwaited, Ignoring, ControlAwaited, OneByte, EndlessBytes, Reading, ReadEnded}
use Rattle.registers.specs.State.{State}
use Rattle.registers.proofs.Within.{allowed-registers}
use Rattle.print.specs.Chosen.{lines_of}
use Rattle.phases.specs.Changes.{controlled, read_byte, pulsed, sensed}
use Rattle.phases.specs.Phases.{is_reading}
use Rattle.engine.specs.declared.event.Event.{Event}
use Rattle.engine.specs.declared.event.Event.TheVariants.{Byte, Start, Stop, ReadAcknowledged, ReadNotAcknowledged, Reset, Sensor, Unlisted}
use Rattle.engine.specs.Event.{event_of}
use Rattle.engine.specs.Step.{acknowledge, on_byte, applied, counted, accepted}
use Rattle.chip.specs.Promised.{After, refusal_of, step_of}
use Rattle.chip.specs.RunOn.{ran_one}
use Rattle.chip.specs.When.{ListedEvent}
use Rattle.chip.proofs.Laws.{refused, count_law}
use Rattle.chip.proofs.Refusals.{accepted-step, accepted-when}
use Rattle.chip.proofs.RunOn.{run-one}
use Rattle.capture_lines.specs.declared.LineSoFar.{LineSoFar}
use Rattle.capture_lines.specs.declared.LineSoFar.TheVariants.{First, Pins, Empty, Number, BadFirst, Bad}
use Rattle.capture_lines.specs.Line.{newline}
use Rattle.capture_lines.specs.SoFar.{with_byte}
use Rattle.capture.specs.Feeding.{Playing, playing, kept, start_of, ended_line, with_next, bytes_fed, part_refusal, fed_unless, feed_of}
use Rattle.event_words.proofs.Bounds.{ShortEvent, short-event, ShortAnswer, event-line-bound}
use Rattle.capture_trace.specs.Done.{done_event, done_unless, done_at_end, done_at_byte, done_in_bytes, done_in_part}
use Rattle.capture_trace.specs.Follow.{line_for}
use Rattle.capture_trace.proofs.CodeWays.{told-append, done-number}

-- ---- what a machine holds, and that every step keeps it

pub record Sized (s : State) : Type 0 where
  pub status : s.chip.status < 256
  pub count : s.count < 2 ^ 64

-- a status byte is read, or 255
read_short : (t : Bool) (n : ℕ) → n < 256 → cond t n 255 < 256
read_short true n h = h
read_short false n h = omega arith

either-short : (t : Bool) (n m : ℕ) → n < 256 → m < 256 → cond t n m < 256
either-short true n m h k = h
either-short false n m h k = k

acknowledge-short : (t : Bool) → ShortAnswer (acknowledge t)
unfolding acknowledge
acknowledge-short true = tt
acknowledge-short false = tt

module _ (s : State) (small : s.chip.status < 256) where
  byte-answer : (p : Phase) (b : ℕ) → ShortAnswer (on_byte p b s).answer
  byte-answer Idle b = tt
  byte-answer AddressAwaited b = acknowledge-short _
  byte-answer Ignoring b = tt
  byte-answer ControlAwaited b = tt
  byte-answer (OneByte false) b = tt
  byte-answer (OneByte true) b = tt
  byte-answer (EndlessBytes false) b = tt
  byte-answer (EndlessBytes true) b = tt
  byte-answer Reading b = tt
  byte-answer ReadEnded b = tt

  event-answer : (v : Event) → ShortAnswer (applied v s).answer
  unfolding applied read_byte
  event-answer (Byte b) = byte-answer s.chip.phase b
  event-answer Start = tt
  event-answer Stop = tt
  event-answer ReadAcknowledged = read_short (is_reading s.chip.phase && not s.chip.last_rs) s.chip.status small
  event-answer ReadNotAcknowledged = read_short (is_reading s.chip.phase && not s.chip.last_rs) s.chip.status small
  event-answer Reset = tt
  event-answer (Sensor n) = tt
  event-answer Unlisted = tt

  byte-status : (p : Phase) (b : ℕ) → (on_byte p b s).state.chip.status < 256
  unfolding controlled
  byte-status Idle b = small
  byte-status AddressAwaited b = small
  byte-status Ignoring b = small
  byte-status ControlAwaited b = small
  byte-status (OneByte false) b = small
  byte-status (OneByte true) b = small
  byte-status (EndlessBytes false) b = small
  byte-status (EndlessBytes true) b = small
  byte-status Reading b = small
  byte-status ReadEnded b = small

  event-status : (v : Event) → ShortEvent v → (applied v s).state.chip.status < 256
  unfolding applied pulsed sensed
  event-status (Byte b) h = byte-status s.chip.phase b
  event-status Start h = small
  event-status Stop h = small
  event-status ReadAcknowledged h = small
  event-status ReadNotAcknowledged h = small
  event-status Reset h = omega arith
  event-status (Sensor n) h = either-short (eqb s.chip.registers.sm 1 && eqb s.chip.registers.pd 0) n s.chip.status h small
  event-status Unlisted h = small

-- ---- an event that was done

module _ (e : ℕ) (s : State) (done : refusal_of e s ≡ 0) (sized : Sized s) where
  listed-short : ListedEvent e → e < 1000
  listed-short = ⊎_elim (λ h. omega (arith, h)) (λ h. omega (arith, h.1))

  answered : ShortAnswer (accepted e s).answer
  unfolding accepted
  answered = event-answer (counted s) sized.status (event_of e)

  held : (accepted e s).state.chip.status < 256
  unfolding accepted
  held = event-status (counted s) sized.status (event_of e) (short-event e)

  line-bound : length (line_for (done_event e s)) ≤ 74
  line-bound =
      let passed = accepted-when e s done in
      event-line-bound e s.chip s.count (step_of e s).answer (listed-short passed.listed) sized.count
      (allowed-registers s.chip passed.fit.is-allowed)
      (subst (λ (a : After). ShortAnswer a.answer) (sym (accepted-step e s done)) answered)

  stays-sized : Sized (step_of e s).state
  stays-sized =
      record {
        status = subst (λ (a : After). a.state.chip.status < 256) (sym (accepted-step e s done)) held;
        count = omega (arith, count_law e s done, (accepted-when e s done).room, sized.count);
      }

-- ---- the bytes of a part

one-bound : (l : LineSoFar) (s : State) → Sized s → length (lines_of line_for (done_at_end l s)) ≤ 74
one-bound (First k) s h = omega arith
one-bound (Pins p) s h = omega arith
one-bound Empty s h = omega arith
one-bound (Number e) s h = go (refusal_of e s) refl
  where
    go : (k : ℕ) → refusal_of e s ≡ k → length (lines_of line_for (done_at_end (Number e) s)) ≤ 74
    go zero q = rw (done-number e s zero q, append-nil (line_for (done_event e s))) (line-bound e s q h)
    go (suc k) q = rw (done-number e s (suc k) q) (omega arith)
one-bound BadFirst s h = omega arith
one-bound Bad s h = omega arith

ended-sized : (l : LineSoFar) (s : State) → Sized s → Sized (ended_line l s).state
unfolding ended_line
ended-sized (First k) s h = h
ended-sized (Pins p) s h = record { status = omega arith; count = omega arith }
ended-sized Empty s h = h
ended-sized (Number e) s h = rw (run-one e s) (go (refusal_of e s) refl)
  where
    go : (k : ℕ) → refusal_of e s ≡ k → Sized (ran_one k (step_of e s).state).state
    go zero q = stays-sized e s q h
    go (suc k) q = subst (λ (a : After). Sized a.state) (sym (refused e s k q)) h
ended-sized BadFirst s h = h
ended-sized Bad s h = h

next-sized : (t : Bool) (b : ℕ) (p : Playing) → Sized p.state → Sized (cond t (ended_line p.line p.state) (playing (with_byte p.line b) p.state)).state
next-sized true b p h = ended-sized p.line p.state h
next-sized false b p h = h

bytes-bound : (bs : List ℕ) (p : Playing) → Sized p.state → length (lines_of line_for (done_in_bytes bs p)) ≤ 74 * length bs
unfolding done_in_bytes
bytes-bound [] p h = omega arith
bytes-bound (b ∷ bs) p h =
    rw (told-append true (done_at_byte b p) (done_in_bytes bs (with_next b p)))
    (omega (
      arith,
      length-append (lines_of line_for (done_at_byte b p)) (lines_of line_for (done_in_bytes bs (with_next b p))),
      here (eqb b newline),
      bytes-bound bs (with_next b p) (next-sized (eqb b newline) b p h),
    ))
  where
    here : (t : Bool) → length (lines_of line_for (cond t (done_at_end p.line p.state) [])) ≤ 74
    here true = one-bound p.line p.state h
    here false = omega arith

pub part-bound : (part : List ℕ) (p : Playing) → Sized p.state → length (lines_of line_for (done_in_part part p)) ≤ 74 * length part
unfolding done_in_part
part-bound part p h = go (part_refusal p)
  where
    go : (k : ℕ) → length (lines_of line_for (done_unless k (done_in_bytes part p))) ≤ 74 * length part
    go zero = bytes-bound part p h
    go (suc k) = omega arith

-- ---- from part to part

pub start-sized : (m w : List ℕ) → Sized (kept start_of m w).state
start-sized m w = record { status = omega arith; count = omega arith }

bytes-sized : (bs : List ℕ) (p : Playing) → Sized p.state → Sized (bytes_fed bs p).state
unfolding bytes_fed
bytes-sized [] p h = h
bytes-sized (b ∷ bs) p h = bytes-sized bs (with_next b p) (next-sized (eqb b newline) b p h)

pub fed-sized : (part : List ℕ) (p : Playing) → Sized p.state → Sized (feed_of part p).after.state
unfolding feed_of
fed-sized part p h = go (part_refusal p)
  where
    go : (k : ℕ) → Sized (fed_unless k (bytes_fed part p) p).after.state
    go zero = bytes-sized part p h
    go (suc k) = h
