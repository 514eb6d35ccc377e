-- Bytes followed one by one do the events that the whole text says, line by line.
use mathlib.Core.Path.{◌≡◌, refl, sym, ap, ◌∙◌}
use mathlib.Core.Bool.{Bool, true, false, cond}
use mathlib.Core.List.{List, [], ◌∷◌, ◌++◌, append-nil}
use Prim.Native.Nat.{ℕ, zero, suc, ◌<◌}
use native.Mathlib.Omega.{arith}
use lib.Dec.{eqb}
use lib.ListN.{length}
use lib.Seq.{append_snoc}
use Rattle.registers.specs.State.{State}
use Rattle.std.specs.Prelude.{Option, Some, None}
use Rattle.text.specs.Decimal.{number_of}
use Rattle.text.specs.Text.{split, on_first}
use Rattle.text.proofs.Splitting.{split-some}
use Rattle.chip.specs.Promised.{refusal_of, step_of}
use Rattle.capture_lines.specs.declared.LineSoFar.{LineSoFar}
use Rattle.capture_lines.specs.declared.LineSoFar.TheVariants.{First, Empty, Number, BadFirst, Bad}
use Rattle.capture_lines.specs.Line.{newline}
use Rattle.capture_lines.specs.SoFar.{with_byte, with_bytes, pins_in, of_number, event_line}
use Rattle.capture_lines.proofs.Digits.{event-line-kept}
use Rattle.capture_lines.proofs.Laws.{first-line}
use Rattle.capture_lines.proofs.Pins.{with-bytes-one}
use Rattle.capture.specs.Feeding.{Playing, playing, ended_line}
use Rattle.capture.specs.Reading.{EventsRead, events_of, with_event}
use Rattle.capture.specs.Replay.{started}
use Rattle.capture.proofs.Whole.{onto, IsFirst, first, pins, bad, all_first}
use Rattle.capture_trace.specs.Done.{DoneEvent, done_event, done_events, done_with_pins, done_lines, done_at_end, done_in_bytes}
use Rattle.capture_trace.proofs.CodeWays.{ended-number, done-number}

-- ---- nothing is done of a refused capture

either : {A : Type 0} (t : Bool) (x : A) → cond t x x ≡ x
either true x = refl
either false x = refl

stuck : (xs : List ℕ) (s : State) → done_in_bytes xs (playing Bad s) ≡ []
unfolding done_in_bytes ended_line with_byte
stuck [] s = refl
stuck (b ∷ xs) s =
    ap (λ (ds : List DoneEvent). ds ++ done_in_bytes xs (cond (eqb b newline) (playing Bad s) (playing Bad s))) (either (eqb b newline) [])
    ∙ ap (done_in_bytes xs) (either (eqb b newline) (playing Bad s))
    ∙ stuck xs s

stuck-first : (xs : List ℕ) (s : State) → done_in_bytes xs (playing BadFirst s) ≡ []
unfolding done_in_bytes ended_line with_byte
stuck-first [] s = refl
stuck-first (b ∷ xs) s =
    ap (λ (ds : List DoneEvent). ds ++ done_in_bytes xs (cond (eqb b newline) (playing BadFirst s) (playing BadFirst s))) (either (eqb b newline) [])
    ∙ ap (done_in_bytes xs) (either (eqb b newline) (playing BadFirst s))
    ∙ stuck-first xs s

-- ---- event lines

-- a newline behind a line, whatever the lines behind it do
module _ (bs : List ℕ) (rest : EventsRead) (h : (s : State) → done_in_bytes bs (playing Empty s) ≡ done_events rest.events s) (s : State) where
  abbrev at_end : LineSoFar → List DoneEvent
  at_end l = done_at_end l s ++ done_in_bytes bs (ended_line l s)

  event-done : (e : ℕ) → at_end (Number e) ≡ done_events (e ∷ rest.events) s
  unfolding done_events
  event-done e = go (refusal_of e s) refl
    where
      go : (k : ℕ) → refusal_of e s ≡ k → at_end (Number e) ≡ done_events (e ∷ rest.events) s
      go zero q =
          ap (λ (ds : List DoneEvent). ds ++ done_in_bytes bs (ended_line (Number e) s)) (done-number e s zero q)
          ∙ ap (λ (p : Playing). done_event e s ∷ done_in_bytes bs p) (sym (ended-number e s zero q))
          ∙ ap (λ (ds : List DoneEvent). done_event e s ∷ ds) (h (step_of e s).state)
          ∙ rw q
      go (suc k) q =
          ap (λ (ds : List DoneEvent). ds ++ done_in_bytes bs (ended_line (Number e) s)) (done-number e s (suc k) q)
          ∙ ap (done_in_bytes bs) (sym (ended-number e s (suc k) q))
          ∙ stuck bs (step_of e s).state
          ∙ rw q

  line-done : (p : List ℕ) → at_end (event_line p) ≡ done_events (with_event (number_of p) rest).events s
  unfolding number_of ended_line done_events
  line-done [] = stuck bs s
  line-done (x ∷ p) = go (number_of (x ∷ p))
    where
      go : (v : Option ℕ) → at_end (of_number v) ≡ done_events (with_event v rest).events s
      go None = stuck bs s
      go (Some e) = event-done e

-- no newline follows
line-left : (p : List ℕ) (s : State) → [] ≡ done_events (events_of ((p ++ []) ∷ [])).events s
unfolding done_events
line-left [] s = refl
line-left (x ∷ p) s = refl

events-done :
    (xs p : List ℕ) (s : State)
    → done_in_bytes xs (playing (event_line p) s) ≡ done_events (events_of (onto p (split newline xs))).events s
unfolding done_in_bytes
events-done [] p s = line-left p s
events-done (b ∷ bs) p s = go (eqb b newline) (split newline bs) (split-some newline bs) (λ q t. events-done bs q t)
  where
    go :
        (t : Bool) (qs : List (List ℕ)) → 0 < length qs
        → ((q : List ℕ) (s' : State) → done_in_bytes bs (playing (event_line q) s') ≡ done_events (events_of (onto q qs)).events s')
        → cond t (done_at_end (event_line p) s) [] ++ done_in_bytes bs (cond t (ended_line (event_line p) s) (playing (with_byte (event_line p) b) s))
        ≡ done_events (events_of (onto p (cond t ([] ∷ qs) (on_first b qs)))).events s
    go t [] l h = absurd (omega arith)
    go true (q ∷ qs) l h = rw (append-nil p) (line-done bs (events_of (q ∷ qs)) (λ s'. h [] s') s p)
    go false (q ∷ qs) l h =
        rw (event-line-kept p b)
        (h (p ++ b ∷ []) s ∙ ap (λ (l : List ℕ). done_events (events_of (l ∷ qs)).events s) (append_snoc p b q))

-- ---- the first line

-- until then only the memories of what is kept count
module _ (s : State) where
  abbrev m : List ℕ
  m = s.memory

  abbrev w : List ℕ
  w = s.writers

  first_ended :
      {l : LineSoFar} (bs q : List ℕ) (qs : List (List ℕ)) → IsFirst l → split newline bs ≡ q ∷ qs
      → done_at_end l s ++ done_in_bytes bs (ended_line l s) ≡ done_with_pins (pins_in l) (events_of (q ∷ qs)) m w
  unfolding ended_line
  first_ended bs q qs first e = stuck-first bs s
  first_ended bs q qs (pins {p}) e = events-done bs [] (started p m w) ∙ rw e
  first_ended bs q qs bad e = stuck-first bs s

  first_done :
      (xs p : List ℕ) → done_in_bytes xs (playing (with_bytes (First 0) p) s) ≡ done_lines (onto p (split newline xs)) m w
  unfolding done_in_bytes
  first_done [] p = refl
  first_done (b ∷ bs) p = go (eqb b newline) (split newline bs) refl (split-some newline bs) (λ q. first_done bs q)
    where
      go :
          (t : Bool) (qs : List (List ℕ)) → split newline bs ≡ qs → 0 < length qs
          → ((q : List ℕ) → done_in_bytes bs (playing (with_bytes (First 0) q) s) ≡ done_lines (onto q qs) m w)
          → cond t (done_at_end (with_bytes (First 0) p) s) []
          ++ done_in_bytes bs (cond t (ended_line (with_bytes (First 0) p) s) (playing (with_byte (with_bytes (First 0) p) b) s))
          ≡ done_lines (onto p (cond t ([] ∷ qs) (on_first b qs))) m w
      go t [] e l h = absurd (omega arith)
      go true (q ∷ qs) e l h = first_ended bs q qs (all_first p first) e ∙ rw (first-line p, append-nil p)
      go false (q ∷ qs) e l h =
          rw (← with-bytes-one (First 0) p b) (h (p ++ b ∷ []) ∙ ap (λ (l : List ℕ). done_lines (l ∷ qs) m w) (append_snoc p b q))

  pub text-done : (text : List ℕ) → done_in_bytes text (playing (First 0) s) ≡ done_lines (split newline text) m w
  text-done text = first_done text [] ∙ go (split newline text) (split-some newline text)
    where
      go : (qs : List (List ℕ)) → 0 < length qs → done_lines (onto [] qs) m w ≡ done_lines qs m w
      go [] l = absurd (omega arith)
      go (q ∷ []) l = refl
      go (q ∷ r ∷ qs) l = refl
