-- A text that is written as a capture is read back, and comes to the end that its events come to.
use mathlib.Core.Path.{◌≡◌, refl, sym, ap, subst, ◌∙◌}
use mathlib.Core.Bool.{Bool, true, false, cond}
use mathlib.Core.List.{List, [], ◌∷◌, ◌++◌, append-nil}
use Prim.Native.Nat.{ℕ, zero, suc, ◌+◌, ◌<◌, ◌≤◌}
use native.Mathlib.Nat.{add-zero}
use native.Mathlib.Omega.{arith}
use borrow.Author.Tests.{le-leb, leb-true}
use lib.Dec.{leb}
use lib.ListN.{length, take, drop, take-append-drop}
use Rattle.registers.specs.State.{State}
use Rattle.std.specs.Prelude.{Option, Some, None}
use Rattle.text.specs.Decimal.{number_of, decimal}
use Rattle.text.specs.Text.{count_of, split, same_bytes}
use Rattle.text.proofs.Finding.{same-equal}
use Rattle.text.proofs.Printing.{printed, read_back, decimal-free}
use Rattle.text.proofs.Splitting.{split-some}
use Rattle.text.proofs.Joining.{split-append, split-join}
use Rattle.chip.specs.Promised.{Fit, TrueCounts, Outcome, run_of, refusal_of}
use Rattle.chip.specs.RunOn.{then_run}
use Rattle.chip.proofs.Laws.{run-stays-fit, run-stays-true}
use Rattle.chip.proofs.RunOn.{run-then, run-stopped}
use Rattle.capture_lines.specs.Line.{newline, word, as_pins, pins_of}
use Rattle.capture.specs.Reading.{EventsRead, events_read, with_event, events_of, first_line, event_lines, capture_then, capture_text}
use Rattle.capture.specs.Replay.{refused_at, replayed, started, replay_by, replay_lines, with_pins, replay_of}
use Rattle.capture.specs.Where.{Lent, Small, AllDone, Stops, unended, no_number, refused_event, Replayed, StoppedAfter}
use Rattle.capture.proofs.Refusals.{replay-lent, started-fit}
use Rattle.capture.proofs.Whole.{play_from, none_left}

-- ---- the first line

pub first-free : (pins : ℕ) → count_of newline (first_line pins) ≡ 0
first-free pins = decimal-free newline pins (omega arith)

pub first_read : (pins : ℕ) → pins ≤ 3 → pins_of (first_line pins) ≡ Some pins
unfolding pins_of
first_read pins h = rw (read_back pins (omega arith), le-leb pins 3 h)

-- and no other line is read as pins
as-pins : (v : Option ℕ) (k : ℕ) → as_pins v ≡ Some k → (v ≡ Some k) × (k ≤ 3)
as-pins None k e = absurd (let z : ◌≡◌ {A = ℕ} 0 1 = cc in omega arith)
as-pins (Some n) k e = go (leb n 3) refl e
  where
    go : (t : Bool) → leb n 3 ≡ t → cond t (Some n) None ≡ Some k → (Some n ≡ Some k) × (k ≤ 3)
    go true l e = let same : n ≡ k = cc e in (e, omega (arith, leb-true n 3 l))
    go false l e = absurd (let z : ◌≡◌ {A = ℕ} 0 1 = cc e in omega arith)

pub first-written : (p : List ℕ) (k : ℕ) → pins_of p ≡ Some k → (p ≡ first_line k) × (k ≤ 3)
unfolding pins_of
first-written p k e = go (same_bytes (take 5 p) word) refl e
  where
    go : (t : Bool) → same_bytes (take 5 p) word ≡ t → cond t (as_pins (number_of (drop 5 p))) None ≡ Some k → (p ≡ first_line k) × (k ≤ 3)
    go true same e =
        let number = as-pins (number_of (drop 5 p)) k e in
        (sym (take-append-drop 5 p) ∙ rw (same-equal (take 5 p) word same, (printed (drop 5 p) k number.0).in-decimal), number.1)
    go false same e = absurd (let z : ◌≡◌ {A = ℕ} 0 1 = cc e in omega arith)

-- ---- event lines

-- a line before others
pub events-line : (p s : List ℕ) → count_of newline p ≡ 0 → events_of (split newline (p ++ newline ∷ s)) ≡ with_event (number_of p) (events_of (split newline s))
events-line p s f = rw (split-append newline p s f) (go (split newline s) (split-some newline s))
  where
    go : (ps : List (List ℕ)) → 0 < length ps → events_of (p ∷ ps) ≡ with_event (number_of p) (events_of ps)
    go [] l = absurd (omega arith)
    go (q ∷ ps) l = refl

-- events, and what the rest says
abbrev pub ahead : List ℕ → EventsRead → EventsRead
ahead es l = events_read (es ++ l.events) l.all-good

pub events-event : (e : ℕ) (s : List ℕ) → e < 1000 → events_of (split newline (decimal e ++ newline ∷ s)) ≡ with_event (Some e) (events_of (split newline s))
events-event e s h =
    events-line (decimal e) s (decimal-free newline e (omega arith)) ∙ ap (λ (v : Option ℕ). with_event v (events_of (split newline s))) (read_back e h)

pub events-lines : (es rest : List ℕ) → Small es → events_of (split newline (event_lines es rest)) ≡ ahead es (events_of (split newline rest))
events-lines [] rest h = refl
events-lines (e ∷ es) rest h =
    events-event e (event_lines es rest) h.0 ∙ ap (λ (l : EventsRead). with_event (Some e) l) (events-lines es rest h.1)

-- ---- the whole text

module _ (m w : List ℕ) (lent : Lent m w) where
  -- a first line before others
  replay-first :
      (p s : List ℕ) → count_of newline p ≡ 0 → replay_of (p ++ newline ∷ s) m w ≡ with_pins (pins_of p) (events_of (split newline s)) m w
  replay-first p s f =
      replay-lent (p ++ newline ∷ s) m w lent
      ∙ ap (λ (l : List (List ℕ)). replay_lines l m w) (split-append newline p s f)
      ∙ go (split newline s) (split-some newline s)
    where
      go : (ps : List (List ℕ)) → 0 < length ps → replay_lines (p ∷ ps) m w ≡ with_pins (pins_of p) (events_of ps) m w
      go [] l = absurd (omega arith)
      go (q ∷ ps) l = refl

  pub replay-pins :
      (pins : ℕ) (s : List ℕ) → pins ≤ 3
      → replay_of (first_line pins ++ newline ∷ s) m w
      ≡ replay_by (run_of (events_of (split newline s)).events (started pins m w)) (events_of (split newline s)).all-good
  replay-pins pins s h =
      replay-first (first_line pins) s (first-free pins)
      ∙ ap (λ (v : Option ℕ). with_pins v (events_of (split newline s)) m w) (first_read pins h)

  replay-written :
      (pins : ℕ) (es rest : List ℕ) → pins ≤ 3 → Small es
      → replay_of (capture_then pins es rest) m w
      ≡ replay_by (run_of (es ++ (events_of (split newline rest)).events) (started pins m w)) (events_of (split newline rest)).all-good
  replay-written pins es rest h small =
      replay-pins pins (event_lines es rest) h
      ∙ ap (λ (l : EventsRead). replay_by (run_of l.events (started pins m w)) l.all-good) (events-lines es rest small)

  -- the events of a capture, and nothing behind them
  pub capture-played :
      (pins : ℕ) (es : List ℕ) → pins ≤ 3 → Small es → replay_of (capture_text pins es) m w ≡ replay_by (run_of es (started pins m w)) true
  capture-played pins es two small =
      replay-written pins es [] two small ∙ ap (λ (l : List ℕ). replay_by (run_of l (started pins m w)) true) (append-nil es)

-- ---- the ends

pub so-replayed : (text m w : List ℕ) (end : State) → Replayed text m w end → replay_of text m w ≡ replayed end
so-replayed text m w end r =
    rw r.written
    (capture-played m w r.lent r.pins r.events r.pins_allowed r.small ∙ ap (λ (o : Outcome). replay_by o true) r.done)

-- events that are all done, and what comes behind them
behind :
    (es : List ℕ) (l : EventsRead) (s end : State) → AllDone es s end
    → replay_by (run_of (es ++ l.events) s) l.all-good ≡ play_from (length es) l end
behind es l s end done =
    ap (λ (o : Outcome). replay_by o l.all-good) (run-then es l.events s ∙ ap (λ (o : Outcome). then_run o l.events) done)

stop-read : (rest : List ℕ) (s : State) → Fit s → Stops rest s → (n : ℕ) → play_from n (events_of (split newline rest)) s ≡ refused_at (n + 2) s
stop-read rest s fit (unended f some) n = rw (split-join newline rest [] (f, tt)) (go rest some)
  where
    go : (p : List ℕ) → (p ≡ [] → ⊥) → play_from n (events_of (p ∷ [])) s ≡ refused_at (n + 2) s
    go [] none = absurd (none refl)
    go (x ∷ p) none = none_left n false s fit
stop-read rest s fit (no_number line more f e t) n =
    rw (t, events-line line more f)
    (ap (λ (v : Option ℕ). play_from n (with_event v (events_of (split newline more))) s) e ∙ none_left n false s fit)
stop-read rest s fit (refused_event e more small r t) n = rw (t, events-event e more small) (go (refusal_of e s) refl)
  where
    go : (k : ℕ) → refusal_of e s ≡ k → play_from n (with_event (Some e) (events_of (split newline more))) s ≡ refused_at (n + 2) s
    go zero q = absurd (r q)
    go (suc k) q = rw (run-stopped e (events_of (split newline more)).events s k q, add-zero)

pub all-done-fit : (pins : ℕ) (es m w : List ℕ) (end : State) → pins ≤ 3 → Lent m w → AllDone es (started pins m w) end → Fit end
all-done-fit pins es m w end two lent done =
    subst (λ (o : Outcome). Fit o.state) done (run-stays-fit es (started pins m w) (started-fit pins m w two lent))

pub all-done-true : (pins : ℕ) (es m w : List ℕ) (end : State) → AllDone es (started pins m w) end → TrueCounts end
all-done-true pins es m w end done = subst (λ (o : Outcome). TrueCounts o.state) done (run-stays-true es (started pins m w) refl)

pub so-stopped : (n : ℕ) (text m w : List ℕ) (end : State) → StoppedAfter n text m w end → replay_of text m w ≡ refused_at (n + 2) end
so-stopped n text m w end r =
    rw (r.written, ← r.as_many)
    (replay-written m w r.lent r.pins r.events r.rest r.pins_allowed r.small
    ∙ behind r.events (events_of (split newline r.rest)) (started r.pins m w) end r.done
    ∙ stop-read r.rest end (all-done-fit r.pins r.events m w end r.pins_allowed r.lent r.done) r.stops (length r.events))
