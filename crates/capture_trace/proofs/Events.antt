-- Which events a capture does: those of its lines, up to the first that is refused, each once and in order.
use mathlib.Core.List.{List, [], ◌∷◌, ◌++◌, append-nil}
use mathlib.Core.Path.{◌≡◌, refl, sym, ap, ◌∙◌}
use Prim.Native.Nat.{ℕ, zero, suc, ◌+◌, ◌<◌, ◌≤◌}
use native.Mathlib.Nat.{suc-ne-zero, add-zero, le_of_suc-le-suc}
use native.Mathlib.Omega.{arith}
use lib.ListN.{length, get_or}
use Rattle.registers.specs.Refusals.{lengths_refusal}
use Rattle.registers.specs.State.{State}
use Rattle.std.specs.Prelude.{Option, Some, None}
use Rattle.text.specs.Text.{split, join}
use Rattle.text.proofs.Splitting.{split-some}
use Rattle.text.proofs.Joining.{split-append, split-join, join-split}
use Rattle.chip.specs.LastWriter.{before}
use Rattle.chip.specs.Promised.{Outcome, outcome, refusal_of, step_of, run_of}
use Rattle.chip.specs.RunOn.{more_done}
use Rattle.chip.proofs.Laws.{count_law, run-steps}
use Rattle.chip.proofs.RunOn.{run-next, run-stopped}
use Rattle.capture_lines.specs.Line.{newline, pins_of}
use Rattle.capture.specs.Reading.{EventsRead, events_of, with_event, first_line, event_lines, capture_then}
use Rattle.capture.specs.Replay.{started}
use Rattle.capture.specs.Where.{Lent, Small, AllDone, NoFirstLine, Stops, unended, no_number, refused_event, Replayed, StoppedAfter}
use Rattle.capture.proofs.Refusals.{lent-passes, not-lent}
use Rattle.capture.proofs.Written.{first-free, first_read, first-written, events-line, events-event, events-lines}
use Rattle.capture_trace.specs.Done.{DoneEvent, done_event, done_unless, done_events, done_with_pins, done_lines, done_of}
use Rattle.capture_trace.specs.Told.{Follows}

-- ---- events that are all done

done_next : (e : ℕ) (es : List ℕ) (s : State) → refusal_of e s ≡ 0 → done_events (e ∷ es) s ≡ done_event e s ∷ done_events es (step_of e s).state
unfolding done_events
done_next e es s h = rw h

done-stopped : (e : ℕ) (es : List ℕ) (s : State) → (refusal_of e s ≡ 0 → ⊥) → done_events (e ∷ es) s ≡ []
unfolding done_events
done-stopped e es s n = go (refusal_of e s) n
  where
    go : (k : ℕ) → (k ≡ 0 → ⊥) → done_unless k (done_event e s ∷ done_events es (step_of e s).state) ≡ []
    go zero n = absurd (n refl)
    go (suc k) n = refl

-- the first of them, and the others
pub first_done : (e : ℕ) (es : List ℕ) (s end : State) → AllDone (e ∷ es) s end → (refusal_of e s ≡ 0) × AllDone es (step_of e s).state end
first_done e es s end done = go (refusal_of e s) refl
  where
    rest : Outcome
    rest = run_of es (step_of e s).state

    others : more_done 1 rest ≡ outcome (length (e ∷ es)) 0 end → rest ≡ outcome (length es) 0 end
    others q =
        let many : 1 + rest.done ≡ length (e ∷ es) = ap (λ (o : Outcome). o.done) q in
        let same : rest.done ≡ length es = omega (arith, many) in
        ap (λ (n : ℕ). outcome n rest.refusal rest.state) same
        ∙ ap (λ (o : Outcome). outcome (length es) o.refusal o.state) q

    go : (k : ℕ) → refusal_of e s ≡ k → (refusal_of e s ≡ 0) × AllDone es (step_of e s).state end
    go zero h = (h, others (sym (run-next e es s h) ∙ done))
    go (suc k) h = absurd (suc-ne-zero k (ap (λ (o : Outcome). o.refusal) (sym (run-stopped e es s k h) ∙ done)))

pub follows : (es : List ℕ) (s end : State) → AllDone es s end → Follows es s (done_events es s)
unfolding done_events
follows [] s end done = record { as_many = refl; each = λ i h d. absurd (omega arith); numbered = λ i h. absurd (omega arith) }
follows (e ∷ es) s end done =
    let parted = first_done e es s end done in
    subst-follows (sym (done_next e es s parted.0)) (next parted.0 (follows es (step_of e s).state end parted.1))
  where
    next : refusal_of e s ≡ 0 → Follows es (step_of e s).state (done_events es (step_of e s).state)
        → Follows (e ∷ es) s (done_event e s ∷ done_events es (step_of e s).state)
    next h rest = record { as_many = ap suc rest.as_many; each = told; numbered = counted }
      where
        told : (i : ℕ) → i < length (e ∷ es) → (d : DoneEvent)
            → get_or (done_event e s ∷ done_events es (step_of e s).state) i d ≡ done_event (get_or (e ∷ es) i 0) (before (e ∷ es) i s)
        told zero l d = refl
        told (suc i) l d = rest.each i (le_of_suc-le-suc l) d

        counted : (i : ℕ) → i < length (e ∷ es) → (before (e ∷ es) i s).count ≡ s.count + i
        counted zero l = sym (add-zero s.count)
        counted (suc i) l = omega (arith, rest.numbered i (le_of_suc-le-suc l), count_law e s h)

    subst-follows : {ds fs : List DoneEvent} → ds ≡ fs → Follows (e ∷ es) s ds → Follows (e ∷ es) s fs
    subst-follows q f = rw (← q) f

-- events that are all done, and others behind them
done-append : (es more : List ℕ) (s end : State) → AllDone es s end → done_events (es ++ more) s ≡ done_events es s ++ done_events more end
unfolding done_events
done-append [] more s end done = ap (done_events more) (sym (run-steps [] s).ends ∙ ap (λ (o : Outcome). o.state) done)
done-append (e ∷ es) more s end done =
    let parted = first_done e es s end done in
    done_next e (es ++ more) s parted.0
    ∙ ap (λ (ds : List DoneEvent). done_event e s ∷ ds) (done-append es more (step_of e s).state end parted.1)
    ∙ ap (λ (ds : List DoneEvent). ds ++ done_events more end) (sym (done_next e es s parted.0))

-- ---- a text that is written as a capture

module _ (m w : List ℕ) (lent : Lent m w) where
  done-pins :
      (pins : ℕ) (s : List ℕ) → pins ≤ 3
      → done_of (first_line pins ++ newline ∷ s) m w ≡ done_events (events_of (split newline s)).events (started pins m w)
  unfolding done_of
  done-pins pins s h =
      rw (lent-passes m w lent, split-append newline (first_line pins) s (first-free pins)) (go (split newline s) (split-some newline s))
    where
      go : (ps : List (List ℕ)) → 0 < length ps → done_lines (first_line pins ∷ ps) m w ≡ done_events (events_of ps).events (started pins m w)
      go [] l = absurd (omega arith)
      go (q ∷ ps) l = ap (λ (v : Option ℕ). done_with_pins v (events_of (q ∷ ps)) m w) (first_read pins h)

  done-written :
      (pins : ℕ) (es rest : List ℕ) → pins ≤ 3 → Small es
      → done_of (capture_then pins es rest) m w ≡ done_events (es ++ (events_of (split newline rest)).events) (started pins m w)
  done-written pins es rest h small =
      done-pins pins (event_lines es rest) h ∙ ap (λ (l : EventsRead). done_events l.events (started pins m w)) (events-lines es rest small)

-- the line at which a capture stops does no event
stop-none : (rest : List ℕ) (s : State) → Stops rest s → done_events (events_of (split newline rest)).events s ≡ []
unfolding done_events
stop-none rest s (unended f some) = rw (split-join newline rest [] (f, tt)) (go rest)
  where
    go : (p : List ℕ) → done_events (events_of (p ∷ [])).events s ≡ []
    go [] = refl
    go (x ∷ p) = refl
stop-none rest s (no_number line more f e t) =
    rw (t, events-line line more f) (ap (λ (v : Option ℕ). done_events (with_event v (events_of (split newline more))).events s) e)
stop-none rest s (refused_event e more small r t) =
    rw (t, events-event e more small) (done-stopped e (events_of (split newline more)).events s r)

pub replayed-done : (text m w : List ℕ) (end : State) (r : Replayed text m w end) → done_of text m w ≡ done_events r.events (started r.pins m w)
replayed-done text m w end r =
    ap (λ (t : List ℕ). done_of t m w) r.written
    ∙ done-written m w r.lent r.pins r.events [] r.pins_allowed r.small
    ∙ ap (λ (es : List ℕ). done_events es (started r.pins m w)) (append-nil r.events)

pub stopped-done :
    (n : ℕ) (text m w : List ℕ) (end : State) (r : StoppedAfter n text m w end) → done_of text m w ≡ done_events r.events (started r.pins m w)
stopped-done n text m w end r =
    ap (λ (t : List ℕ). done_of t m w) r.written
    ∙ done-written m w r.lent r.pins r.events r.rest r.pins_allowed r.small
    ∙ done-append r.events (events_of (split newline r.rest)).events (started r.pins m w) end r.done
    ∙ ap (λ (ds : List DoneEvent). done_events r.events (started r.pins m w) ++ ds) (stop-none r.rest end r.stops)
    ∙ append-nil (done_events r.events (started r.pins m w))

-- ---- a text that does none

pub not-lent-done : (text m w : List ℕ) → (Lent m w → ⊥) → done_of text m w ≡ []
unfolding done_of
not-lent-done text m w n = rw (not-lent m w n)

-- no first line: the pins can't be read, or no newline follows them
pub unread-done : (text m w : List ℕ) → NoFirstLine text → done_of text m w ≡ []
unfolding done_of
unread-done text m w n = unless (lengths_refusal (length m) (length w)) (go (split newline text) refl)
  where
    lines : List DoneEvent
    lines = done_lines (split newline text) m w

    unless : (k : ℕ) → lines ≡ [] → done_unless k lines ≡ []
    unless zero e = e
    unless (suc k) e = refl

    by_pins : (p q : List ℕ) (ps : List (List ℕ)) → split newline text ≡ p ∷ q ∷ ps → (v : Option ℕ) → pins_of p ≡ v → lines ≡ []
    by_pins p q ps e None v = rw (e, v)
    by_pins p q ps e (Some pins) v =
        let is = first-written p pins v in
        absurd (n pins (join newline (q ∷ ps)) is.1 (sym (join-split newline text) ∙ rw (e, is.0)))

    go : (ps : List (List ℕ)) → split newline text ≡ ps → lines ≡ []
    go [] e = rw e
    go (p ∷ []) e = rw e
    go (p ∷ q ∷ ps) e = by_pins p q ps e (pins_of p) refl
