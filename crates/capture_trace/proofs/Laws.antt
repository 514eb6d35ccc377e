-- What is promised of a capture that is followed, in one place: read this file first, then specs/Done.antt and specs/Told.antt. The work stands in the
-- files beside it.
use mathlib.Core.Bool.{true}
use mathlib.Core.List.{List, []}
use mathlib.Core.Logic.{⊎_elim}
use mathlib.Core.Path.{◌≡◌, refl, sym, ap, ◌∙◌, subst}
use Prim.Native.Nat.{ℕ, ◌<◌}
use Rattle.registers.specs.State.{State}
use Rattle.print.specs.Chosen.{lines_of}
use Rattle.chip.specs.Phases.{awaits_data}
use Rattle.chip.specs.Promised.{is_acknowledged, refusal_of}
use Rattle.capture.specs.Feeding.{kept, start_of, all_parts}
use Rattle.capture.specs.Replay.{started}
use Rattle.capture.specs.Where.{Lent, NoFirstLine, Replayed, StoppedAfter}
use Rattle.capture.proofs.Courses.{Ended, all-replayed, refused-first, refused-after, ended}
use Rattle.capture.proofs.Refusals.{by-lent}
use Rattle.capture_trace.specs.Done.{DoneEvent, done_of}
use Rattle.capture_trace.specs.Follow.{line_for, tally, none_tallied, tallied_over}
use Rattle.capture_trace.specs.Told.{lines_in_parts, tallied_in_parts, is_not_acknowledged, how_many, DisplayTold, Follows}
use Rattle.capture_trace.proofs.Displays.{told}
use Rattle.capture_trace.proofs.Events.{follows, replayed-done, stopped-done, unread-done, not-lent-done}
use Rattle.capture_trace.proofs.Parts.{lines-joined, tallies-joined, whole-done}
use Rattle.capture_trace.proofs.Tallies.{tally-counts}
-- how long the lines of a part are at most, for a status byte and a count that a machine holds; the start has such ones, and every part leaves them
pub use Rattle.capture_trace.proofs.Bounds.{Sized, part-bound, start-sized, fed-sized}
-- a text may be cut anywhere
pub use Rattle.capture_trace.proofs.Parts.{cut-anywhere}

-- ---- which events are done

-- of a capture that is replayed: its events, each once and in order
pub replayed-follows :
    (text m w : List ℕ) (end : State) (r : Replayed text m w end) → Follows r.events (started r.pins m w) (done_of text m w)
replayed-follows text m w end r =
    subst (Follows r.events (started r.pins m w)) (sym (replayed-done text m w end r))
    (follows r.events (started r.pins m w) end r.done)

-- of one that is refused at a line: those of the lines before it
pub stopped-follows :
    (n : ℕ) (text m w : List ℕ) (end : State) (r : StoppedAfter n text m w end) → Follows r.events (started r.pins m w) (done_of text m w)
stopped-follows n text m w end r =
    subst (Follows r.events (started r.pins m w)) (sym (stopped-done n text m w end r))
    (follows r.events (started r.pins m w) end r.done)

-- of one that is refused at its first line, or lent a memory of another length: none
pub none-follow : (text m w : List ℕ) → NoFirstLine text → done_of text m w ≡ []
none-follow text m w n = unread-done text m w n

pub none_lent : (text m w : List ℕ) → (Lent m w → ⊥) → done_of text m w ≡ []
none_lent text m w n = not-lent-done text m w n

-- ---- what is told of them

-- the line of a display byte names the cell that it is stored in, and the byte that stands there then
pub display-told : (b : ℕ) (s : State) → b < 256 → awaits_data s.chip.phase ≡ true → refusal_of b s ≡ 0 → DisplayTold b s
display-told b s byte t h = told b s byte t h

-- the lines of a capture that comes in any parts, one after the other, are those of its events
pub lines-in-parts : (ps : List (List ℕ)) (m w : List ℕ) → lines_in_parts (kept start_of m w) ps ≡ lines_of line_for (done_of (all_parts ps) m w)
lines-in-parts ps m w = lines-joined (kept start_of m w) ps ∙ ap (lines_of line_for) (whole-done (all_parts ps) m w)

-- the tally counts the bytes that were acknowledged, and those that were not
pub tally-exact :
    (text m w : List ℕ)
    → tallied_over (done_of text m w) none_tallied ≡ tally (how_many is_acknowledged (done_of text m w)) (how_many is_not_acknowledged (done_of text m w))
tally-exact text m w = ⊎_elim (λ lent. over (ended m w lent text)) (λ n. none (none_lent text m w n)) (by-lent m w)
  where
    Exact : List DoneEvent → Type 0
    Exact ds = tallied_over ds none_tallied ≡ tally (how_many is_acknowledged ds) (how_many is_not_acknowledged ds)

    none : done_of text m w ≡ [] → Exact (done_of text m w)
    none e = subst Exact (sym e) refl

    over : Ended text m w → Exact (done_of text m w)
    over (all-replayed end r q) = subst Exact (sym (replayed-done text m w end r)) (tally-counts r.events (started r.pins m w) refl)
    over (refused-first n q) = none (none-follow text m w n)
    over (refused-after n end r q) = subst Exact (sym (stopped-done n text m w end r)) (tally-counts r.events (started r.pins m w) refl)

-- whatever parts the capture comes in
pub tally-in-parts :
    (ps : List (List ℕ)) (m w : List ℕ)
    → tallied_in_parts (kept start_of m w) ps none_tallied
    ≡ tally (how_many is_acknowledged (done_of (all_parts ps) m w)) (how_many is_not_acknowledged (done_of (all_parts ps) m w))
tally-in-parts ps m w =
    tallies-joined (kept start_of m w) ps none_tallied
    ∙ ap (λ (ds : List DoneEvent). tallied_over ds none_tallied) (whole-done (all_parts ps) m w)
    ∙ tally-exact (all_parts ps) m w
