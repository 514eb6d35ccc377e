-- Samples that are taken in parts: nothing is lost between two calls, and nothing told twice.
use mathlib.Core.List.{List, [], ◌∷◌, ◌++◌, append_assoc, append-nil}
use mathlib.Core.Path.{◌≡◌, refl, sym, ap, ◌∙◌}
use Prim.Native.Nat.{ℕ, zero, suc, ◌+◌, ◌≤◌}
use native.Mathlib.Omega.{arith}
use lib.ListN.{length, take, drop, take-append-drop, length-append}
use lib.Seq.{take-take, take-append_seam, drop-append_seam, take-length, get_or-append-add}
use Rattle.wire_samples.specs.declared.Wires.{Wires}
use Rattle.wire_samples.specs.Feed.{after_all, events_of, Feed, refusal_of, unless_refused, consuming, as_much_as_fits, feed_of}
use Rattle.wire_samples.proofs.Joined.{after-joined, events-joined}
use Rattle.wire_traffic.specs.Calls.{gone_on, Call, Course, course, fed, found, after_call, after_calls, Part, joined, call_of, calls_of, Rooms}
use Rattle.wire_traffic.specs.When.{Allowed, InRanges, Samples, need, When}
use Rattle.wire_traffic.specs.When.When.{none}
use Rattle.wire_traffic.proofs.Ranges.{samples-front, all-in-ranges}
use Rattle.wire_traffic.proofs.Rooms.{fit-within, within-room, with-room, exactly-when}

course-same : {w w' : Wires} {ss ss' es es' : List ℕ} → w ≡ w' → ss ≡ ss' → es ≡ es' → course w ss es ≡ course w' ss' es'
course-same e f g = rw (e, f, g)

-- what the caller finds in its buffer are the events
pub found-events : (f : Feed) (buffer : List ℕ) → found f buffer ≡ f.events
found-events f buffer = take-append_seam f.events (drop (length f.events) buffer)

-- how a call leaves it: what was consumed stands at the front of the samples
pub record Takes (room : ℕ) (w : Wires) (ss : List ℕ) (f : Feed) : Type 0 where
  pub wires : f.wires ≡ after_all w (take f.consumed ss)
  pub events : f.events ≡ events_of w (take f.consumed ss)
  pub within : f.consumed ≤ length ss
  pub fits : length f.events ≤ room

front-bound : (m : ℕ) (ss : List ℕ) → length (take m ss) ≤ m
front-bound zero ss = omega arith
front-bound (suc m) [] = omega arith
front-bound (suc m) (s ∷ ss) = omega (arith, front-bound m ss)

shorter : (m : ℕ) (ss : List ℕ) → length (take m ss) ≤ length ss
shorter zero ss = omega arith
shorter (suc m) [] = omega arith
shorter (suc m) (s ∷ ss) = omega (arith, shorter m ss)

pub feed-takes : (room : ℕ) (w : Wires) (ss : List ℕ) → Takes room w ss (feed_of room w ss)
unfolding feed_of after_all events_of
feed-takes room w ss = go (refusal_of w ss)
  where
    go : (k : ℕ) → Takes room w ss (unless_refused k w (as_much_as_fits room w ss))
    go zero = record { wires = refl; events = refl; within = fit-within room w ss; fits = within-room room w ss }
    go (suc k) = record { wires = refl; events = refl; within = omega arith; fits = omega arith }

fed-takes : (c : Call) (w : Wires) (ss : List ℕ) → Takes (length c.buffer) w ss (fed c w ss)
fed-takes c w ss =
    let takes = feed-takes (length c.buffer) w (take c.offered ss) in
    let n : ℕ = (fed c w ss).consumed in
    let same : take n (take c.offered ss) ≡ take n ss =
    take-take n c.offered ss (omega (arith, takes.within, front-bound c.offered ss)) in
    record {
      wires = takes.wires ∙ ap (after_all w) same;
      events = takes.events ∙ ap (events_of w) same;
      within = omega (arith, takes.within, shorter c.offered ss);
      fits = takes.fits;
    }

-- a call that is answered by 0 told all
whole-told : (room : ℕ) (w : Wires) (ss : List ℕ) → (feed_of room w ss).refusal ≡ 0 → feed_of room w ss ≡ consuming (length ss) w ss
whole-told room w ss e = go ((exactly-when room w ss 0).0 e)
  where
    go : When room w ss 0 → feed_of room w ss ≡ consuming (length ss) w ss
    go (none a b h) = with-room room w ss a b h

-- two calls, the first of them short of room
pub resumed :
    (room more all : ℕ) (w : Wires) (ss : List ℕ) → (gone_on more (feed_of room w ss) ss).refusal ≡ 0 → (feed_of all w ss).refusal ≡ 0
    → ((feed_of room w ss).events ++ (gone_on more (feed_of room w ss) ss).events ≡ (feed_of all w ss).events)
    × ((gone_on more (feed_of room w ss) ss).wires ≡ (feed_of all w ss).wires)
resumed room more all w ss s h =
    let f : Feed = feed_of room w ss in
    let front : List ℕ = take f.consumed ss in
    let back : List ℕ = drop f.consumed ss in
    let takes = feed-takes room w ss in
    let second = whole-told more f.wires back s in
    let one = whole-told all w ss h in
    let joins : front ++ back ≡ ss = take-append-drop f.consumed ss in (
      rw (second, one, take-length back, take-length ss, takes.events, takes.wires)
          (sym (events-joined w front back) ∙ ap (events_of w) joins),
      rw (second, one, take-length back, take-length ss, takes.wires) (sym (after-joined w front back) ∙ ap (after_all w) joins),
    )

-- ---- any calls

-- what was told and is still to be told, and where it ends
pub record Same (k k' : Course) : Type 0 where
  pub told : k'.events ++ events_of k'.wires k'.left ≡ k.events ++ events_of k.wires k.left
  pub end : after_all k'.wires k'.left ≡ after_all k.wires k.left

one-call : (c : Call) (w : Wires) (ss es : List ℕ) → Same (course w ss es) (after_call c (course w ss es))
one-call c w ss es =
    let f : Feed = fed c w ss in
    let front : List ℕ = take f.consumed ss in
    let back : List ℕ = drop f.consumed ss in
    let takes = fed-takes c w ss in
    let whole : front ++ back ≡ ss = take-append-drop f.consumed ss in
    record {
      told =
          rw (found-events f c.buffer, takes.events, takes.wires)
          (append_assoc es (events_of w front) (events_of (after_all w front) back)
          ∙ ap (λ (l : List ℕ). es ++ l) (sym (events-joined w front back) ∙ ap (events_of w) whole));
      end = rw takes.wires (sym (after-joined w front back) ∙ ap (after_all w) whole);
    }

pub any-calls : (cs : List Call) (k : Course) → Same k (after_calls cs k)
unfolding after_calls
any-calls [] k = record { told = refl; end = refl }
any-calls (c ∷ cs) k =
    let one = one-call c k.wires k.left k.events in
    let rest = any-calls cs (after_call c k) in
    record { told = rest.told ∙ one.told; end = rest.end ∙ one.end }

-- where no sample is left all is told, whatever the calls were: several answered by 15 among them
pub all_told :
    (cs : List Call) (w : Wires) (ss : List ℕ) → (after_calls cs (course w ss [])).left ≡ []
    → after_calls cs (course w ss []) ≡ course (after_all w ss) [] (events_of w ss)
unfolding after_all events_of
all_told cs w ss e =
    let k : Course = after_calls cs (course w ss []) in
    let same = any-calls cs (course w ss []) in
    let wires : k.wires ≡ after_all w ss = ap (after_all k.wires) (sym e) ∙ same.end in
    let events : k.events ≡ events_of w ss =
    sym (append-nil k.events) ∙ ap (λ (l : List ℕ). k.events ++ events_of k.wires l) (sym e) ∙ same.told in
    course-same wires e events

-- ---- parts with room

pub samples-parts : (xs ys : List ℕ) → Samples (xs ++ ys) → Samples xs × Samples ys
samples-parts xs ys h = (
  rw (← take-append_seam xs ys) (samples-front (length xs) (xs ++ ys) h),
  λ i inside. rw (← get_or-append-add xs ys i 0) (h (length xs + i) (omega (arith, inside, length-append xs ys))),
)

one-part :
    (p : Part) (w : Wires) (rest es : List ℕ) → Allowed w → Samples p.samples → need w p.samples ≤ length p.buffer
    → after_call (call_of p) (course w (p.samples ++ rest) es) ≡ course (after_all w p.samples) rest (es ++ events_of w p.samples)
one-part p w rest es a b room =
    let ss : List ℕ = p.samples in
    let same : fed (call_of p) w (ss ++ rest) ≡ consuming (length ss) w ss =
    ap (feed_of (length p.buffer) w) (take-append_seam ss rest) ∙ with-room (length p.buffer) w ss a b room in
    let all : take (length ss) ss ≡ ss = take-length ss in
    ap (λ (f : Feed). course f.wires (drop f.consumed (ss ++ rest)) (es ++ found f p.buffer)) same
    ∙ course-same
    (ap (after_all w) all)
    (drop-append_seam ss rest)
    (ap (λ (l : List ℕ). es ++ l) (found-events (consuming (length ss) w ss) p.buffer ∙ ap (events_of w) all))

pub in_parts :
    (ps : List Part) (w : Wires) (es : List ℕ) → InRanges w → Samples (joined ps) → Rooms w ps
    → after_calls (calls_of ps) (course w (joined ps) es) ≡ course (after_all w (joined ps)) [] (es ++ events_of w (joined ps))
unfolding after_calls after_all events_of
in_parts [] w es r h room = ap (course w []) (sym (append-nil es))
in_parts (p ∷ ps) w es r h room =
    let parts = samples-parts p.samples (joined ps) h in
    let allowed : Allowed w = record { last = r.last; bits = r.bits } in
    let after : Wires = after_all w p.samples in
    let events : List ℕ = es ++ events_of w p.samples in
    ap (after_calls (calls_of ps)) (one-part p w (joined ps) es allowed parts.0 room.0)
    ∙ in_parts ps after events (all-in-ranges w r p.samples parts.0) parts.1 room.1
    ∙ course-same
    (sym (after-joined w p.samples (joined ps)))
    refl
    (append_assoc es (events_of w p.samples) (events_of after (joined ps))
    ∙ ap (λ (l : List ℕ). es ++ l) (sym (events-joined w p.samples (joined ps))))
