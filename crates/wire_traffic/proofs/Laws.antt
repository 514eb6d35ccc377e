-- What is promised of samples, in one place: read this file first. The work stands in the files beside it.
use mathlib.Core.Bool.{true, false}
use mathlib.Core.List.{List, [], ◌∷◌, ◌++◌, map}
use mathlib.Core.Logic.{◌↔◌}
use mathlib.Core.Path.{◌≡◌, refl}
use Prim.Native.Nat.{ℕ, suc, ◌+◌, ◌≤◌, ◌<◌}
use lib.ListN.{length}
use Rattle.wire_samples.specs.declared.Stage.TheVariants.{Outside, Waiting, First}
use Rattle.wire_samples.specs.declared.Wires.{Wires}
use Rattle.wire_samples.specs.declared.signal.Signal.TheVariants.{Quiet, Start, Stop, Bit, Unclear}
use Rattle.std.specs.Prelude.{None, Some}
use Rattle.wire_samples.specs.Signal.{both_change, signal_of}
use Rattle.wire_samples.specs.Sample.{at_start, anew, is_waiting, on_stop, on_signal, sample_of}
use Rattle.wire_samples.specs.Feed.{after_sample, events_at, after_all, events_of, consuming, refusal_of, feed_of}
use Rattle.wire_traffic.specs.Calls.{gone_on, Call, Course, course, after_calls, Part, joined, calls_of, Rooms}
use Rattle.wire_traffic.specs.Traffic.{can_be_told}
use Rattle.wire_traffic.specs.Unclear.{how_many_unclear, most, at_most}
use Rattle.wire_traffic.specs.When.{Allowed, InRanges, Samples, need, When}
use Rattle.wire_traffic.proofs.Cuts as Cuts
use Rattle.wire_traffic.proofs.Ranges as Ranges
use Rattle.wire_traffic.proofs.Rooms as Rooms
use Rattle.wire_traffic.proofs.Unclear as Unclear

-- ---- refusals

module _ (room : ℕ) (w : Wires) (ss : List ℕ) where
  -- each number comes exactly when the request says, 2, 14 and 15 in this order, and no other
  pub exactly-when : (k : ℕ) → ((feed_of room w ss).refusal ≡ k) ↔ When room w ss k
  exactly-when = Rooms.exactly-when room w ss

  -- 2 and 14 change nothing, and nothing is consumed
  pub nothing-taken :
      (k : ℕ) → refusal_of w ss ≡ suc k → feed_of room w ss ≡ record { wires = w; consumed = 0; events = []; refusal = suc k }
  nothing-taken = Rooms.nothing-taken room w ss

  -- 15: the buffer is full, and the first sample that was not consumed is the one whose event has no room
  pub full : (feed_of room w ss).refusal ≡ 15 → Rooms.Full room w ss (feed_of room w ss).consumed
  full = Rooms.full room w ss

  -- whatever the number: the wires and the events are those of the samples that were consumed, which are no more than came, and the events have room
  pub takes : Cuts.Takes room w ss (feed_of room w ss)
  takes = Cuts.feed-takes room w ss

  -- a call that has room for one event at least does not stand still
  pub some-consumed : (feed_of room w ss).refusal ≡ 15 → 0 < room → 0 < (feed_of room w ss).consumed
  some-consumed = Rooms.some-consumed room w ss

  -- with room all samples are consumed, and all their events told
  pub with-room : Allowed w → Samples ss → need w ss ≤ room → feed_of room w ss ≡ consuming (length ss) w ss
  with-room = Rooms.with-room room w ss

-- a sample tells one event at most, so that a buffer as long as the samples is never too short
pub one_each : (w : Wires) (ss : List ℕ) → need w ss ≤ length ss
one_each = Rooms.one_each

-- ---- what two samples say

-- a row for each sample before, a column for each sample: clock and data line both low, data high, clock high, both high
pub sixteen-signals :
    map (λ (before : ℕ). map (signal_of before) (0 ∷ 1 ∷ 2 ∷ 3 ∷ [])) (0 ∷ 1 ∷ 2 ∷ 3 ∷ [])
    ≡ (Quiet ∷ Quiet ∷ Bit false ∷ Unclear ∷ [])
    ∷ (Quiet ∷ Quiet ∷ Unclear ∷ Bit true ∷ [])
    ∷ (Quiet ∷ Unclear ∷ Quiet ∷ Stop ∷ [])
    ∷ (Unclear ∷ Quiet ∷ Start ∷ Quiet ∷ [])
    ∷ []
unfolding signal_of
sixteen-signals = refl

-- ---- START, STOP, and samples that are unclear

module _ (w : Wires) (s : ℕ) where
  -- at every state START is told, and opens a first byte with no bit taken
  pub start-law : signal_of w.last s ≡ Start → sample_of w s ≡ anew w s First (Some 256)
  unfolding sample_of on_signal
  start-law e = rw e refl

  -- STOP is told, and ends the message; while START is waited for it tells nothing, and does not end the waiting. No bit stays taken
  pub stop-law : signal_of w.last s ≡ Stop → is_waiting w.stage ≡ false → sample_of w s ≡ anew w s Outside (Some 257)
  unfolding sample_of on_signal on_stop
  stop-law e h = rw (e, h) refl

  pub stop-while-waiting : signal_of w.last s ≡ Stop → is_waiting w.stage ≡ true → sample_of w s ≡ anew w s Waiting None
  unfolding sample_of on_signal on_stop
  stop-while-waiting e h = rw (e, h) refl

  -- an unclear sample tells nothing, and whatever samples come behind it, the first event that they tell is a START
  pub waits-for-start :
      both_change w.last s ≡ true
      → (events_at w s ≡ []) × ((ss : List ℕ) → can_be_told Waiting (events_of (after_sample w s) ss) ≡ true)
  waits-for-start = Unclear.waits-for-start w s

-- ---- ranges, and the count of unclear samples

pub start-in-ranges : InRanges at_start
start-in-ranges = Ranges.start-in-ranges

-- of every state that a call hands back, refused or not
pub call-in-ranges : (room : ℕ) (w : Wires) → InRanges w → (ss : List ℕ) → InRanges (feed_of room w ss).wires
call-in-ranges = Ranges.call-in-ranges

-- unclear samples are those where both lines changed; they are counted, and no others, no further than 2^64 - 1
pub unclear-counted :
    (w : Wires) (ss : List ℕ) → w.unclear ≤ most → (after_all w ss).unclear ≡ at_most (w.unclear + how_many_unclear w.last ss)
unclear-counted = Unclear.unclear-counted

-- ---- parts

-- cut anywhere, into any number of parts with room for their events: each call consumes its part, and the events and the wires are those of the whole
pub in_parts :
    (ps : List Part) (w : Wires) → InRanges w → Samples (joined ps) → Rooms w ps
    → after_calls (calls_of ps) (course w (joined ps) []) ≡ course (after_all w (joined ps)) [] (events_of w (joined ps))
in_parts ps w = Cuts.in_parts ps w []

-- any calls, with buffers of any length, answered by 15 or not: what was told and what is left to tell are the events of the whole
pub any-calls : (cs : List Call) (k : Course) → Cuts.Same k (after_calls cs k)
any-calls = Cuts.any-calls

-- so that all is told where no sample is left
pub all_told :
    (cs : List Call) (w : Wires) (ss : List ℕ) → (after_calls cs (course w ss [])).left ≡ []
    → after_calls cs (course w ss []) ≡ course (after_all w ss) [] (events_of w ss)
all_told = Cuts.all_told

-- going on with a fresh buffer where the first was short: as if there had been room
pub resumed :
    (room more all : ℕ) (w : Wires) (ss : List ℕ) → (gone_on more (feed_of room w ss) ss).refusal ≡ 0 → (feed_of all w ss).refusal ≡ 0
    → ((feed_of room w ss).events ++ (gone_on more (feed_of room w ss) ss).events ≡ (feed_of all w ss).events)
    × ((gone_on more (feed_of room w ss) ss).wires ≡ (feed_of all w ss).wires)
resumed = Cuts.resumed
