-- Calls one after the other. Each is offered as many of the samples that are left as the caller likes, and lent a buffer of any length; the next one
-- goes on from the wires that it handed back, behind the samples that it consumed.
use Rattle.std.specs.Prelude.{List, [], ◌∷◌, ◌++◌, ℕ, ◌≤◌, length, take, drop}
use Rattle.wire_samples.specs.declared.Wires.{Wires}
use Rattle.wire_samples.specs.Feed.{after_all, events_of, Feed, feed_of, answer_of, stored}

-- what a second call comes to, behind the samples that the first consumed
abbrev pub gone_on : ℕ → Feed → List ℕ → Feed
gone_on room f ss = feed_of room f.wires (drop f.consumed ss)

-- ---- any calls

pub record Call : Type 0 where
  pub offered : ℕ
  pub buffer : List ℕ

-- how it stands between two calls: the wires, the samples that are left, and the events handed over so far
pub record Course : Type 0 where
  pub wires : Wires
  pub left : List ℕ
  pub events : List ℕ

abbrev pub course : Wires → List ℕ → List ℕ → Course
course w ss es = record { wires = w; left = ss; events = es }

-- what the call comes to
abbrev pub fed : Call → Wires → List ℕ → Feed
fed c w ss = feed_of (length c.buffer) w (take c.offered ss)

-- what the caller finds: as many of the first words of its buffer as were written
abbrev pub found : Feed → List ℕ → List ℕ
found f buffer = take (answer_of f).written (stored f.events buffer)

abbrev pub after_call : Call → Course → Course
after_call c k =
    let f : Feed = fed c k.wires k.left in
    course f.wires (drop f.consumed k.left) (k.events ++ found f c.buffer)

unfoldable pub after_calls : List Call → Course → Course
after_calls [] k = k
after_calls (c ∷ cs) k = after_calls cs (after_call c k)

-- ---- parts with room

pub record Part : Type 0 where
  pub samples : List ℕ
  pub buffer : List ℕ

abbrev pub joined : List Part → List ℕ
joined [] = []
joined (p ∷ ps) = p.samples ++ joined ps

-- a call for each part
abbrev pub call_of : Part → Call
call_of p = record { offered = length p.samples; buffer = p.buffer }

abbrev pub calls_of : List Part → List Call
calls_of [] = []
calls_of (p ∷ ps) = call_of p ∷ calls_of ps

-- each has room for the events of its part
abbrev pub Rooms : Wires → List Part → Type 0
Rooms w [] = Unit {0}
Rooms w (p ∷ ps) = (length (events_of w p.samples) ≤ length p.buffer) × Rooms (after_all w p.samples) ps
