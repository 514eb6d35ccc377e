-- When a call is refused, in the words of the request and not as tests.
use Rattle.std.specs.Prelude.{List, ℕ, ◌≤◌, ◌<◌, length, get_or}
use Rattle.wire_samples.specs.declared.Wires.{Wires}
use Rattle.wire_samples.specs.Feed.{events_of}

-- in the ranges
pub record Allowed (w : Wires) : Type 0 where
  pub last : w.last ≤ 3
  pub bits : w.bits ≤ 8

-- and the value, which no test looks at, since its type holds it
pub record InRanges (w : Wires) : Type 0 where
  pub last : w.last ≤ 3
  pub bits : w.bits ≤ 8
  pub value : w.value ≤ 255

-- every one is 0 to 3
abbrev pub Samples : List ℕ → Type 0
Samples ss = (i : ℕ) → i < length ss → get_or ss i 0 ≤ 3

-- some one is above 3
pub record Above (ss : List ℕ) : Type 0 where
  pub place : ℕ
  pub inside : place < length ss
  pub above : 3 < get_or ss place 0

-- how many events the samples tell
abbrev pub need : Wires → List ℕ → ℕ
need w ss = length (events_of w ss)

pub data When (room : ℕ) (w : Wires) (ss : List ℕ) : ℕ → Type 0 where
  state : (Allowed w → ⊥) → When room w ss 2
  sample : Allowed w → Above ss → When room w ss 14
  short : Allowed w → Samples ss → room < need w ss → When room w ss 15
  none : Allowed w → Samples ss → need w ss ≤ room → When room w ss 0
