-- Samples in order: the events that they tell, the wires after them, and what a call comes to that has room for so many events (document 02, W7).
use Rattle.std.specs.Prelude.{Bool, true, cond, ◌&&◌, Option, None, Some, List, [], ◌∷◌, ◌++◌, ℕ, zero, suc, ◌-◌, eqb, leb, ltb, length, take, drop}
use Rattle.wire_samples.specs.declared.Wires.{Wires}
use Rattle.wire_samples.specs.declared.Fed.{Fed}
use Rattle.refusals.specs.Numbers.{number_of}
use Rattle.wire_samples.specs.Sample.{sample_of, told_by}

-- ---- all of them

abbrev pub after_sample : Wires → ℕ → Wires
after_sample w s = (sample_of w s).wires

abbrev pub events_at : Wires → ℕ → List ℕ
events_at w s = told_by (sample_of w s).told

-- the wires after the samples
unfoldable pub after_all : Wires → List ℕ → Wires
after_all w [] = w
after_all w (s ∷ ss) = after_all (after_sample w s) ss

-- the events that the samples tell
unfoldable pub events_of : Wires → List ℕ → List ℕ
events_of w [] = []
events_of w (s ∷ ss) = events_at w s ++ events_of (after_sample w s) ss

-- ---- as many as there is room for

-- what one sample tells has room
abbrev pub fits : Option ℕ → ℕ → Bool
fits None room = true
fits (Some e) room = ltb 0 room

-- how many samples come before the first event that has no room; all, where every event has
unfoldable pub fitting : ℕ → Wires → List ℕ → ℕ
fitting room w [] = 0
fitting room w (s ∷ ss) =
    cond (fits (sample_of w s).told room) (suc (fitting (room - length (events_at w s)) (after_sample w s) ss)) 0

-- ---- the call

pub record Feed : Type 0 where
  pub wires : Wires
  pub consumed : ℕ
  pub events : List ℕ
  pub refusal : ℕ

-- the ranges of docs/ARCHITECTURE.md: a sample is 0 to 3, and 0 to 8 bits are taken; a value is a byte, and any count may stand
unfoldable pub is_allowed : Wires → Bool
is_allowed w = leb w.last 3 && leb w.bits 8

unfoldable pub are_samples : List ℕ → Bool
are_samples [] = true
are_samples (s ∷ ss) = leb s 3 && are_samples ss

-- 2, then 14, which looks at all samples before one is consumed
unfoldable pub refusal_of : Wires → List ℕ → ℕ
refusal_of w ss = cond (is_allowed w) (cond (are_samples ss) 0 14) 2

-- k samples were consumed, which are all or those before the first event that has no room
abbrev pub consuming : ℕ → Wires → List ℕ → Feed
consuming k w ss =
    record { wires = after_all w (take k ss); consumed = k; events = events_of w (take k ss); refusal = cond (eqb k (length ss)) 0 15 }

abbrev pub as_much_as_fits : ℕ → Wires → List ℕ → Feed
as_much_as_fits room w ss = consuming (fitting room w ss) w ss

abbrev pub unless_refused : ℕ → Wires → Feed → Feed
unless_refused zero w f = f
unless_refused (suc k) w f = record { wires = w; consumed = 0; events = []; refusal = suc k }

unfoldable pub feed_of : ℕ → Wires → List ℕ → Feed
feed_of room w ss = unless_refused (refusal_of w ss) w (as_much_as_fits room w ss)

-- what the call hands back beside the events, with the number of the refusal
pub record Answer : Type 0 where
  pub wires : Wires
  pub consumed : ℕ
  pub written : ℕ
  pub refusal : ℕ

abbrev pub answered : Fed → Answer
answered f = record { wires = f.wires; consumed = f.consumed; written = f.written; refusal = number_of f.refusal }

abbrev pub answer_of : Feed → Answer
answer_of f = record { wires = f.wires; consumed = f.consumed; written = length f.events; refusal = f.refusal }

-- and what it leaves of the buffer: the events at its start, the rest as it was
abbrev pub stored : List ℕ → List ℕ → List ℕ
stored es out = es ++ drop (length es) out
