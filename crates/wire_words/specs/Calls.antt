-- The two calls of a host in C that read wires: what each gives back, and how it leaves what was lent. Every input has its outcome.
use Rattle.std.specs.Prelude.{cond, List, [], ◌∷◌, ◌++◌, ℕ, eqb, length, take}
use Rattle.wire_samples.specs.Sample.{at_start}
use Rattle.wire_samples.specs.Feed.{Feed, after_all, events_of, feed_of, stored}
use Rattle.wire_traffic.specs.Calls.{Part}
use Rattle.wire_words.specs.Words.{state_length, stands_for, wires_of, words_of}

-- ---- pcf8820_wires_start

-- the number given back, and the words
pub record Started : Type 0 where
  pub number : ℕ
  pub words : List ℕ

abbrev pub started : ℕ → List ℕ → Started
started n ws = record { number = n; words = ws }

unfoldable pub start_call : List ℕ → Started
start_call ws = cond (eqb (length ws) state_length) (started 0 (words_of at_start)) (started 2 ws)

-- ---- pcf8820_wires

-- besides, the event buffer, how many samples were consumed and how many events written
pub record Called : Type 0 where
  pub number : ℕ
  pub words : List ℕ
  pub events : List ℕ
  pub consumed : ℕ
  pub written : ℕ

abbrev pub called : ℕ → List ℕ → List ℕ → ℕ → ℕ → Called
called n ws out c k = record { number = n; words = ws; events = out; consumed = c; written = k }

abbrev pub after_feed : Feed → List ℕ → Called
after_feed f out = called f.refusal (words_of f.wires) (stored f.events out) f.consumed (length f.events)

-- the words ws, the samples ss and the event buffer out; words that stand for no wire state are refused by 2
unfoldable pub wires_call : List ℕ → List ℕ → List ℕ → Called
wires_call ws ss out = cond (stands_for ws) (after_feed (feed_of (length out) (wires_of ws) ss) out) (called 2 ws out 0 0)

-- ---- calls one after the other

-- the words at their end, and the events that the caller found in its buffers
pub record Turned : Type 0 where
  pub words : List ℕ
  pub events : List ℕ

abbrev pub turned : List ℕ → List ℕ → Turned
turned ws es = record { words = ws; events = es }

-- each part with its buffer, and with the words that the call before it left
unfoldable pub in_turn : List ℕ → List Part → Turned
in_turn ws [] = turned ws []
in_turn ws (p ∷ ps) =
    let c : Called = wires_call ws p.samples p.buffer in
    let rest : Turned = in_turn c.words ps in
    turned rest.words (take c.written c.events ++ rest.events)

-- ---- in the words of the buffers

-- the events that the samples tell
abbrev pub events_from : List ℕ → List ℕ → List ℕ
events_from ws ss = events_of (wires_of ws) ss

-- the words after the samples
abbrev pub words_after : List ℕ → List ℕ → List ℕ
words_after ws ss = words_of (after_all (wires_of ws) ss)
