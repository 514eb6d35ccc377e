-- Exactly when a call that feeds samples gives which number (document 02, W7), in the words of the buffers.
use Rattle.std.specs.Prelude.{List, [], ◌∷◌, ◌≡◌, ℕ, ◌≤◌, ◌<◌, length, get_or, take}
use Rattle.wire_traffic.specs.When.{Samples, Above}
use Rattle.wire_words.specs.Words.{IsState}
use Rattle.wire_words.specs.Calls.{Called, events_from, words_after}

-- 0 is no refusal; the rest in their order
pub data When (ws ss out : List ℕ) : ℕ → Type 0 where
  done : IsState ws → Samples ss → length (events_from ws ss) ≤ length out → When ws ss out 0
  no_state : (IsState ws → ⊥) → When ws ss out 2
  above : IsState ws → Above ss → When ws ss out 14
  short : IsState ws → Samples ss → length out < length (events_from ws ss) → When ws ss out 15

-- after 15: the events before one that found no place fill the buffer; the words are those before its sample, which is the next one
pub record StoppedShort (ws ss out : List ℕ) (c : Called) : Type 0 where
  pub within : c.consumed < length ss
  pub words : c.words ≡ words_after ws (take c.consumed ss)
  pub tells : length (events_from c.words (get_or ss c.consumed 0 ∷ [])) ≡ 1
  pub full : c.written ≡ length out
  pub events : c.events ≡ events_from ws (take c.consumed ss)
