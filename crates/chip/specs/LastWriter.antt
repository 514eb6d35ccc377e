-- Demand 2 over whole runs: which event wrote a place of the display memory.
use Rattle.std.specs.Prelude.{true, List, [], ◌∷◌, ◌≡◌, ◌⊎◌, ℕ, zero, suc, ◌+◌, ◌<◌, get_or}
use Rattle.registers.specs.State.{State}
use Rattle.chip.specs.Phases.{awaits_data}
use Rattle.chip.specs.Promised.{is_acknowledged, step_of, run_of, place_of, stored_of}

-- event e, coming upon s, is an acknowledged display byte, stored at place k
pub record StoredAt (e : ℕ) (s : State) (k : ℕ) : Type 0 where
  pub is-byte : e < 256
  pub is_data : awaits_data s.chip.phase ≡ true
  pub acknowledged : is_acknowledged (step_of e s).answer ≡ true
  pub at_place : place_of s.chip.registers ≡ k

-- the state that event i of the list, counted from 0, comes upon
abbrev pub before : List ℕ → ℕ → State → State
before [] i s = s
before (e ∷ es) zero s = s
before (e ∷ es) (suc i) s = before es i (step_of e s).state

-- no event among the first n was stored at k
abbrev pub NoneStored : List ℕ → ℕ → State → ℕ → Type 0
NoneStored es n s k = (i : ℕ) → i < n → StoredAt (get_or es i 0) (before es i s) k → ⊥

-- one of them was, and none of those after it
pub record LastStored (es : List ℕ) (n : ℕ) (s : State) (k : ℕ) : Type 0 where
  -- its place in the list, from 0
  pub event : ℕ
  pub is_done : event < n
  pub is_stored : StoredAt (get_or es event 0) (before es event s) k
  pub is_last : (j : ℕ) → event < j → j < n → StoredAt (get_or es j 0) (before es j s) k → ⊥

-- the byte that it left there
abbrev pub stored_byte : {es : List ℕ} {n : ℕ} {s : State} {k : ℕ} → LastStored es n s k → ℕ
stored_byte {es} {n} {s} l = stored_of (before es l.event s).chip.registers (get_or es l.event 0)

-- none of the first n events was stored at k: byte and writer are as they were
pub record Untouched (es : List ℕ) (n : ℕ) (s end : State) (k : ℕ) : Type 0 where
  pub none : NoneStored es n s k
  pub byte : get_or end.memory k 0 ≡ get_or s.memory k 0
  pub writer : get_or end.writers k 0 ≡ get_or s.writers k 0

-- the last that was stored at k left its stored byte, and its number: the starting count plus its place in the list from 1
pub record Written (es : List ℕ) (n : ℕ) (s end : State) (k : ℕ) : Type 0 where
  pub last : LastStored es n s k
  pub byte : get_or end.memory k 0 ≡ stored_byte last
  pub writer : get_or end.writers k 0 ≡ s.count + (last.event + 1)

-- place k after n events that took s to end
abbrev pub PlaceAfter : List ℕ → ℕ → State → State → ℕ → Type 0
PlaceAfter es n s end k = Untouched es n s end k ⊎ Written es n s end k

-- the whole run, with a refused tail too: the events that were done
abbrev pub LastWriter : List ℕ → State → ℕ → Type 0
LastWriter es s k = PlaceAfter es (run_of es s).done s (run_of es s).state k
