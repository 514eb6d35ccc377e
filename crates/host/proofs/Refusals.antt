-- Why a call is refused, read off what is lent, is why the chip refuses.
use mathlib.Core.Path.{◌≡◌, ap}
use mathlib.Core.Bool.{Bool, true, false, not, ◌||◌}
use mathlib.Core.List.{List}
use Prim.Native.Nat.{ℕ, ◌≤◌}
use native.Mathlib.Omega.{arith}
use lib.Dec.{eqb}
use lib.ListN.{length}
use Rattle.registers.specs.Refusals.{refuse, ◌then◌}
use Rattle.registers.specs.State.{state, places}
use Rattle.engine.specs.Step as inside
use Rattle.engine.specs.Step.{event_refusal, pixel_refusal, refusal_of}
use Rattle.record_words.specs.Words.{stands_for, chip_of}
use Rattle.host.specs.Calls.{no_record, step_refusal, entry_refusal}
use Rattle.record_words.proofs.Laws.{stands-allowed}

-- 1 or 2
pub one-or-two : (m w : List ℕ) → (1 ≤ no_record m w) × (no_record m w ≤ 2)
one-or-two m w = go (not (eqb (length m) places) || not (eqb (length w) places))
  where
    go : (t : Bool) → (1 ≤ (refuse t 1 then 2)) × ((refuse t 1 then 2) ≤ 2)
    go true = (omega arith, omega arith)
    go false = (omega arith, omega arith)

module _ (ws m w : List ℕ) where
  pub never-none : no_record m w ≡ 0 → ⊥
  never-none e = omega (arith, e, (one-or-two m w).0)

  pub entry-of-none : stands_for ws ≡ false → entry_refusal ws m w ≡ no_record m w
  entry-of-none n = rw n

  pub entry-of-chip : (count : ℕ) → stands_for ws ≡ true → inside.entry_refusal (state (chip_of ws) m w count) ≡ entry_refusal ws m w
  unfolding inside.entry_refusal
  entry-of-chip count h = rw (stands-allowed ws h, h)

  -- words that stand for no record are refused at entry
  pub refused-at-entry : stands_for ws ≡ false → (rest : ℕ) → entry_refusal ws m w then rest ≡ no_record m w
  refused-at-entry n rest = go (not (eqb (length m) places) || not (eqb (length w) places)) (entry-of-none n)
    where
      go : (t : Bool) → entry_refusal ws m w ≡ refuse t 1 then 2 → entry_refusal ws m w then rest ≡ refuse t 1 then 2
      go true e = rw e
      go false e = rw e

  pub refusal-of-chip : (event count : ℕ) → stands_for ws ≡ true → refusal_of event (state (chip_of ws) m w count) ≡ step_refusal event ws m w count
  unfolding refusal_of
  refusal-of-chip event count h = ap (λ (k : ℕ). k then event_refusal event count then pixel_refusal event (chip_of ws) m) (entry-of-chip count h)
