-- A call that is refused before a sample is taken, and one that is not.
use Rattle.std.proofs.Common.{◌≡◌, refl, List, ℕ, zero, suc, ◌<◌, length, arith, Some}
use Rattle.refusals.specs.declared.Refusal.{Refusal}
use Rattle.refusals.specs.Numbers.{number}
use Rattle.refusals.proofs.Positive.{positive}
use Rattle.wire_samples.specs.declared.Wires.{Wires}
use Rattle.wire_samples.specs.declared.Fed.{Fed}
use Rattle.wire_samples.specs.Feed.{refusal_of, as_much_as_fits, feed_of, answered, answer_of, stored}

-- what is handed back, and what is left of the buffer
pub record Handed (room : ℕ) (w : Wires) (ss out : List ℕ) (f : Fed) (left : List ℕ) : Type 0 where
  pub value : answered f ≡ answer_of (feed_of room w ss)
  pub events_after : left ≡ stored (feed_of room w ss).events out

module _ (w : Wires) (ss out : List ℕ) where
  pub refused : (r : Refusal) → number r ≡ refusal_of w ss → Handed (length out) w ss out (record { wires = w; consumed = 0; written = 0; refusal = Some r }) out
  unfolding feed_of
  refused r e = go (number r) refl (positive r) e
    where
      go : (k : ℕ) → number r ≡ k → 0 < k → k ≡ refusal_of w ss → Handed (length out) w ss out (record { wires = w; consumed = 0; written = 0; refusal = Some r }) out
      go zero is p e = absurd (omega (arith, p))
      go (suc k) is p e = record { value = rw (← e, is); events_after = rw (← e) }

  pub accepted :
      0 ≡ refusal_of w ss → (f : Fed) (left : List ℕ) → answered f ≡ answer_of (as_much_as_fits (length out) w ss)
      → left ≡ stored (as_much_as_fits (length out) w ss).events out → Handed (length out) w ss out f left
  unfolding feed_of
  accepted none f left p q = record { value = rw (← none) p; events_after = rw (← none) q }
