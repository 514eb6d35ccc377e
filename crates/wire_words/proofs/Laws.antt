-- The calls that start and feed a wire state: which number they give exactly when, how they leave the buffers, and that a state which is handed back
-- is not refused by 2 in the next call. (Stands: words and wires. Ranges: what samples keep. Parts: several calls.)
use mathlib.Core.Bool.{Bool, true, false, cond, true≢false}
use mathlib.Core.List.{List, [], ◌∷◌}
use mathlib.Core.Logic.{◌↔◌}
use mathlib.Core.Path.{◌≡◌, refl, sym, ap, ◌∙◌, subst}
use Prim.Native.Nat.{ℕ, zero, suc, ◌≤◌, ◌<◌}
use native.Mathlib.Omega.{arith}
use borrow.Author.Tests.{eq-eqb, ne_eqb, eqb-true, eqb-false, leb-true, leb-false}
use lib.Dec.{leb, eqb}
use lib.ListN.{length, get_or, take, drop, length-append, length-drop}
use lib.Seq.{take-append_seam, drop-append_seam}
use Rattle.wire_samples.specs.Feed.{events_of, are_samples, feed_of, stored}
use Rattle.wire_traffic.proofs.Cuts.{feed-takes}
use Rattle.wire_traffic.proofs.Ranges.{call-in-ranges}
use Rattle.wire_traffic.proofs.Rooms.{samples, are-samples, not-samples}
use Rattle.wire_traffic.proofs.Rooms as Rooms
use Rattle.wire_words.specs.Words.{state_length, stands_for, IsState, wires_of, words_of}
use Rattle.wire_words.specs.Calls.{Started, started, start_call, Called, called, after_feed, wires_call, events_from, words_after}
use Rattle.wire_words.specs.When.{When, done, no_state, above, short, StoppedShort}
use Rattle.wire_words.proofs.Stands.{stands-exactly}
use Rattle.wire_words.proofs.Ranges.{in-ranges-state, state-in-ranges}
use Rattle.wire_words.proofs.Outcomes.{outcome-0, outcome-2, outcome-14, outcome-15}

number_of : {c d : Called} → c ≡ d → c.number ≡ d.number
number_of e = ap (λ (c : Called). c.number) e

-- ---- pcf8820_wires: the number

module _ (ws ss out : List ℕ) where
  no-stand : (IsState ws → ⊥) → stands_for ws ≡ false
  no-stand d = go (stands_for ws) refl
    where
      go : (t : Bool) → stands_for ws ≡ t → stands_for ws ≡ false
      go true h = absurd (d ((stands-exactly ws).0 h))
      go false h = h

  gives : When ws ss out (wires_call ws ss out).number
  gives = go (stands_for ws) (are_samples ss) (leb (length (events_from ws ss)) (length out)) refl refl refl
    where
      go :
          (t a r : Bool) → stands_for ws ≡ t → are_samples ss ≡ a → leb (length (events_from ws ss)) (length out) ≡ r
          → When ws ss out (wires_call ws ss out).number
      go false a r ht ha hr =
          rw (outcome-2 ws ss out ht) (no_state (λ s. true≢false (sym ((stands-exactly ws).1 s) ∙ ht)))
      go true false r ht ha hr = rw (outcome-14 ws ss out ht ha) (above ((stands-exactly ws).0 ht) (Rooms.above ss ha))
      go true true false ht ha hr =
          let few = leb-false (length (events_from ws ss)) (length out) hr in
          rw (outcome-15 ws ss out ht ha few).0 (short ((stands-exactly ws).0 ht) (samples ss ha) few)
      go true true true ht ha hr =
          let room = leb-true (length (events_from ws ss)) (length out) hr in
          rw (outcome-0 ws ss out ht ha room) (done ((stands-exactly ws).0 ht) (samples ss ha) room)

  given : (n : ℕ) → When ws ss out n → (wires_call ws ss out).number ≡ n
  given n (no_state d) = number_of (outcome-2 ws ss out (no-stand d))
  given n (above s some) = number_of (outcome-14 ws ss out ((stands-exactly ws).1 s) (not-samples ss some))
  given n (short s all few) = (outcome-15 ws ss out ((stands-exactly ws).1 s) (are-samples ss all) few).0
  given n (done s all room) = number_of (outcome-0 ws ss out ((stands-exactly ws).1 s) (are-samples ss all) room)

  -- each number comes exactly when the table says, and none but these
  pub exactly-when : (n : ℕ) → ((wires_call ws ss out).number ≡ n) ↔ When ws ss out n
  exactly-when n = (λ e. subst (When ws ss out) e gives, given n)

  -- a wire state is not refused by 2, whatever is fed to it
  pub state-taken : IsState ws → (wires_call ws ss out).number ≡ 2 → ⊥
  state-taken s e = go ((exactly-when 2).0 e)
    where
      go : When ws ss out 2 → ⊥
      go (no_state d) = d s

  -- a word above a byte is not cut to one: with it, 2 comes whatever its low byte is; the count of unclear samples alone may stand so high
  pub above-a-byte : (i : ℕ) → 1 ≤ i → i < 5 → 256 ≤ get_or ws i 0 → (wires_call ws ss out).number ≡ 2
  above-a-byte i low high more = (exactly-when 2).1 (no_state (λ s. byte i s low high more))
    where
      byte : (i : ℕ) → IsState ws → 1 ≤ i → i < 5 → 256 ≤ get_or ws i 0 → ⊥
      byte zero s l h m = omega arith
      byte (suc zero) s l h m = omega arith
      byte (suc (suc zero)) s l h m = omega arith
      byte (suc (suc (suc zero))) s l h m = omega arith
      byte (suc (suc (suc (suc zero)))) s l h m = omega arith
      byte (suc (suc (suc (suc (suc i))))) s l h m = omega arith

  -- ---- the buffers

  -- refused by 2 or 14: both are as they were, and nothing is consumed or written
  pub refused-by-2 : (wires_call ws ss out).number ≡ 2 → wires_call ws ss out ≡ called 2 ws out 0 0
  refused-by-2 e = go ((exactly-when 2).0 e)
    where
      go : When ws ss out 2 → wires_call ws ss out ≡ called 2 ws out 0 0
      go (no_state d) = outcome-2 ws ss out (no-stand d)

  pub refused-by-14 : (wires_call ws ss out).number ≡ 14 → wires_call ws ss out ≡ called 14 ws out 0 0
  refused-by-14 e = go ((exactly-when 14).0 e)
    where
      go : When ws ss out 14 → wires_call ws ss out ≡ called 14 ws out 0 0
      go (above s some) = outcome-14 ws ss out ((stands-exactly ws).1 s) (not-samples ss some)

  -- stopped by 15: the buffer is full, and the state is the one before the event that found no place
  pub stopped-by-15 : (wires_call ws ss out).number ≡ 15 → StoppedShort ws ss out (wires_call ws ss out)
  stopped-by-15 e = go ((exactly-when 15).0 e)
    where
      go : When ws ss out 15 → StoppedShort ws ss out (wires_call ws ss out)
      go (short s all few) = (outcome-15 ws ss out ((stands-exactly ws).1 s) (are-samples ss all) few).1

  -- not refused: all samples are consumed, and all their events written
  pub all-consumed :
      (wires_call ws ss out).number ≡ 0
      → wires_call ws ss out ≡ called 0 (words_after ws ss) (stored (events_from ws ss) out) (length ss) (length (events_from ws ss))
  all-consumed e = go ((exactly-when 0).0 e)
    where
      go :
          When ws ss out 0
          → wires_call ws ss out ≡ called 0 (words_after ws ss) (stored (events_from ws ss) out) (length ss) (length (events_from ws ss))
      go (done s all room) = outcome-0 ws ss out ((stands-exactly ws).1 s) (are-samples ss all) room

  by_state :
      (P : Called → Type 0) → (stands_for ws ≡ false → P (called 2 ws out 0 0))
      → (stands_for ws ≡ true → P (after_feed (feed_of (length out) (wires_of ws) ss) out)) → P (wires_call ws ss out)
  unfolding wires_call
  by_state P none fed = go (stands_for ws) refl
    where
      go : (t : Bool) → stands_for ws ≡ t → P (cond t (after_feed (feed_of (length out) (wires_of ws) ss) out) (called 2 ws out 0 0))
      go true h = fed h
      go false h = none h

  -- whatever the number: what is written are the events of the samples consumed,
  pub written-events : take (wires_call ws ss out).written (wires_call ws ss out).events ≡ events_from ws (take (wires_call ws ss out).consumed ss)
  unfolding events_of
  written-events =
      by_state (λ (c : Called). take c.written c.events ≡ events_from ws (take c.consumed ss)) (λ h. refl)
      (λ h. take-append_seam _ _ ∙ (feed-takes (length out) (wires_of ws) ss).events)

  -- beyond that the buffer is as it was,
  pub beyond-written : drop (wires_call ws ss out).written (wires_call ws ss out).events ≡ drop (wires_call ws ss out).written out
  beyond-written =
      by_state (λ (c : Called). drop c.written c.events ≡ drop c.written out) (λ h. refl)
      (λ h. drop-append_seam (feed_of (length out) (wires_of ws) ss).events _)

  pub same_length : length (wires_call ws ss out).events ≡ length out
  same_length =
      by_state (λ (c : Called). length c.events ≡ length out) (λ h. refl)
      (λ h. let es = (feed_of (length out) (wires_of ws) ss).events in
      length-append es (drop (length es) out) ∙ omega (arith, length-drop (length es) out, (feed-takes (length out) (wires_of ws) ss).fits))

  -- and the words are those after the samples consumed
  pub words-after : IsState ws → (wires_call ws ss out).words ≡ words_after ws (take (wires_call ws ss out).consumed ss)
  words-after s =
      by_state (λ (c : Called). c.words ≡ words_after ws (take c.consumed ss)) (λ h. absurd (true≢false (sym ((stands-exactly ws).1 s) ∙ h)))
      (λ h. ap words_of (feed-takes (length out) (wires_of ws) ss).wires)

  -- what is handed back after 0, 14 and 15 is a wire state
  pub handed-back : ((wires_call ws ss out).number ≡ 2 → ⊥) → IsState (wires_call ws ss out).words
  handed-back =
      by_state (λ (c : Called). (c.number ≡ 2 → ⊥) → IsState c.words) (λ h d. absurd (d refl))
      (λ h d. in-ranges-state _ (call-in-ranges (length out) (wires_of ws) (state-in-ranges ws ((stands-exactly ws).0 h)) ss))

-- ---- pcf8820_wires_start

module _ (ws : List ℕ) where
  -- five words become the start's
  pub started-words : length ws ≡ state_length → start_call ws ≡ started 0 (0 ∷ 3 ∷ 0 ∷ 0 ∷ 0 ∷ [])
  unfolding start_call
  started-words n = rw (eq-eqb (length ws) state_length n)

  -- a buffer of another length is refused by 2, and is as it was
  pub start-refused : (length ws ≡ state_length → ⊥) → start_call ws ≡ started 2 ws
  unfolding start_call
  start-refused d = rw (ne_eqb (length ws) state_length d)

  pub start-exactly : ((start_call ws).number ≡ 0) ↔ (length ws ≡ state_length)
  start-exactly = (there (eqb (length ws) state_length) refl, λ n. ap (λ (c : Started). c.number) (started-words n))
    where
      there : (t : Bool) → eqb (length ws) state_length ≡ t → (start_call ws).number ≡ 0 → length ws ≡ state_length
      there true h e = eqb-true _ _ h
      there false h e = absurd (omega (arith, sym (ap (λ (c : Started). c.number) (start-refused (eqb-false _ _ h))) ∙ e))

  pub started-state : (start_call ws).number ≡ 0 → IsState (start_call ws).words
  started-state e =
      rw (started-words (start-exactly.0 e))
      (record { long = refl; last = omega arith; stage = omega arith; bits = omega arith; value = omega arith })

-- ---- the next call does not refuse by 2 what this one handed back

pub next-taken :
    (ws ss₁ out₁ ss₂ out₂ : List ℕ) → ((wires_call ws ss₁ out₁).number ≡ 2 → ⊥)
    → (wires_call (wires_call ws ss₁ out₁).words ss₂ out₂).number ≡ 2 → ⊥
next-taken ws ss₁ out₁ ss₂ out₂ d = state-taken (wires_call ws ss₁ out₁).words ss₂ out₂ (handed-back ws ss₁ out₁ d)

pub started-taken : (ws ss out : List ℕ) → (start_call ws).number ≡ 0 → (wires_call (start_call ws).words ss out).number ≡ 2 → ⊥
started-taken ws ss out e = state-taken (start_call ws).words ss out (started-state ws e)
