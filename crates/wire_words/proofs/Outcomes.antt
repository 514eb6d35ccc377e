-- What a call comes to, by its three tests: the words, the samples, and the room for the events.
use mathlib.Core.Bool.{true, false}
use mathlib.Core.List.{List, append-nil}
use mathlib.Core.Path.{◌≡◌, refl, ◌∙◌}
use Prim.Native.Nat.{ℕ, ◌≤◌, ◌<◌}
use native.Mathlib.Omega.{arith}
use borrow.Author.Tests.{le-leb, eq-eqb, ne_eqb}
use lib.ListN.{length, take}
use lib.Seq.{take-length, drop-length}
use Rattle.wire_samples.specs.Feed.{after_all, events_of, fitting, is_allowed, are_samples, refusal_of, consuming, feed_of, stored}
use Rattle.wire_traffic.proofs.Rooms.{all_fit, Full, some_fit}
use Rattle.wire_words.specs.Words.{stands_for, wires_of}
use Rattle.wire_words.specs.Calls.{Called, called, after_feed, wires_call, events_from, words_after}
use Rattle.wire_words.specs.When.{StoppedShort}
use Rattle.wire_words.proofs.Stands.{stands-exactly, words-wires-words, wires-words-wires}

-- the buffer is full after k samples
module _ (ws ss out : List ℕ) (k : ℕ) (f : Full (length out) (wires_of ws) ss k) where
  abbrev stop : Called
  stop = called 15 (words_after ws (take k ss)) (events_from ws (take k ss)) k (length out)

  stopped : after_feed (consuming k (wires_of ws) ss) out ≡ stop
  stopped = rw (ne_eqb k (length ss) (λ e. omega (arith, e, f.inside)), f.full, drop-length out, append-nil (events_from ws (take k ss)))

  stopped-short : StoppedShort ws ss out stop
  unfolding events_of
  stopped-short =
      record {
        within = f.inside;
        words = refl;
        tells = rw (wires-words-wires (after_all (wires_of ws) (take k ss)), append-nil) f.next;
        full = refl;
        events = refl;
      }

module _ (ws ss out : List ℕ) where
  pub outcome-2 : stands_for ws ≡ false → wires_call ws ss out ≡ called 2 ws out 0 0
  unfolding wires_call
  outcome-2 h = rw h

  module _ (h : stands_for ws ≡ true) where
    allowed : is_allowed (wires_of ws) ≡ true
    unfolding is_allowed wires_of
    allowed = let s = (stands-exactly ws).0 h in rw (le-leb _ _ s.last, le-leb _ _ s.bits)

    pub outcome-14 : are_samples ss ≡ false → wires_call ws ss out ≡ called 14 ws out 0 0
    unfolding wires_call feed_of refusal_of
    outcome-14 a = rw (h, allowed, a, words-wires-words ws ((stands-exactly ws).0 h))

    module _ (a : are_samples ss ≡ true) where
      -- k samples are consumed
      fed : (k : ℕ) → fitting (length out) (wires_of ws) ss ≡ k → wires_call ws ss out ≡ after_feed (consuming k (wires_of ws) ss) out
      unfolding wires_call feed_of refusal_of
      fed k e = rw (h, allowed, a, e)

      pub outcome-0 :
          length (events_from ws ss) ≤ length out
          → wires_call ws ss out ≡ called 0 (words_after ws ss) (stored (events_from ws ss) out) (length ss) (length (events_from ws ss))
      outcome-0 room =
          fed (length ss) (all_fit (length out) (wires_of ws) ss room)
          ∙ rw (take-length ss, eq-eqb (length ss) (length ss) refl)

      pub outcome-15 : length out < length (events_from ws ss) → ((wires_call ws ss out).number ≡ 15) × StoppedShort ws ss out (wires_call ws ss out)
      outcome-15 short =
          let k = fitting (length out) (wires_of ws) ss in
          let full = some_fit (length out) (wires_of ws) ss short in
          rw (fed k refl ∙ stopped ws ss out k full) (refl, stopped-short ws ss out k full)
