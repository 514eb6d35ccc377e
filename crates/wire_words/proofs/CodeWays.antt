-- Ways through the code of this crate, over plain variables.
use mathlib.Core.List.{List}
use mathlib.Core.Path.{◌≡◌, refl, sym, ap, ◌∙◌}
use Prim.Native.Nat.{ℕ}
use lib.ListN.{length}
use Rattle.wire_samples.specs.declared.Wires.{Wires}
use Rattle.wire_samples.specs.declared.Fed.{Fed}
use Rattle.refusals.specs.Numbers.{number_of}
use Rattle.wire_samples.specs.Feed.{feed_of, Answer, answer_of, answered, stored}
use Rattle.std.specs.Prelude.{Option, None, Some}
use Rattle.wire_words.specs.Words.{state_length, words_of, read_of}
use Rattle.wire_words.specs.Calls.{called, wires_call}
use Rattle.wire_words.proofs.Stands.{stands-exactly, read-state-exactly, read-none-exactly}

-- ---- the calls

-- x is what the words gave, and n the number that is given back
module _ (ws : List ℕ) (x : Option Wires) (ex : x ≡ read_of ws) (n : ℕ) where
  pub read-long : (w : Wires) → x ≡ Some w → length ws ≡ state_length
  read-long w is = ((stands-exactly ws).0 ((read-state-exactly ws w).0 (sym ex ∙ is)).0).long

  module _ (ss out : List ℕ) where
    pub feed-refused : x ≡ None → n ≡ 2 → called n ws out 0 0 ≡ wires_call ws ss out
    unfolding wires_call
    feed-refused none en = rw ((read-none-exactly ws).0 (sym ex ∙ none), en)

    pub feed-done :
        (w : Wires) → x ≡ Some w → (f : Fed) (out' l : List ℕ)
        → answered f ≡ answer_of (feed_of (length out) w ss) → out' ≡ stored (feed_of (length out) w ss).events out → l ≡ words_of f.wires
        → n ≡ number_of f.refusal → called n l out' f.consumed f.written ≡ wires_call ws ss out
    unfolding wires_call
    feed-done w is f out' l ef eo el en =
        let found = (read-state-exactly ws w).0 (sym ex ∙ is) in
        rw (en, el) refl
        ∙ ap (λ (a : Answer). called a.refusal (words_of a.wires) out' a.consumed a.written) ef
        ∙ rw (found.0, ← found.1, eo) refl
