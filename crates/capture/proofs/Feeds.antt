-- Part after part: what a refused one leaves, and what the parts of a whole text come to.
use mathlib.Core.Bool.{true}
use mathlib.Core.List.{List, [], ◌∷◌, ◌++◌}
use mathlib.Core.Logic.{⊎_elim}
use mathlib.Core.Path.{◌≡◌, refl, sym, ap, subst, ◌∙◌}
use Prim.Native.Nat.{ℕ, zero, suc}
use native.Mathlib.Omega.{arith}
use lib.Dec.{T}
use Rattle.registers.specs.State.{State}
use Rattle.capture_lines.specs.declared.LineSoFar.{LineSoFar}
use Rattle.capture_lines.specs.declared.LineSoFar.TheVariants.{First, Pins, Empty, Number, BadFirst, Bad}
use Rattle.capture_lines.specs.SoFar.{is_refused}
use Rattle.capture.specs.declared.Capture.{Capture}
use Rattle.capture.specs.Feeding.{Playing, playing, kept, start_of, bytes_fed, part_refusal, PartFed, fed, feed_of, then_fed, is_over, finish_of, meaning}
use Rattle.capture.specs.Replay.{Replay, unless_refused, replay_of}
use Rattle.capture.specs.Where.{Lent, Passed}
use Rattle.capture.proofs.Refusals.{by-lent, replay-lent, replay-not-lent, part-when, none-refused, kept-none, start-passed, stays-passed}
use Rattle.capture.proofs.Whole.{result_of, stuck, stuck-first, text-fed}

bytes-append : (xs ys : List ℕ) (p : Playing) → bytes_fed (xs ++ ys) p ≡ bytes_fed ys (bytes_fed xs p)
unfolding bytes_fed
bytes-append [] ys p = refl
bytes-append (x ∷ xs) ys p = bytes-append xs ys _

-- a part that is not refused
pub feed-passed : (part : List ℕ) (p : Playing) → Passed p → feed_of part p ≡ record { refusal = 0; after = bytes_fed part p }
unfolding feed_of
feed-passed part p h = rw (part-when p 0 h)

pub feed-refused : (part : List ℕ) (p : Playing) (k : ℕ) → part_refusal p ≡ suc k → feed_of part p ≡ record { refusal = suc k; after = p }
unfolding feed_of
feed-refused part p k e = rw e

-- two parts
pub feed-append : (xs ys : List ℕ) (p : Playing) → feed_of (xs ++ ys) p ≡ then_fed (feed_of xs p) ys
feed-append xs ys p = go (part_refusal p) refl
  where
    go : (k : ℕ) → part_refusal p ≡ k → feed_of (xs ++ ys) p ≡ then_fed (feed_of xs p) ys
    go zero e =
        let passed = none-refused p e in
        feed-passed (xs ++ ys) p passed
        ∙ ap (λ (q : Playing). record { refusal = 0; after = q }) (bytes-append xs ys p)
        ∙ sym (feed-passed ys (bytes_fed xs p) (stays-passed xs p passed))
        ∙ ap (λ (f : PartFed). then_fed f ys) (sym (feed-passed xs p passed))
    go (suc k) e = feed-refused (xs ++ ys) p k e ∙ ap (λ (f : PartFed). then_fed f ys) (sym (feed-refused xs p k e))

-- ---- nothing follows a refusal

kept_out : (xs : List ℕ) (l : LineSoFar) (s : State) → is_refused l ≡ true → bytes_fed xs (playing l s) ≡ playing l s
kept_out xs (First k) s h = absurd (subst T (sym h) tt)
kept_out xs (Pins p) s h = absurd (subst T (sym h) tt)
kept_out xs Empty s h = absurd (subst T (sym h) tt)
kept_out xs (Number n) s h = absurd (subst T (sym h) tt)
kept_out xs BadFirst s h = stuck-first xs s
kept_out xs Bad s h = stuck xs s

pub feed-over : (xs ys : List ℕ) (p : Playing) → is_over (feed_of xs p) ≡ true → feed_of (xs ++ ys) p ≡ feed_of xs p
feed-over xs ys p over = go (part_refusal p) refl
  where
    go : (k : ℕ) → part_refusal p ≡ k → feed_of (xs ++ ys) p ≡ feed_of xs p
    go zero e =
        let passed = none-refused p e in
        let line : is_refused (bytes_fed xs p).line ≡ true = subst (λ (f : PartFed). is_over f ≡ true) (feed-passed xs p passed) over in
        feed-passed (xs ++ ys) p passed
        ∙ ap (λ (q : Playing). record { refusal = 0; after = q }) (bytes-append xs ys p ∙ kept_out ys (bytes_fed xs p).line (bytes_fed xs p).state line)
        ∙ sym (feed-passed xs p passed)
    go (suc k) e = feed-refused (xs ++ ys) p k e ∙ sym (feed-refused xs p k e)

-- ---- what it comes to

abbrev pub fed_result : PartFed → Replay
fed_result f = unless_refused f.refusal f.after.state.memory f.after.state.writers (result_of f.after)

-- the whole text from the start
pub text-replayed : (text m w : List ℕ) → fed_result (feed_of text (kept start_of m w)) ≡ replay_of text m w
text-replayed text m w = ⊎_elim right wrong (by-lent m w)
  where
    right : Lent m w → fed_result (feed_of text (kept start_of m w)) ≡ replay_of text m w
    right lent =
        ap fed_result (feed-passed text (kept start_of m w) (start-passed m w lent))
        ∙ text-fed (kept start_of m w).state lent text
        ∙ sym (replay-lent text m w lent)

    wrong : (Lent m w → ⊥) → fed_result (feed_of text (kept start_of m w)) ≡ replay_of text m w
    wrong n = ap fed_result (feed-refused text (kept start_of m w) 0 (part-when (kept start_of m w) 1 n)) ∙ sym (replay-not-lent text m w n)

fed-passed : (part : List ℕ) (p : Playing) (f : PartFed) → f ≡ feed_of part p → f.refusal ≡ 0 → Passed f.after
fed-passed part p f e z = go (part_refusal p) refl
  where
    go : (k : ℕ) → part_refusal p ≡ k → Passed f.after
    go zero q =
        let passed = none-refused p q in
        subst (λ (g : PartFed). Passed g.after) (sym (e ∙ feed-passed part p passed)) (stays-passed part p passed)
    go (suc k) q =
        let no : suc k ≡ 0 = ap (λ (g : PartFed). g.refusal) (sym (e ∙ feed-refused part p k q)) ∙ z in
        absurd (omega arith)

-- the end of what was fed
pub fed-end :
    (part : List ℕ) (p : Playing) (k : ℕ) (c : Capture) (m w : List ℕ) → fed k c m w ≡ feed_of part p
    → meaning (finish_of k c) m w ≡ fed_result (fed k c m w)
unfolding finish_of meaning
fed-end part p zero c m w h = rw (kept-none (kept c m w) (fed-passed part p (fed 0 c m w) h refl))
fed-end part p (suc k) c m w h = refl
