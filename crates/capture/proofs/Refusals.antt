-- What 1 and 2 let pass, and that playing keeps it.
use mathlib.Core.Bool.{Bool, true, false, cond, not, ◌&&◌, ◌||◌}
use mathlib.Core.List.{List, [], ◌∷◌}
use mathlib.Core.Logic.{◌⊎◌, inl, inr, ⊎_elim}
use mathlib.Core.Path.{◌≡◌, refl, subst}
use Prim.Native.Nat.{ℕ, zero, suc, ◌+◌, ◌≤◌}
use native.Mathlib.Omega.{arith}
use borrow.Author.Tests.{eq-eqb, eqb-true, eqb-false, le-leb, leb-true, ltb-true}
use lib.Dec.{eqb, leb, ltb}
use lib.ListN.{length, get_or}
use Rattle.registers.specs.Record.{allowed}
use Rattle.registers.specs.Refusals.{refuse, ◌then◌, lengths_refusal}
use Rattle.registers.specs.State.{State, places}
use Rattle.text.specs.Decimal.{digit_value, is_digit}
use Rattle.text.specs.Text.{split}
use Rattle.text.proofs.Numbers.{and_both}
use Rattle.pixel_counts.proofs.Laws.{counts-allowed}
use Rattle.chip.specs.Promised.{Fit, run_of}
use Rattle.chip.proofs.Laws.{run-stays-fit}
use Rattle.capture_lines.specs.declared.LineSoFar.{LineSoFar}
use Rattle.capture_lines.specs.declared.LineSoFar.TheVariants.{First, Pins, Empty, Number, BadFirst, Bad}
use Rattle.capture_lines.specs.Line.{newline, word}
use Rattle.capture_lines.specs.SoFar.{is_pins, on_word, takes_digit, with_byte, with_bytes}
use Rattle.capture.specs.Feeding.{Playing, playing, kept, start_of, line_after, ended_line, with_next, bytes_fed, line_allowed, capture_allowed, kept_refusal, part_refusal}
use Rattle.capture.specs.Replay.{refused_by, started, replay_lines, replay_of}
use Rattle.capture.specs.Where.{Lent, Passed, PartWhen}

-- ---- the lengths of the lent memories

lengths-wrong : (m w : List ℕ) → (Lent m w → ⊥) → not (eqb (length m) places) || not (eqb (length w) places) ≡ true
lengths-wrong m w n = go (eqb (length m) places) (eqb (length w) places) refl refl
  where
    go : (a b : Bool) → eqb (length m) places ≡ a → eqb (length w) places ≡ b → not a || not b ≡ true
    go false b ea eb = refl
    go true false ea eb = refl
    go true true ea eb = absurd (n (record { memory_long = eqb-true _ _ ea; writers_long = eqb-true _ _ eb }))

pub by-lent : (m w : List ℕ) → Lent m w ⊎ (Lent m w → ⊥)
by-lent m w = go (eqb (length m) places) (eqb (length w) places) refl refl
  where
    go : (a b : Bool) → eqb (length m) places ≡ a → eqb (length w) places ≡ b → Lent m w ⊎ (Lent m w → ⊥)
    go false b ea eb = inr (λ h. eqb-false _ _ ea h.memory_long)
    go true false ea eb = inr (λ h. eqb-false _ _ eb h.writers_long)
    go true true ea eb = inl (record { memory_long = eqb-true _ _ ea; writers_long = eqb-true _ _ eb })

-- 1 lets memories of the right length pass, and no others
pub lent-passes : (m w : List ℕ) → Lent m w → lengths_refusal (length m) (length w) ≡ 0
lent-passes m w lent = simp (eq-eqb _ _ lent.memory_long, eq-eqb _ _ lent.writers_long)

pub not-lent : (m w : List ℕ) → (Lent m w → ⊥) → lengths_refusal (length m) (length w) ≡ 1
not-lent m w n = simp (lengths-wrong m w n)

pub lengths-lent : (m w : List ℕ) → lengths_refusal (length m) (length w) ≡ 0 → Lent m w
lengths-lent m w e = ⊎_elim (λ lent. lent) (λ n. absurd (omega (arith, e, not-lent m w n))) (by-lent m w)

pub replay-lent : (text m w : List ℕ) → Lent m w → replay_of text m w ≡ replay_lines (split newline text) m w
unfolding replay_of
replay-lent text m w lent = rw (lent-passes m w lent)

pub replay-not-lent : (text m w : List ℕ) → (Lent m w → ⊥) → replay_of text m w ≡ refused_by 1 (started 0 m w)
unfolding replay_of
replay-not-lent text m w n = rw (not-lent m w n)

-- ---- exactly when a part is refused

module _ (p : Playing) where
  decided :
      (m w a : Bool) → eqb (length p.state.memory) places ≡ m → eqb (length p.state.writers) places ≡ w
      → capture_allowed p.line p.state.chip ≡ a → PartWhen p (refuse (not m || not w) 1 then refuse (not a) 2)
  decided false w a em ew ea = λ h. eqb-false _ _ em h.memory_long
  decided true false a em ew ea = λ h. eqb-false _ _ ew h.writers_long
  decided true true false em ew ea = (record { memory_long = eqb-true _ _ em; writers_long = eqb-true _ _ ew }, ea)
  decided true true true em ew ea =
      let both = and_both (allowed p.state.chip) (line_allowed p.line) ea in
      record {
        fit = record { memory_long = eqb-true _ _ em; writers_long = eqb-true _ _ ew; is-allowed = both.0 };
        line-allowed = both.1;
      }

  pub part-refusal-when : PartWhen p (part_refusal p)
  part-refusal-when =
      decided (eqb (length p.state.memory) places) (eqb (length p.state.writers) places) (capture_allowed p.line p.state.chip) refl refl refl

  pub part-when : (k : ℕ) → PartWhen p k → part_refusal p ≡ k
  part-when zero h = simp (eq-eqb _ _ h.fit.memory_long, eq-eqb _ _ h.fit.writers_long, h.fit.is-allowed, h.line-allowed)
  part-when (suc zero) h = simp (lengths-wrong p.state.memory p.state.writers h)
  part-when (suc (suc zero)) h = simp (eq-eqb _ _ h.0.memory_long, eq-eqb _ _ h.0.writers_long, h.1)
  part-when (suc (suc (suc k))) h = absurd h

  pub none-refused : part_refusal p ≡ 0 → Passed p
  none-refused e = subst (λ (k : ℕ). PartWhen p k) e part-refusal-when

  pub kept-none : Passed p → kept_refusal p.line p.state.chip ≡ 0
  kept-none h = simp (h.fit.is-allowed, h.line-allowed)

-- ---- a chip after reset

-- before the first byte
pub start-passed : (m w : List ℕ) → Lent m w → Passed (kept start_of m w)
unfolding allowed
start-passed m w lent =
    record {
      fit = record { memory_long = lent.memory_long; writers_long = lent.writers_long; is-allowed = refl };
      line-allowed = refl;
    }

-- behind the first line
pub started-fit : (pins : ℕ) (m w : List ℕ) → pins ≤ 3 → Lent m w → Fit (started pins m w)
unfolding allowed
started-fit pins m w two lent =
    record { memory_long = lent.memory_long; writers_long = lent.writers_long; is-allowed = simp (le-leb pins 3 two, counts-allowed) }

-- ---- what passes stays so

either : (t : Bool) (k l : LineSoFar) → line_allowed k ≡ true → line_allowed l ≡ true → line_allowed (cond t k l) ≡ true
either true k l a b = a
either false k l a b = b

pins-digit : (b : ℕ) → line_allowed (cond (is_pins b) (Pins (digit_value b)) BadFirst) ≡ true
pins-digit b = go (leb 48 b) (leb b 51) refl
  where
    go : (t u : Bool) → leb b 51 ≡ u → line_allowed (cond (t && u) (Pins (digit_value b)) BadFirst) ≡ true
    go false u e = refl
    go true true e = le-leb (digit_value b) 3 (omega (arith, leb-true b 51 e))
    go true false e = refl

word_byte : (k b : ℕ) → line_allowed (on_word k b) ≡ true
word_byte k b = go (ltb k 5) refl
  where
    go :
        (t : Bool) → ltb k 5 ≡ t
        → line_allowed (cond t (cond (eqb b (get_or word k 0)) (First (k + 1)) BadFirst) (cond (is_pins b) (Pins (digit_value b)) BadFirst)) ≡ true
    go true e = either (eqb b (get_or word k 0)) _ _ (le-leb (k + 1) 5 (omega (arith, ltb-true k 5 e))) refl
    go false e = pins-digit b

pub with-byte-allowed : (l : LineSoFar) (b : ℕ) → line_allowed (with_byte l b) ≡ true
unfolding with_byte
with-byte-allowed (First k) b = word_byte k b
with-byte-allowed (Pins p) b = refl
with-byte-allowed Empty b = either (is_digit b) _ _ refl refl
with-byte-allowed (Number n) b = either (takes_digit n && is_digit b) _ _ refl refl
with-byte-allowed BadFirst b = refl
with-byte-allowed Bad b = refl

pub with-bytes-allowed : (l : LineSoFar) (bs : List ℕ) → line_allowed l ≡ true → line_allowed (with_bytes l bs) ≡ true
with-bytes-allowed l [] h = h
with-bytes-allowed l (b ∷ bs) h = with-bytes-allowed (with_byte l b) bs (with-byte-allowed l b)

pub after-allowed : (k : ℕ) → line_allowed (line_after k) ≡ true
after-allowed zero = refl
after-allowed (suc k) = refl

pub ended-passed : (l : LineSoFar) (s : State) → Fit s → line_allowed l ≡ true → Passed (ended_line l s)
unfolding ended_line
ended-passed (First k) s fit a = record { fit = fit; line-allowed = refl }
ended-passed (Pins p) s fit a =
    record {
      fit = started-fit p s.memory s.writers (leb-true p 3 a) (record { memory_long = fit.memory_long; writers_long = fit.writers_long });
      line-allowed = refl;
    }
ended-passed Empty s fit a = record { fit = fit; line-allowed = refl }
ended-passed (Number e) s fit a = record { fit = run-stays-fit (e ∷ []) s fit; line-allowed = after-allowed (run_of (e ∷ []) s).refusal }
ended-passed BadFirst s fit a = record { fit = fit; line-allowed = refl }
ended-passed Bad s fit a = record { fit = fit; line-allowed = refl }

pub stays-passed : (bs : List ℕ) (p : Playing) → Passed p → Passed (bytes_fed bs p)
unfolding bytes_fed
stays-passed [] p h = h
stays-passed (b ∷ bs) p h = stays-passed bs (with_next b p) (go (eqb b newline))
  where
    go : (t : Bool) → Passed (cond t (ended_line p.line p.state) (playing (with_byte p.line b) p.state))
    go true = ended-passed p.line p.state h.fit h.line-allowed
    go false = record { fit = h.fit; line-allowed = with-byte-allowed p.line b }
