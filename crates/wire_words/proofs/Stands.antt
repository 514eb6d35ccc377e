-- Words that stand for a wire state: their number and the range of each. Words and wires are one thing in two forms.
use mathlib.Core.Bool.{Bool, true, false, cond}
use mathlib.Core.List.{List, [], ◌∷◌}
use mathlib.Core.Logic.{◌↔◌}
use mathlib.Core.Path.{◌≡◌, refl, ap}
use Prim.Native.Nat.{ℕ, zero, suc, ◌≤◌}
use native.Mathlib.Omega.{arith}
use borrow.Author.Tests.{eqb-true, eq-eqb, leb-true, le-leb}
use lib.Dec.{leb, eqb}
use lib.ListN.{length, get_or}
use Rattle.text.proofs.Numbers.{and_both}
use Rattle.wire_samples.specs.declared.Stage.{Stage}
use Rattle.wire_samples.specs.declared.Stage.TheVariants.{Outside, Waiting, First, Writing, Reading}
use Rattle.wire_samples.specs.declared.Wires.{Wires}
use Rattle.wire_samples.specs.Sample.{wires}
use Rattle.std.specs.Prelude.{None, Some}
use Rattle.wire_words.specs.Words.{state_length, stands_for, IsState, stage_of, stage_number, wires_of, words_of, read_of}

-- what holds of five words spelled out holds of every list of that length
pub in-five : (P : List ℕ → Type 0) → ((a b c d e : ℕ) → P (a ∷ b ∷ c ∷ d ∷ e ∷ [])) → (l : List ℕ) → length l ≡ state_length → P l
in-five P h (a ∷ b ∷ c ∷ d ∷ e ∷ []) n = h a b c d e
in-five P h [] n = absurd (omega arith)
in-five P h (a ∷ []) n = absurd (omega arith)
in-five P h (a ∷ b ∷ []) n = absurd (omega arith)
in-five P h (a ∷ b ∷ c ∷ []) n = absurd (omega arith)
in-five P h (a ∷ b ∷ c ∷ d ∷ []) n = absurd (omega arith)
in-five P h (a ∷ b ∷ c ∷ d ∷ e ∷ f ∷ l) n = absurd (omega arith)

-- ---- what the test gives

pub stands-exactly : (ws : List ℕ) → (stands_for ws ≡ true) ↔ IsState ws
unfolding stands_for
stands-exactly ws = (
  λ h. let l = and_both (eqb (length ws) state_length) _ h in
      let a = and_both (leb (get_or ws 1 0) 3) _ l.1 in
      let b = and_both (leb (get_or ws 2 0) 4) _ a.1 in
      let c = and_both (leb (get_or ws 3 0) 8) _ b.1 in
      record {
        long = eqb-true _ _ l.0;
        last = leb-true _ _ a.0;
        stage = leb-true _ _ b.0;
        bits = leb-true _ _ c.0;
        value = leb-true _ _ c.1;
      },
  λ s. rw (eq-eqb _ _ s.long, le-leb _ _ s.last, le-leb _ _ s.stage, le-leb _ _ s.bits, le-leb _ _ s.value),
)

-- ---- words, wires, words

stage-back : (n : ℕ) → n ≤ 4 → stage_number (stage_of n) ≡ n
stage-back zero h = refl
stage-back (suc zero) h = refl
stage-back (suc (suc zero)) h = refl
stage-back (suc (suc (suc zero))) h = refl
stage-back (suc (suc (suc (suc zero)))) h = refl
stage-back (suc (suc (suc (suc (suc n))))) h = absurd (omega arith)

-- the words that stand for wires are the words of those
pub words-wires-words : (ws : List ℕ) → IsState ws → words_of (wires_of ws) ≡ ws
unfolding wires_of
words-wires-words ws s =
    in-five (λ (l : List ℕ). stage_number (stage_of (get_or l 2 0)) ≡ get_or l 2 0 → words_of (wires_of l) ≡ l)
    (λ a b c d e same. ap (λ (k : ℕ). a ∷ b ∷ k ∷ d ∷ e ∷ []) same)
    ws s.long (stage-back (get_or ws 2 0) s.stage)

-- ---- wires, words, wires

same-stage : (st : Stage) → stage_of (stage_number st) ≡ st
same-stage Outside = refl
same-stage Waiting = refl
same-stage First = refl
same-stage Writing = refl
same-stage Reading = refl

-- no two wires have the same words
pub wires-words-wires : (w : Wires) → wires_of (words_of w) ≡ w
unfolding wires_of
wires-words-wires w = ap (λ (st : Stage). wires w.unclear w.last st w.bits w.value) (same-stage w.stage)

-- ---- reading

module _ (ws : List ℕ) where
  pub read-state-exactly : (w : Wires) → (read_of ws ≡ Some w) ↔ ((stands_for ws ≡ true) × (w ≡ wires_of ws))
  unfolding read_of
  read-state-exactly w = (there (stands_for ws) refl, λ (h, e). rw (h, e))
    where
      there : (t : Bool) → stands_for ws ≡ t → cond t (Some (wires_of ws)) None ≡ Some w → (stands_for ws ≡ true) × (w ≡ wires_of ws)
      there true h e = (h, cc)
      there false h e = let z : ◌≡◌ {A = ℕ} 0 1 = cc in absurd (omega arith)

  pub read-none-exactly : (read_of ws ≡ None) ↔ (stands_for ws ≡ false)
  unfolding read_of
  read-none-exactly = (there (stands_for ws) refl, λ h. rw h)
    where
      there : (t : Bool) → stands_for ws ≡ t → cond t (Some (wires_of ws)) None ≡ None → stands_for ws ≡ false
      there true h e = let z : ◌≡◌ {A = ℕ} 0 1 = cc in absurd (omega arith)
      there false h e = h
