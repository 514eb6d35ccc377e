-- Words that stand for a record: their number, and the bounds of each. Lists of that length, element by element.
use mathlib.Core.Path.{◌≡◌, refl, sym, ap, ◌∙◌, subst}
use mathlib.Core.Bool.{Bool, true, false}
use mathlib.Core.List.{List, [], ◌∷◌}
use Prim.Native.Nat.{ℕ, suc, ◌+◌, ◌<◌, ◌≤◌}
use native.Mathlib.Nat.{add-zero, zero-add, suc-add, add-suc}
use native.Mathlib.Omega.{arith}
use borrow.Author.Tests.{eqb-true, leb-true}
use lib.Dec.{T, leb, eqb}
use lib.ListN.{length, get_or}
use Rattle.registers.specs.Record.{within}
use Rattle.registers.proofs.Below.{below_at}
use Rattle.registers.proofs.Tables.{tabulated}
use Rattle.registers.proofs.Within.{both_left, both_right, within-at}
use Rattle.record_words.specs.Words.{PHASE, PHASE_RS, PIXELS, word_limits, record_length, stands_for, rs_fits}

pub true_of : (t : Bool) → T t → t ≡ true
true_of true t = refl
true_of false t = absurd t

-- a list by its elements
spelled-from : (f : ℕ → ℕ) (l : List ℕ) (a : ℕ) → ((k : ℕ) → get_or l k 0 ≡ f (a + k)) → tabulated f a (length l) ≡ l
spelled-from f [] a h = refl
spelled-from f (x ∷ l) a h =
    rw (spelled-from f l (suc a) (λ k. h (suc k) ∙ ap f (add-suc a k ∙ sym (suc-add a k))), sym (h 0 ∙ ap f (add-zero a)))

pub spelled : (n : ℕ) (l : List ℕ) → length l ≡ n → tabulated (λ k. get_or l k 0) 0 n ≡ l
spelled n l e = rw (← e) (spelled-from (λ k. get_or l k 0) l 0 (λ k. ap (λ (j : ℕ). get_or l j 0) (sym (zero-add k))))

-- what holds of every list of a record's length that is spelled out holds of every list of that length
pub in_words : (P : List ℕ → Type 0) → ((f : ℕ → ℕ) → P (tabulated f 0 record_length)) → (l : List ℕ) → length l ≡ record_length → P l
in_words P h l e = subst P (spelled record_length l e) (h (λ k. get_or l k 0))

-- ---- what the test gives

module _ (ws : List ℕ) (h : stands_for ws ≡ true) where
  pub stands-length : length ws ≡ record_length
  unfolding stands_for
  stands-length = eqb-true _ _ (both_left _ _ h)

  pub stands-within : within true ws word_limits ≡ true
  unfolding stands_for
  stands-within = both_left _ _ (both_right (eqb (length ws) record_length) _ h)

  pub stands-rs : rs_fits (get_or ws PHASE 0) (get_or ws PHASE_RS 0) ≡ true
  unfolding stands_for
  stands-rs = both_right (within true ws word_limits) _ (both_right (eqb (length ws) record_length) _ h)

  pub stands_at : (i : ℕ) → get_or ws i 0 ≤ get_or word_limits i 0
  stands_at i = within-at true ws word_limits stands-within i

  -- every word but the pixels' is a byte
  pub stands-byte : (i : ℕ) → i < PIXELS → get_or ws i 0 < 256
  stands-byte i l =
      omega (arith, stands_at i, leb-true (get_or word_limits i 0) 255 (true_of _ (below_at PIXELS (λ k. leb (get_or word_limits k 0) 255) tt i l)))

-- what the test gives of each word, for the functions that read them
pub ruleset stands = (stands-length, stands_at, stands-byte)
