-- A whole text from the start of a buffer: its length is found by writing it into a buffer that has no place, and then it is written if there is room.
use mathlib.Core.Path.{◌≡◌, refl, sym, ap, ◌∙◌}
use mathlib.Core.List.{List}
use Prim.Native.Nat.{ℕ, zero, suc, ◌≤◌, ◌<◌}
use native.Mathlib.Nat.{zero-add}
use native.Mathlib.Omega.{arith}
use borrow.Author.Tests.{le-leb, lt-leb}
use lib.ListN.{length}
use Rattle.std.specs.Prelude.{Result, Ok, Err}
use Rattle.std.specs.Result.{IsErrAnd}
use Rattle.refusals.specs.Numbers.{number}
use Rattle.refusals.specs.declared.Refusal.{Refusal}
use Rattle.refusals.proofs.Positive.{positive}
use Rattle.print.specs.Printed.{Text, Short, Refused, top, Wrote, Output, output, whole_text}
use Rattle.print.specs.declared.Unprinted.{Unprinted}
use Rattle.print.specs.declared.Unprinted.TheVariants as unprinted
use Rattle.print.specs.Prints.{written_of}
use Rattle.print.proofs.Writing.{after-fits}

-- the place after a text that was written from the start on is its length
whole_length : {l m : List ℕ} {n : ℕ} (xs : List ℕ) → length xs ≤ top → Wrote l 0 xs m n → n ≡ length xs
whole_length xs h w = w.next ∙ after-fits 0 (length xs) (omega arith) ∙ zero-add (length xs)

-- n is what the writing into a buffer with no place gave: the length
module _ {none m : List ℕ} {n : ℕ} (xs l : List ℕ) (bound : length xs ≤ top) (measured : Wrote none 0 xs m n) where
  pub whole-short : length l < n → output (Short n) l ≡ whole_text 0 xs l
  unfolding whole_text
  whole-short short =
      let same = whole_length xs bound measured in
      rw (same, lt-leb (length xs) (length l) (omega arith))

  pub whole-written : {r : List ℕ} {j : ℕ} → n ≤ length l → Wrote l 0 xs r j → output (Text j) r ≡ whole_text 0 xs l
  unfolding whole_text
  whole-written room w =
      let same = whole_length xs bound measured in
      rw (le-leb (length xs) (length l) (omega arith), whole_length xs bound w, w.list)

-- x is what the code found, k what the definition says
pub whole-refused : (x k : ℕ) (xs l : List ℕ) → x ≡ k → (x ≡ 0 → ⊥) → output (Refused x) l ≡ whole_text k xs l
unfolding whole_text
whole-refused zero k xs l e n = absurd (n refl)
whole-refused (suc x) k xs l e n = rw (← e)

pub whole-passed : (x k : ℕ) (xs l : List ℕ) {o : Output} → x ≡ k → x ≡ 0 → o ≡ whole_text 0 xs l → o ≡ whole_text k xs l
whole-passed x k xs l e z w = w ∙ ap (λ (n : ℕ). whole_text n xs l) (sym z ∙ e)

-- r is what stands in the buffer once the printing is over
module _ {none m r : List ℕ} {n j : ℕ} (xs l : List ℕ) (bound : length xs ≤ top) (measured : Wrote none 0 xs m n) where
  pub whole-printed : {left : List ℕ} → n ≤ length l → Wrote l 0 xs left j → r ≡ left → output (Text j) r ≡ whole_text 0 xs l
  whole-printed room w same = ap (λ (k : List ℕ). output (Text j) k) same ∙ whole-written xs l bound measured room w

-- k is what the definition says of the refusal that the code found, or that none was found
pub refused-text :
    (o : Result ℕ Unprinted) (r : Refusal) {k : ℕ} (xs l : List ℕ) → IsErrAnd o (λ (e : Unprinted). e ≡ unprinted.Refused r) → number r ≡ k
    → output (written_of o) l ≡ whole_text k xs l
refused-text (Ok n) r xs l h e = absurd h
refused-text (Err u) r xs l h e = rw h (whole-refused (number r) _ xs l e (λ z. omega (arith, positive r, z)))

pub unrefused-text : {k : ℕ} (xs l : List ℕ) {o : Output} → 0 ≡ k → o ≡ whole_text 0 xs l → o ≡ whole_text k xs l
unrefused-text xs l e w = w ∙ ap (λ (n : ℕ). whole_text n xs l) e
