-- What is promised of numbers as they are printed, and of a whole text that has no room.
use mathlib.Core.Bool.{Bool, true, false, cond}
use mathlib.Core.List.{List}
use mathlib.Core.Logic.{◌⊎◌, ◌↔◌, ⊎_elim}
use mathlib.Core.Path.{◌≡◌, refl, sym, ap, ◌∙◌}
use Prim.Native.Nat.{ℕ, zero, suc, ◌≤◌, ◌<◌}
use native.Mathlib.Nat.{zero-add}
use native.Mathlib.Omega.{arith}
use borrow.Author.Tests.{leb-true, leb-false}
use lib.Dec.{leb}
use lib.ListN.{length, take}
use lib.Seq.{sets}
use Rattle.text.proofs.Laws.{IsNumber}
use Rattle.print.specs.Printed.{Text, Short, Refused, IsDecimalOf, decimal_of, written_number, written_length, Output, output, whole_text, NumberSays}
use Rattle.print.proofs.Digits.{decimal-denotes, denotes-decimal, decimal-short}
use Rattle.print.proofs.Writing.{wrote-read}

-- digits denote a number, of any size, exactly where they are how it is printed
pub printed-exactly : (ds : List ℕ) (n : ℕ) → IsDecimalOf ds n ↔ (ds ≡ decimal_of n)
printed-exactly ds n = (denotes-decimal ds n, λ e. rw e (decimal-denotes n))

-- bytes are read as a number exactly where they denote it and it is below 1,000
pub number-exactly : (s : List ℕ) (n : ℕ) → IsNumber s n ↔ ((n < 1000) × IsDecimalOf s n)
number-exactly s n = (
  λ h. (h.0, (printed-exactly s n).1 (h.1 ∙ sym (decimal-short n h.0))),
  λ h. (h.0, (printed-exactly s n).0 h.1 ∙ decimal-short n h.0),
)

-- ---- a whole text

-- where the answer is a text's length, the buffer begins with that text
module _ (xs l : List ℕ) where
  from_start : length xs ≤ length l → take (length xs) (sets l 0 xs) ≡ xs
  from_start h =
      ap (λ (k : ℕ). take k (sets l 0 xs)) (sym (zero-add (length xs)))
      ∙ wrote-read {l = l} {i = 0} {xs = xs} (omega arith) (record { list = refl; next = refl })

  pub text-read : (k n : ℕ) {m : List ℕ} → output (Text n) m ≡ whole_text k xs l → (k ≡ 0) × (take n m ≡ xs)
  unfolding whole_text
  text-read zero n {m} e = go (leb (length xs) (length l)) refl e
    where
      go :
          (t : Bool) → leb (length xs) (length l) ≡ t
          → output (Text n) m ≡ cond t (output (Text (length xs)) (sets l 0 xs)) (output (Short (length xs)) l)
          → (zero ≡ 0) × (take n m ≡ xs)
      go true room same-output =
          let same : Text n ≡ Text (length xs) = ap (λ (o : Output). o.answer) same-output in
          let size : n ≡ length xs = cc in
          let stored : m ≡ sets l 0 xs = ap (λ (o : Output). o.out) same-output in
          (refl, rw (size, stored) (from_start (leb-true (length xs) (length l) room)))
      go false room same-output =
          let same : Text n ≡ Short (length xs) = ap (λ (o : Output). o.answer) same-output in
          let z : ◌≡◌ {A = ℕ} 0 1 = cc in
          absurd (omega arith)
  text-read (suc k) n e =
      let same : Text n ≡ Refused (suc k) = ap (λ (o : Output). o.answer) e in
      let z : ◌≡◌ {A = ℕ} 0 1 = cc in
      absurd (omega arith)

-- a text that is not refused: the number of its answer says whether it was written, and nothing else is possible
pub number-says : (short : ℕ) → (short ≡ 0 → ⊥) → (xs l : List ℕ) → NumberSays (written_number short) short xs l (whole_text 0 xs l)
unfolding whole_text
number-says short some xs l = go (leb (length xs) (length l)) refl
  where
    go :
        (t : Bool) → leb (length xs) (length l) ≡ t
        → NumberSays (written_number short) short xs l (cond t (output (Text (length xs)) (sets l 0 xs)) (output (Short (length xs)) l))
    go true e =
        let room : length xs ≤ length l = leb-true (length xs) (length l) e in
        record {
          is_short = (λ z. absurd (some (sym z)), λ h. absurd (omega (arith, room)));
          is-written = (λ z. room, λ h. refl);
          needed = refl;
          has_text = λ z. from_start xs l room;
          unchanged = λ z. absurd (some (sym z));
        }
    go false e =
        let none : length l < length xs = leb-false (length xs) (length l) e in
        record {
          is_short = (λ z. none, λ h. refl);
          is-written = (λ z. absurd (some z), λ h. absurd (omega (arith, none)));
          needed = refl;
          has_text = λ z. absurd (some z);
          unchanged = λ z. refl;
        }

-- where the output is too short, and only there, the answer has the number that its kind of text gives for that, with the length that is needed
pub short-exactly :
    (short : ℕ) → (short ≡ 0 → ⊥) → (xs l : List ℕ)
    → ((written_number short (whole_text 0 xs l).answer ≡ short) ↔ (length l < length xs)) × (written_length (whole_text 0 xs l).answer ≡ length xs)
short-exactly short some xs l = let says = number-says short some xs l in (says.is_short, says.needed)

-- it is refused exactly by a refusal that there is, and by its number
pub refused-exactly : (k : ℕ) (xs l : List ℕ) (n : ℕ) → ((whole_text k xs l).answer ≡ Refused n) ↔ ((k ≡ n) × (n ≡ 0 → ⊥))
unfolding whole_text
refused-exactly zero xs l n = (λ e. absurd (go (leb (length xs) (length l)) e), λ h. absurd (h.1 (sym h.0)))
  where
    go : (t : Bool) → (cond t (output (Text (length xs)) (sets l 0 xs)) (output (Short (length xs)) l)).answer ≡ Refused n → ⊥
    go true h = let z : ◌≡◌ {A = ℕ} 0 1 = cc h in omega arith
    go false h = let z : ◌≡◌ {A = ℕ} 0 1 = cc h in omega arith
refused-exactly (suc k) xs l n = (λ e. let same : suc k ≡ n = cc e in (same, λ z. omega arith), λ h. ap Refused h.0)

-- so where one condition decides between no refusal and 1
pub refused-by-1 :
    (P : Type 0) (r : ℕ) → P ⊎ (P → ⊥) → (P → r ≡ 0) → ((P → ⊥) → r ≡ 1) → (xs l : List ℕ) (k : ℕ)
    → ((whole_text r xs l).answer ≡ Refused k) ↔ ((k ≡ 1) × (P → ⊥))
refused-by-1 P r either passes refuses xs l k = (
  λ e. let is = (refused-exactly r xs l k).0 e in
      ⊎_elim (λ p. absurd (is.1 (sym is.0 ∙ passes p))) (λ n. (sym is.0 ∙ refuses n, n)) either,
  λ h. (refused-exactly r xs l k).1 (refuses h.1 ∙ sym h.0, λ z. omega (arith, h.0)),
)
