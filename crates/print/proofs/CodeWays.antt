-- Ways through the code, over plain variables: of a number, and of a line of a name and a number.
use mathlib.Core.Path.{◌≡◌, sym}
use mathlib.Core.List.{List, [], ◌∷◌, ◌++◌, append_assoc}
use Prim.Native.Nat.{ℕ, ◌+◌, ◌/◌, ◌%◌, ◌≤◌, ◌<◌}
use native.Mathlib.Omega.{arith}
use Rattle.text.specs.Decimal.{digit}
use Rattle.print.specs.Chosen.{named_line}
use Rattle.print.specs.Printed.{decimal_of}
use Rattle.print.proofs.Digits.{decimal-one, decimal-more}
use Rattle.print.specs.declared.Printout.{Printout}
use Rattle.print.specs.Prints.{Prints}
use Rattle.print.proofs.Writing.{prints_then, prints-same}

-- ---- a number

module _ (n : ℕ) where
  pub prints-digit : {p q : Printout} → n < 10 → Prints p (digit n ∷ []) q → Prints p (decimal_of n) q
  prints-digit h w = prints-same (sym (decimal-one n h)) w

  pub prints-digits : {p q r : Printout} → 10 ≤ n → Prints p (decimal_of (n / 10)) q → Prints q (digit (n % 10) ∷ []) r → Prints p (decimal_of n) r
  prints-digits h a b = prints-same (sym (decimal-more n h)) (prints_then a b)

-- n + k, with k carried into the tens
module _ (n k : ℕ) where
  pub prints-sum-digit : {p q : Printout} → n / 10 + (n % 10 + k) / 10 ≡ 0 → Prints p (digit (n % 10 + k) ∷ []) q → Prints p (decimal_of (n + k)) q
  prints-sum-digit z w = let same : n % 10 + k ≡ n + k = omega arith in prints-digit (n + k) (omega arith) (rw same at w)

  pub prints-sum-digits :
      {p q r : Printout} → (n / 10 + (n % 10 + k) / 10 ≡ 0 → ⊥)
      → Prints p (decimal_of (n / 10 + (n % 10 + k) / 10)) q → Prints q (digit ((n % 10 + k) % 10) ∷ []) r → Prints p (decimal_of (n + k)) r
  prints-sum-digits z a b =
      let front : n / 10 + (n % 10 + k) / 10 ≡ (n + k) / 10 = omega arith in
      let last : (n % 10 + k) % 10 ≡ (n + k) % 10 = omega arith in
      prints-digits (n + k) (omega arith) (rw front at a) (rw last at b)

-- ---- a line of a name and a number

named-fields : (a b : List ℕ) → a ++ ((9 ∷ []) ++ (b ++ (10 ∷ []))) ≡ (a ++ 9 ∷ b) ++ (10 ∷ [])
named-fields a b = simp append_assoc

pub prints-named :
    {p q r t : Printout} (name : List ℕ) (value : ℕ)
    → Prints p name q → Prints q (9 ∷ []) r → Prints r (decimal_of value ++ (10 ∷ [])) t → Prints p (named_line name value) t
prints-named name value a b c = prints-same (named-fields name (decimal_of value)) (prints_then a (prints_then b c))
