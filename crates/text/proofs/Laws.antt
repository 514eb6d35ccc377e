-- What is promised of numbers in text: which bytes are read as one.
use mathlib.Core.List.{List, [], ◌∷◌}
use mathlib.Core.Logic.{◌↔◌}
use mathlib.Core.Path.{◌≡◌, refl, sym, ap, ◌∙◌}
use Prim.Native.Nat.{ℕ, ◌<◌}
use native.Mathlib.Omega.{arith}
use Rattle.std.specs.Prelude.{Option, Some, None}
use Rattle.text.specs.Decimal.{number_of, field_numbers, decimal}
use Rattle.text.proofs.Printing.{printed, read_back}

-- the bytes of a field are the number n, below 1,000, in decimal
abbrev pub IsNumber : List ℕ → ℕ → Type 0
IsNumber s n = (n < 1000) × (s ≡ decimal n)

-- 0 comes with the value exactly where the bytes are that number in decimal
pub value-exactly : (s : List ℕ) (n : ℕ) → (field_numbers (number_of s) ≡ 0 ∷ n ∷ []) ↔ IsNumber s n
value-exactly s n = (there (number_of s) refl, λ h. ap field_numbers (ap number_of h.1 ∙ read_back n h.0))
  where
    there : (x : Option ℕ) → number_of s ≡ x → field_numbers x ≡ 0 ∷ n ∷ [] → IsNumber s n
    there (Some m) e v =
        let same : m ≡ n = cc in
        let p = printed s n (e ∙ ap Some same) in
        (p.small, p.in-decimal)
    there None e v = let z : ◌≡◌ {A = ℕ} 0 1 = cc in absurd (omega arith)

-- 6 comes exactly where the bytes are no such number
pub six-exactly : (s : List ℕ) → (field_numbers (number_of s) ≡ 6 ∷ []) ↔ ((n : ℕ) → IsNumber s n → ⊥)
six-exactly s = (λ e n h. not-both n (sym ((value-exactly s n).1 h) ∙ e), λ none. go (number_of s) refl none)
  where
    not-both : (n : ℕ) → 0 ∷ n ∷ [] ≡ 6 ∷ [] → ⊥
    not-both n e = let z : ◌≡◌ {A = ℕ} 0 1 = cc in omega arith

    go : (x : Option ℕ) → number_of s ≡ x → ((n : ℕ) → IsNumber s n → ⊥) → field_numbers x ≡ 6 ∷ []
    go (Some m) e none = let p = printed s m e in absurd (none m (p.small, p.in-decimal))
    go None e none = refl
