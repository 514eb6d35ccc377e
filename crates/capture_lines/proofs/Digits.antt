-- An event line byte by byte: what is kept of it says which number its bytes are, if any.
use mathlib.Core.Path.{◌≡◌, refl, sym, subst, ◌∙◌}
use mathlib.Core.Bool.{Bool, true, false, cond, ◌&&◌}
use mathlib.Core.List.{List, [], ◌∷◌, ◌++◌}
use Prim.Native.Nat.{ℕ, ◌+◌, ◌*◌, ◌<◌, ◌≤◌}
use native.Mathlib.Omega.{arith}
use borrow.Author.Tests.{lt-ltb, le-ltb, leb-true, leb-false}
use lib.Dec.{T, leb, ltb}
use Rattle.std.specs.Prelude.{Some, None}
use Rattle.text.specs.Decimal.{is_digit, is_leading, digit_value, one_digit, two_digits, three_digits, number_of}
use Rattle.text.proofs.Numbers.{digit-bounds, leading-bounds, bounds-leading, leading-digit}
use Rattle.capture_lines.specs.declared.LineSoFar.TheVariants.{Number, Bad}
use Rattle.capture_lines.specs.SoFar.{with_byte, on_number, of_number, event_line}

of_test : (t : Bool) (n : ℕ) → cond t (Number n) Bad ≡ of_number (cond t (Some n) None)
of_test true n = refl
of_test false n = refl

-- ---- one digit more

-- behind a number of one or two digits that begins with no zero
taken : (n b k : ℕ) → 0 < n → n < 100 → n * 10 + digit_value b ≡ k → on_number n b ≡ of_number (cond (is_digit b) (Some k) None)
taken n b k l h e = rw (lt-ltb 0 n l, lt-ltb n 100 h, e) (of_test (is_digit b) k)

-- behind a zero, and behind three digits
refused-zero : (n b : ℕ) → n ≤ 0 → on_number n b ≡ Bad
refused-zero n b h = rw (le-ltb 0 n h)

refused-long : (n b : ℕ) → 100 ≤ n → on_number n b ≡ Bad
refused-long n b h = rw (le-ltb n 100 h) (never (ltb 0 n) (is_digit b))
  where
    never : (s t : Bool) → cond (s && false && t) (Number (n * 10 + digit_value b)) Bad ≡ Bad
    never true t = refl
    never false t = refl

second : (a b : ℕ) → with_byte (of_number (one_digit a)) b ≡ of_number (two_digits a b)
unfolding with_byte
second a b = go (is_digit a) refl (is_leading a) refl
  where
    go :
        (t : Bool) → is_digit a ≡ t → (l : Bool) → is_leading a ≡ l
        → with_byte (of_number (cond t (Some (digit_value a)) None)) b
        ≡ of_number (cond (l && is_digit b) (Some (digit_value a * 10 + digit_value b)) None)
    go false et true el = absurd (subst T (sym (leading-digit a el) ∙ et) tt)
    go false et false el = refl
    go true et true el =
        let bounds = leading-bounds a el in
        taken (digit_value a) b _ (omega arith) (omega arith) refl
    go true et false el = refused-zero (digit_value a) b (small (leb 49 a) refl)
      where
        small : (t : Bool) → leb 49 a ≡ t → digit_value a ≤ 0
        small true e = absurd (subst T (sym (bounds-leading a (leb-true 49 a e) (digit-bounds a et).1) ∙ el) tt)
        small false e = omega (arith, leb-false 49 a e)

third : (a b c : ℕ) → with_byte (of_number (two_digits a b)) c ≡ of_number (three_digits a b c)
unfolding with_byte
third a b c = go (is_leading a) refl (is_digit b) refl
  where
    go :
        (l : Bool) → is_leading a ≡ l → (t : Bool) → is_digit b ≡ t
        → with_byte (of_number (cond (l && t) (Some (digit_value a * 10 + digit_value b)) None)) c
        ≡ of_number (cond (l && t && is_digit c) (Some (digit_value a * 100 + digit_value b * 10 + digit_value c)) None)
    go false el t et = refl
    go true el false et = refl
    go true el true et =
        let first = leading-bounds a el in
        let next = digit-bounds b et in
        taken (digit_value a * 10 + digit_value b) c _ (omega arith) (omega arith) (omega arith)

fourth : (a b c d : ℕ) → with_byte (of_number (three_digits a b c)) d ≡ Bad
unfolding with_byte
fourth a b c d = go (is_leading a) refl (is_digit b) (is_digit c)
  where
    go :
        (l : Bool) → is_leading a ≡ l → (s t : Bool)
        → with_byte (of_number (cond (l && s && t) (Some (digit_value a * 100 + digit_value b * 10 + digit_value c)) None)) d ≡ Bad
    go false el s t = refl
    go true el false t = refl
    go true el true false = refl
    go true el true true =
        let first = leading-bounds a el in
        refused-long (digit_value a * 100 + digit_value b * 10 + digit_value c) d (omega arith)

-- what is kept of a line and one byte more
pub event-line-kept : (p : List ℕ) (b : ℕ) → with_byte (event_line p) b ≡ event_line (p ++ b ∷ [])
unfolding with_byte number_of
event-line-kept [] b = of_test (is_digit b) (digit_value b)
event-line-kept (a ∷ []) b = second a b
event-line-kept (a ∷ b ∷ []) c = third a b c
event-line-kept (a ∷ b ∷ c ∷ []) d = fourth a b c d
event-line-kept (a ∷ b ∷ c ∷ d ∷ p) e = refl
