-- The first line byte by byte: what is kept of it says which pins its bytes name, if any.
use mathlib.Core.Path.{◌≡◌, refl, sym, ap, ◌∙◌}
use mathlib.Core.Bool.{Bool, true, false, cond, ◌&&◌}
use mathlib.Core.List.{List, [], ◌∷◌, ◌++◌}
use Prim.Native.Nat.{ℕ, ◌+◌, ◌*◌, ◌<◌}
use native.Mathlib.Omega.{arith}
use borrow.Author.Tests.{lt-ltb, le-leb, lt-leb, leb-true, leb-false}
use lib.Dec.{eqb, leb}
use lib.ListN.{length, get_or, take, drop}
use Rattle.std.specs.Prelude.{Some, None}
use Rattle.text.specs.Decimal.{is_digit, is_leading, digit_value, one_digit, two_digits, three_digits, number_of}
use Rattle.text.specs.Text.{same_bytes}
use Rattle.text.proofs.Finding.{drop-next}
use Rattle.text.proofs.Numbers.{leading-bounds}
use Rattle.capture_lines.specs.declared.LineSoFar.{LineSoFar}
use Rattle.capture_lines.specs.declared.LineSoFar.TheVariants.{First, Pins, BadFirst}
use Rattle.capture_lines.specs.SoFar.{is_pins, with_byte, with_bytes, pins_in}
use Rattle.capture_lines.specs.Line.{word, as_pins, pins_of}

pub with-bytes-one : (l : LineSoFar) (p : List ℕ) (b : ℕ) → with_bytes l (p ++ b ∷ []) ≡ with_byte (with_bytes l p) b
with-bytes-one l [] b = refl
with-bytes-one l (x ∷ p) b = with-bytes-one (with_byte l x) p b

stays-bad : (p : List ℕ) → with_bytes BadFirst p ≡ BadFirst
unfolding with_byte
stays-bad [] = refl
stays-bad (b ∷ p) = stays-bad p

-- ---- the pins

-- two digits or three are no pins
long : (t : Bool) (n : ℕ) → 3 < n → as_pins (cond t (Some n) None) ≡ None
long true n h = rw (lt-leb n 3 h)
long false n h = refl

two-long : (a b : ℕ) → as_pins (two_digits a b) ≡ None
two-long a b = go (is_leading a) refl
  where
    go : (l : Bool) → is_leading a ≡ l → as_pins (cond (l && is_digit b) (Some (digit_value a * 10 + digit_value b)) None) ≡ None
    go false e = refl
    go true e = let bounds = leading-bounds a e in long (is_digit b) _ (omega arith)

three-long : (a b c : ℕ) → as_pins (three_digits a b c) ≡ None
three-long a b c = go (is_leading a) refl
  where
    go :
        (l : Bool) → is_leading a ≡ l
        → as_pins (cond (l && is_digit b && is_digit c) (Some (digit_value a * 100 + digit_value b * 10 + digit_value c)) None) ≡ None
    go false e = refl
    go true e = let bounds = leading-bounds a e in long (is_digit b && is_digit c) _ (omega arith)

longer : (a b : ℕ) (p : List ℕ) → as_pins (number_of (a ∷ b ∷ p)) ≡ None
unfolding number_of
longer a b [] = two-long a b
longer a b (c ∷ []) = three-long a b c
longer a b (c ∷ d ∷ p) = refl

-- a digit from 0 to 3 is
one : (d : ℕ) → pins_in (cond (is_pins d) (Pins (digit_value d)) BadFirst) ≡ as_pins (one_digit d)
one d = go (leb 48 d) refl (leb d 51) refl (leb d 57) refl
  where
    go :
        (l : Bool) → leb 48 d ≡ l → (t : Bool) → leb d 51 ≡ t → (u : Bool) → leb d 57 ≡ u
        → pins_in (cond (l && t) (Pins (digit_value d)) BadFirst) ≡ as_pins (cond (l && u) (Some (digit_value d)) None)
    go false el t et u eu = refl
    go true el true et true eu = rw (le-leb (digit_value d) 3 (omega (arith, leb-true d 51 et)))
    go true el true et false eu = absurd (omega (arith, leb-true d 51 et, leb-false d 57 eu))
    go true el false et true eu = rw (lt-leb (digit_value d) 3 (omega (arith, leb-false d 51 et)))
    go true el false et false eu = refl

digits : (p : List ℕ) → pins_in (with_bytes (First 5) p) ≡ as_pins (number_of p)
unfolding with_byte number_of
digits [] = refl
digits (d ∷ []) = one d
digits (d ∷ e ∷ p) = go (is_pins d) ∙ sym (longer d e p)
  where
    go : (t : Bool) → pins_in (with_bytes (with_byte (cond t (Pins (digit_value d)) BadFirst) e) p) ≡ None
    go true = ap pins_in (stays-bad p)
    go false = ap pins_in (stays-bad p)

-- ---- the word before them, of which w is left

awaited : (k b x : ℕ) → k < 5 → get_or word k 0 ≡ x → with_byte (First k) b ≡ cond (eqb b x) (First (k + 1)) BadFirst
unfolding with_byte
awaited k b x h e = rw (lt-ltb k 5 h, e)

word-left : (w : List ℕ) (k : ℕ) → drop k word ≡ w → k + length w ≡ 5 → (p : List ℕ)
    → pins_in (with_bytes (First k) p) ≡ cond (same_bytes (take (length w) p) w) (as_pins (number_of (drop (length w) p))) None
word-left [] k e l p = let five : k ≡ 5 = omega arith in rw five (digits p)
word-left (x ∷ w) k e l [] = refl
word-left (x ∷ w) k e l (b ∷ p) = go (eqb b x) refl (word-left w (k + 1) behind (omega arith) p)
  where
    here : get_or word k 0 ∷ drop (k + 1) word ≡ x ∷ w
    here = sym (drop-next word k (omega arith)) ∙ e

    next : get_or word k 0 ≡ x
    next = cc here

    behind : drop (k + 1) word ≡ w
    behind = cc here

    go :
        (t : Bool) → eqb b x ≡ t
        → pins_in (with_bytes (First (k + 1)) p) ≡ cond (same_bytes (take (length w) p) w) (as_pins (number_of (drop (length w) p))) None
        → pins_in (with_bytes (with_byte (First k) b) p)
        ≡ cond (t && same_bytes (take (length w) p) w) (as_pins (number_of (drop (length w) p))) None
    go true t rest = rw (awaited k b x (omega arith) next, t) rest
    go false t rest = rw (awaited k b x (omega arith) next, t) (ap pins_in (stays-bad p))

pub pins-kept : (p : List ℕ) → pins_in (with_bytes (First 0) p) ≡ pins_of p
unfolding pins_of
pins-kept p = word-left word 0 refl refl p
