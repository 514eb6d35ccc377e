-- Bytes are read as a number exactly if they are how that number is printed.
use mathlib.Core.Path.{◌≡◌, refl, sym, ◌∙◌}
use mathlib.Core.Bool.{Bool, true, false, cond, ◌&&◌}
use mathlib.Core.List.{List, [], ◌∷◌}
use Prim.Native.Nat.{ℕ, ◌+◌, ◌*◌, ◌/◌, ◌%◌, ◌≤◌, ◌<◌}
use native.Mathlib.Decide.{dec_lt}
use native.Mathlib.Omega.{arith}
use borrow.Author.Tests.{lt-ltb, le-ltb, ne_eqb}
use lib.Dec.{eqb, ltb}
use Rattle.std.specs.Prelude.{Some, None}
use Rattle.text.specs.Decimal.{is_digit, is_leading, digit_value, digit, one_digit, two_digits, three_digits, number_of, decimal}
use Rattle.text.specs.Text.{count_of}
use Rattle.text.proofs.Numbers.{and_both, digit-bounds, leading-bounds, bounds-digit, bounds-leading}

-- the three lengths of a printed number
decimal-one : (n : ℕ) → n < 10 → decimal n ≡ digit n ∷ []
decimal-one n h = rw (lt-ltb n 10 h)

decimal-two : (n : ℕ) → 10 ≤ n → n < 100 → decimal n ≡ digit (n / 10) ∷ digit (n % 10) ∷ []
decimal-two n l h = rw (le-ltb n 10 l, lt-ltb n 100 h)

decimal-three : (n : ℕ) → 100 ≤ n → decimal n ≡ digit (n / 100) ∷ digit (n / 10 % 10) ∷ digit (n % 10) ∷ []
decimal-three n l = rw (le-ltb n 10 (omega arith), le-ltb n 100 l)

-- ---- printed numbers are read back

value_read : (t : Bool) (m n : ℕ) → t ≡ true → m ≡ n → cond t (Some m) None ≡ Some n
value_read t m n e en = rw (e, en)

pub is_digit_lem : (n : ℕ) → n < 10 → is_digit (digit n) ≡ true
is_digit_lem n h = bounds-digit (digit n) (omega arith) (omega arith)

is_leading_lem : (n : ℕ) → 0 < n → n < 10 → is_leading (digit n) ≡ true
is_leading_lem n l h = bounds-leading (digit n) (omega arith) (omega arith)

read_one : (n : ℕ) → n < 10 → one_digit (digit n) ≡ Some n
read_one n h = value_read (is_digit (digit n)) (digit_value (digit n)) n (is_digit_lem n h) (omega arith)

read-two : (n : ℕ) → 10 ≤ n → n < 100 → two_digits (digit (n / 10)) (digit (n % 10)) ≡ Some n
read-two n l h =
    value_read (is_leading (digit (n / 10)) && is_digit (digit (n % 10))) (digit_value (digit (n / 10)) * 10 + digit_value (digit (n % 10))) n
    (rw (is_leading_lem (n / 10) (omega arith) (omega arith), is_digit_lem (n % 10) (omega arith)))
    (omega arith)

read-three : (n : ℕ) → 100 ≤ n → n < 1000 → three_digits (digit (n / 100)) (digit (n / 10 % 10)) (digit (n % 10)) ≡ Some n
read-three n l h =
    value_read (is_leading (digit (n / 100)) && is_digit (digit (n / 10 % 10)) && is_digit (digit (n % 10)))
    (digit_value (digit (n / 100)) * 100 + digit_value (digit (n / 10 % 10)) * 10 + digit_value (digit (n % 10))) n
    (rw (is_leading_lem (n / 100) (omega arith) (omega arith), is_digit_lem (n / 10 % 10) (omega arith), is_digit_lem (n % 10) (omega arith)))
    (omega arith)

pub read_back : (n : ℕ) → n < 1000 → number_of (decimal n) ≡ Some n
unfolding number_of
read_back n h = go (dec_lt n 10) (dec_lt n 100)
  where
    go : Dec (n < 10) → Dec (n < 100) → number_of (decimal n) ≡ Some n
    go (yes l) d = rw (decimal-one n l) (read_one n l)
    go (no m) (yes l) = rw (decimal-two n (omega arith) l) (read-two n (omega arith) l)
    go (no m) (no k) = rw (decimal-three n (omega arith)) (read-three n (omega arith) h)

-- ---- what is read was printed so

read-value : (t : Bool) (m n : ℕ) → cond t (Some m) None ≡ Some n → (t ≡ true) × (m ≡ n)
read-value true m n e = (refl, cc)
read-value false m n e = (cc, cc)

pub record Printed (s : List ℕ) (n : ℕ) : Type 0 where
  pub small : n < 1000
  pub in-decimal : s ≡ decimal n

printed-one : (a n : ℕ) → one_digit a ≡ Some n → Printed (a ∷ []) n
printed-one a n e =
    let read = read-value (is_digit a) (digit_value a) n e in
    let bounds = digit-bounds a read.0 in
    let at : digit n ≡ a = omega (arith, read.1) in
    record { small = omega (arith, read.1); in-decimal = sym (decimal-one n (omega (arith, read.1)) ∙ rw at) }

printed-two : (a b n : ℕ) → two_digits a b ≡ Some n → Printed (a ∷ b ∷ []) n
printed-two a b n e =
    let read = read-value (is_leading a && is_digit b) (digit_value a * 10 + digit_value b) n e in
    let tests = and_both (is_leading a) (is_digit b) read.0 in
    let ra = leading-bounds a tests.0 in
    let rb = digit-bounds b tests.1 in
    let ten : digit (n / 10) ≡ a = omega (arith, read.1) in
    let unit : digit (n % 10) ≡ b = omega (arith, read.1) in
    record { small = omega (arith, read.1); in-decimal = sym (decimal-two n (omega (arith, read.1)) (omega (arith, read.1)) ∙ rw (ten, unit)) }

printed-three : (a b c n : ℕ) → three_digits a b c ≡ Some n → Printed (a ∷ b ∷ c ∷ []) n
printed-three a b c n e =
    let read = read-value (is_leading a && is_digit b && is_digit c) (digit_value a * 100 + digit_value b * 10 + digit_value c) n e in
    let tests = and_both (is_leading a && is_digit b) (is_digit c) read.0 in
    let first = and_both (is_leading a) (is_digit b) tests.0 in
    let ra = leading-bounds a first.0 in
    let rb = digit-bounds b first.1 in
    let rc = digit-bounds c tests.1 in
    let hundred : digit (n / 100) ≡ a = omega (arith, read.1) in
    let ten : digit (n / 10 % 10) ≡ b = omega (arith, read.1) in
    let unit : digit (n % 10) ≡ c = omega (arith, read.1) in
    record { small = omega (arith, read.1); in-decimal = sym (decimal-three n (omega (arith, read.1)) ∙ rw (hundred, ten, unit)) }

no_number : (n : ℕ) → None ≡ Some n → ⊥
no_number n e = let z : ◌≡◌ {A = ℕ} 0 1 = cc in omega arith

pub printed : (s : List ℕ) (n : ℕ) → number_of s ≡ Some n → Printed s n
unfolding number_of
printed [] n e = absurd (no_number n e)
printed (a ∷ []) n e = printed-one a n e
printed (a ∷ b ∷ []) n e = printed-two a b n e
printed (a ∷ b ∷ c ∷ []) n e = printed-three a b c n e
printed (a ∷ b ∷ c ∷ d ∷ s) n e = absurd (no_number n e)

-- ---- only digits are printed

pub decimal-free : (x n : ℕ) → x < 48 → count_of x (decimal n) ≡ 0
decimal-free x n h = go (ltb n 10) (ltb n 100)
  where
    other : (d : ℕ) → eqb (digit d) x ≡ false
    other d = ne_eqb (digit d) x (λ e. omega arith)

    go :
        (s t : Bool)
        → count_of x (cond s (digit n ∷ []) (cond t (digit (n / 10) ∷ digit (n % 10) ∷ []) (digit (n / 100) ∷ digit (n / 10 % 10) ∷ digit (n % 10) ∷ []))) ≡ 0
    go true t = rw (other n)
    go false true = rw (other (n / 10), other (n % 10))
    go false false = rw (other (n / 100), other (n / 10 % 10), other (n % 10))
