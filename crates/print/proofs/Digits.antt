-- The digits of a number: one by one, that they denote it and no others do, how many there are, and that the short numbers of lists are printed so too.
use mathlib.Core.Path.{◌≡◌, refl, sym, ap, ◌∙◌}
use mathlib.Core.Bool.{true}
use mathlib.Core.List.{List, [], ◌∷◌, ◌++◌, append_assoc, append-nil}
use Prim.Native.Nat.{ℕ, zero, suc, ◌+◌, ◌*◌, ◌/◌, ◌%◌, ◌^◌, ◌≤◌, ◌<◌}
use native.Mathlib.Decide.{dec_lt}
use native.Mathlib.Omega.{arith}
use borrow.Author.Tests.{lt-ltb, le-ltb, ne_eqb}
use lib.ListN.{length, length-append}
use Rattle.text.specs.Text.{count_of}
use Rattle.text.specs.Decimal.{is_digit, is_leading, digit_value, digit, decimal}
use Rattle.text.proofs.Numbers.{and_both, digit-bounds, leading-bounds, bounds-leading}
use Rattle.text.proofs.Printing.{is_digit_lem}
use Rattle.print.specs.Printed.{digits_up_to, decimal_of, all_digits, value_after, no_leading_zero, IsDecimalOf}

-- ---- one digit, or one more than n / 10 has

one-digit : (f n : ℕ) → n < 10 → digits_up_to (suc f) n ≡ digit n ∷ []
one-digit f n h = rw (lt-ltb n 10 h)

one_more : (f n : ℕ) → 10 ≤ n → digits_up_to (suc f) n ≡ digits_up_to f (n / 10) ++ (digit (n % 10) ∷ [])
one_more f n h = rw (le-ltb n 10 h)

same_digits : (f g n : ℕ) → n < f → n < g → digits_up_to f n ≡ digits_up_to g n
same_digits zero g n hf hg = absurd (omega arith)
same_digits (suc f) zero n hf hg = absurd (omega arith)
same_digits (suc f) (suc g) n hf hg = go (dec_lt n 10) (same_digits f g (n / 10))
  where
    go : Dec (n < 10) → (n / 10 < f → n / 10 < g → digits_up_to f (n / 10) ≡ digits_up_to g (n / 10)) → digits_up_to (suc f) n ≡ digits_up_to (suc g) n
    go (yes l) rest = one-digit f n l ∙ sym (one-digit g n l)
    go (no m) rest =
        one_more f n (omega arith)
        ∙ ap (λ (ds : List ℕ). ds ++ (digit (n % 10) ∷ [])) (rest (omega arith) (omega arith))
        ∙ sym (one_more g n (omega arith))

pub decimal-one : (n : ℕ) → n < 10 → decimal_of n ≡ digit n ∷ []
unfolding decimal_of
decimal-one n h = one-digit n n h

pub decimal-more : (n : ℕ) → 10 ≤ n → decimal_of n ≡ decimal_of (n / 10) ++ (digit (n % 10) ∷ [])
unfolding decimal_of
decimal-more n h =
    one_more n n h ∙ ap (λ (ds : List ℕ). ds ++ (digit (n % 10) ∷ [])) (same_digits n (suc (n / 10)) (n / 10) (omega arith) (omega arith))

-- what holds of one digit, and of n if of n / 10, holds of every number
pub by-tens : (P : ℕ → Type 0) → ((n : ℕ) → n < 10 → P n) → ((n : ℕ) → 10 ≤ n → P (n / 10) → P n) → (n : ℕ) → P n
by-tens P one more n = go (suc n) n (omega arith)
  where
    go : (f n : ℕ) → n < f → P n
    go zero n h = absurd (omega arith)
    go (suc f) n h = pick (dec_lt n 10) (go f (n / 10))
      where
        pick : Dec (n < 10) → (n / 10 < f → P (n / 10)) → P n
        pick (yes l) rest = one n l
        pick (no m) rest = more n (omega arith) (rest (omega arith))

-- ---- they denote the number

all_append : (xs ys : List ℕ) → all_digits xs ≡ true → all_digits ys ≡ true → all_digits (xs ++ ys) ≡ true
all_append [] ys hx hy = hy
all_append (x ∷ xs) ys hx hy =
    let both = and_both (is_digit x) (all_digits xs) hx in
    rw both.0 (all_append xs ys both.1 hy)

value-append : (m : ℕ) (xs ys : List ℕ) → value_after m (xs ++ ys) ≡ value_after (value_after m xs) ys
value-append m [] ys = refl
value-append m (x ∷ xs) ys = value-append (m * 10 + digit_value x) xs ys

-- a digit that leads still leads with digits after it
led-append : (d : ℕ) (ds : List ℕ) (e : ℕ) → is_leading d ≡ true → no_leading_zero ((d ∷ ds) ++ (e ∷ [])) ≡ true
led-append d [] e h = h
led-append d (x ∷ ds) e h = h

-- of a number above 0 the first digit leads
data Led : List ℕ → Type 0 where
  led : {d : ℕ} {ds : List ℕ} → is_leading d ≡ true → Led (d ∷ ds)

more-led : (xs : List ℕ) (e : ℕ) → Led xs → (Led (xs ++ (e ∷ []))) × (no_leading_zero (xs ++ (e ∷ [])) ≡ true)
more-led xs e (led {d} {ds} h) = (led h, led-append d ds e h)

decimal-led : (n : ℕ) → 0 < n → Led (decimal_of n)
decimal-led =
    by-tens (λ n. 0 < n → Led (decimal_of n))
    (λ n h p. rw (decimal-one n h) (led (bounds-leading (digit n) (omega arith) (omega arith))))
    (λ n h rest p. rw (decimal-more n h) (more-led (decimal_of (n / 10)) (digit (n % 10)) (rest (omega arith))).0)

pub decimal-denotes : (n : ℕ) → IsDecimalOf (decimal_of n) n
decimal-denotes =
    by-tens (λ n. IsDecimalOf (decimal_of n) n)
    (λ n h. rw (decimal-one n h) (record { digits = rw (is_digit_lem n h); no-leading-zero = refl; value = omega arith }))
    (λ n h rest. rw (decimal-more n h) (record {
      digits = all_append (decimal_of (n / 10)) (digit (n % 10) ∷ []) rest.digits (rw (is_digit_lem (n % 10) (omega arith)));
      no-leading-zero = (more-led (decimal_of (n / 10)) (digit (n % 10)) (decimal-led (n / 10) (omega arith))).1;
      value = value-append 0 (decimal_of (n / 10)) (digit (n % 10) ∷ []) ∙ rw rest.value (omega arith);
    }))

-- ---- and no others do

-- digits written after a number above 0
decimal-append : (m : ℕ) (ds : List ℕ) → 0 < m → all_digits ds ≡ true → decimal_of (value_after m ds) ≡ decimal_of m ++ ds
decimal-append m [] p h = sym (append-nil (decimal_of m))
decimal-append m (d ∷ ds) p h =
    let both = and_both (is_digit d) (all_digits ds) h in
    let bounds = digit-bounds d both.0 in
    let front : (m * 10 + digit_value d) / 10 ≡ m = omega arith in
    let last : digit ((m * 10 + digit_value d) % 10) ≡ d = omega arith in
    let one_more : decimal_of (m * 10 + digit_value d) ≡ decimal_of m ++ (d ∷ []) = decimal-more (m * 10 + digit_value d) (omega arith) ∙ rw (front, last) in
    decimal-append (m * 10 + digit_value d) ds (omega arith) both.1
    ∙ ap (λ (l : List ℕ). l ++ ds) one_more
    ∙ append_assoc (decimal_of m) (d ∷ []) ds

pub denotes-decimal : (ds : List ℕ) (n : ℕ) → IsDecimalOf ds n → ds ≡ decimal_of n
denotes-decimal [] n s = let z : ◌≡◌ {A = ℕ} 0 1 = cc s.no-leading-zero in absurd (omega arith)
denotes-decimal (d ∷ []) n s =
    let bounds = digit-bounds d (and_both (is_digit d) true s.digits).0 in
    let same : digit (digit_value d) ≡ d = omega arith in
    let value : digit_value d ≡ n = omega (arith, s.value) in
    rw (← value) (sym (decimal-one (digit_value d) (omega arith) ∙ rw same))
denotes-decimal (d ∷ e ∷ ds) n s =
    let bounds = leading-bounds d s.no-leading-zero in
    let same : digit (digit_value d) ≡ d = omega arith in
    let from : value_after (digit_value d) (e ∷ ds) ≡ n = ap (λ (m : ℕ). value_after m (e ∷ ds)) (omega arith) ∙ s.value in
    let rest : all_digits (e ∷ ds) ≡ true = (and_both (is_digit d) (all_digits (e ∷ ds)) s.digits).1 in
    sym (ap decimal_of (sym from) ∙ decimal-append (digit_value d) (e ∷ ds) (omega arith) rest ∙ rw (decimal-one (digit_value d) (omega arith), same))

-- ---- how many

pub decimal-bound : (k n : ℕ) → n < 10 ^ suc k → length (decimal_of n) ≤ suc k
decimal-bound zero n h = rw (decimal-one n h) (omega arith)
decimal-bound (suc k) n h = go (dec_lt n 10) (decimal-bound k (n / 10))
  where
    go : Dec (n < 10) → (n / 10 < 10 ^ suc k → length (decimal_of (n / 10)) ≤ suc k) → length (decimal_of n) ≤ suc (suc k)
    go (yes l) rest = rw (decimal-one n l) (omega arith)
    go (no m) rest =
        let fewer = rest (omega arith) in
        rw (decimal-more n (omega arith)) (omega (arith, length-append (decimal_of (n / 10)) (digit (n % 10) ∷ [])))

-- ---- a byte that is no digit is not among them, so that it can part numbers

digits-free : (b : ℕ) (ds : List ℕ) → b < 48 → all_digits ds ≡ true → count_of b ds ≡ 0
digits-free b [] l h = refl
digits-free b (d ∷ ds) l h =
    let both = and_both (is_digit d) (all_digits ds) h in
    let bounds = digit-bounds d both.0 in
    rw (ne_eqb d b (λ e. omega arith)) (digits-free b ds l both.1)

pub number-free : (b n : ℕ) → b < 48 → count_of b (decimal_of n) ≡ 0
number-free b n l = digits-free b (decimal_of n) l (decimal-denotes n).digits

-- ---- the short numbers of lists

pub decimal-short : (n : ℕ) → n < 1000 → decimal_of n ≡ decimal n
decimal-short n h = go (dec_lt n 10) (dec_lt n 100)
  where
    go : Dec (n < 10) → Dec (n < 100) → decimal_of n ≡ decimal n
    go (yes l) d = decimal-one n l ∙ sym (rw (lt-ltb n 10 l))
    go (no m) (yes l) =
        decimal-more n (omega arith) ∙ rw (decimal-one (n / 10) (omega arith)) (sym (rw (le-ltb n 10 (omega arith), lt-ltb n 100 l)))
    go (no m) (no k) =
        let hundreds : n / 10 / 10 ≡ n / 100 = omega arith in
        decimal-more n (omega arith)
        ∙ rw (decimal-more (n / 10) (omega arith), decimal-one (n / 10 / 10) (omega arith), hundreds)
        (sym (rw (le-ltb n 10 (omega arith), le-ltb n 100 (omega arith))))
