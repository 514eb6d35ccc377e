-- Numbers as document 01 writes them: decimal, 1 to 3 digits, no leading zero but for 0 itself.
use Rattle.std.specs.Prelude.{Bool, cond, ◌&&◌, List, [], ◌∷◌, ℕ, ◌+◌, ◌*◌, ◌/◌, ◌%◌, ◌-◌, leb, ltb, Option, Some, None}

-- 0 to 9
abbrev pub is_digit : ℕ → Bool
is_digit x = leb 48 x && leb x 57

-- 1 to 9
abbrev pub is_leading : ℕ → Bool
is_leading x = leb 49 x && leb x 57

abbrev pub digit_value : ℕ → ℕ
digit_value x = x - 48

abbrev pub one_digit : ℕ → Option ℕ
one_digit a = cond (is_digit a) (Some (digit_value a)) None

abbrev pub two_digits : ℕ → ℕ → Option ℕ
two_digits a b = cond (is_leading a && is_digit b) (Some (digit_value a * 10 + digit_value b)) None

abbrev pub three_digits : ℕ → ℕ → ℕ → Option ℕ
three_digits a b c = cond (is_leading a && is_digit b && is_digit c) (Some (digit_value a * 100 + digit_value b * 10 + digit_value c)) None

unfoldable pub number_of : List ℕ → Option ℕ
number_of [] = None
number_of (a ∷ []) = one_digit a
number_of (a ∷ b ∷ []) = two_digits a b
number_of (a ∷ b ∷ c ∷ []) = three_digits a b c
number_of (a ∷ b ∷ c ∷ d ∷ rest) = None

-- document 01's number for the answer, then its value: a field that should be a number and is none makes its line malformed, 6; 0 is none
abbrev pub field_numbers : Option ℕ → List ℕ
field_numbers (Some n) = 0 ∷ n ∷ []
field_numbers None = 6 ∷ []

-- the other way: how a number below 1,000 is printed
abbrev pub digit : ℕ → ℕ
digit n = 48 + n

abbrev pub decimal : ℕ → List ℕ
decimal n =
    cond (ltb n 10) (digit n ∷ [])
    (cond (ltb n 100) (digit (n / 10) ∷ digit (n % 10) ∷ [])
    (digit (n / 100) ∷ digit (n / 10 % 10) ∷ digit (n % 10) ∷ []))
