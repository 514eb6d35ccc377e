-- Numbers of any size in decimal, and text written into a buffer.
use Rattle.std.specs.Prelude.{Bool, true, false, cond, ◌&&◌, List, [], ◌∷◌, ◌++◌, ◌↔◌, ◌≡◌, ℕ, zero, suc, ◌+◌, ◌*◌, ◌/◌, ◌%◌, ◌-◌, ◌^◌, ◌≤◌, ◌<◌, leb, ltb, length, take}
use Rattle.std.proofs.lemmas.List.Edits.{sets}
use Rattle.text.specs.Decimal.{is_digit, is_leading, digit_value, digit}

-- ---- the digits of a number

-- the digits of n, which has f or fewer: those of n / 10, then n % 10
abbrev pub digits_up_to : ℕ → ℕ → List ℕ
digits_up_to zero n = []
digits_up_to (suc f) n =
    let more : List ℕ = digits_up_to f (n / 10) ++ (digit (n % 10) ∷ []) in
    cond (ltb n 10) (digit n ∷ []) more

-- n has n + 1 digits or fewer
unfoldable pub decimal_of : ℕ → List ℕ
decimal_of n = digits_up_to (suc n) n

-- ---- which digits denote a number, by conditions on them

abbrev pub all_digits : List ℕ → Bool
all_digits [] = true
all_digits (d ∷ ds) = is_digit d && all_digits ds

-- the number that the digits go on to from m
abbrev pub value_after : ℕ → List ℕ → ℕ
value_after m [] = m
value_after m (d ∷ ds) = value_after (m * 10 + digit_value d) ds

-- one digit, or several with no zero in front
abbrev pub no_leading_zero : List ℕ → Bool
no_leading_zero [] = false
no_leading_zero (d ∷ []) = true
no_leading_zero (d ∷ e ∷ ds) = is_leading d

-- the digits ds are the number n as document 01 writes it, of any length
pub record IsDecimalOf (ds : List ℕ) (n : ℕ) : Type 0 where
  pub digits : all_digits ds ≡ true
  pub no-leading-zero : no_leading_zero ds ≡ true
  pub value : value_after 0 ds ≡ n

-- ---- text at a place of a buffer

-- the largest place that a machine word holds
abbrev pub top : ℕ
top = 2 ^ 64 - 1

-- the place after n bytes from place i on
abbrev pub place_after : ℕ → ℕ → ℕ
place_after i n = cond (leb (i + n) top) (i + n) top

-- the bytes xs were stored into l from place i on, those that l has places for, which left m; the place after all of them is j
pub record Wrote (l : List ℕ) (i : ℕ) (xs : List ℕ) (m : List ℕ) (j : ℕ) : Type 0 where
  pub list : m ≡ sets l i xs
  pub next : j ≡ place_after i (length xs)

-- the texts f k, f (k + 1) and so on, n of them, one after the other
abbrev pub parts_from : (ℕ → List ℕ) → ℕ → ℕ → List ℕ
parts_from f k zero = []
parts_from f k (suc n) = f k ++ parts_from f (k + 1) n

-- ---- a whole text

-- how its printing ended: its length, the length that is needed where the output is shorter, or the number of a refusal
pub data Written : Type 0 where
  Text : ℕ → Written
  Short : ℕ → Written
  Refused : ℕ → Written

-- the number for the answer: `short` is that of an output shorter than needed, which each kind of text gives, 0 is none
abbrev pub written_number : ℕ → Written → ℕ
written_number short (Text n) = 0
written_number short (Short n) = short
written_number short (Refused k) = k

-- how long the text is; nothing is known of a refused one
abbrev pub written_length : Written → ℕ
written_length (Text n) = n
written_length (Short n) = n
written_length (Refused k) = 0

-- the answer, and the buffer after the writing
pub record Output : Type 0 where
  pub answer : Written
  pub out : List ℕ

abbrev pub output : Written → List ℕ → Output
output a l = record { answer = a; out = l }

-- the text xs into l from its start on; nothing is changed where it has no room, or where the refusal k is not 0
unfoldable pub whole_text : ℕ → List ℕ → List ℕ → Output
whole_text zero xs l = cond (leb (length xs) (length l)) (output (Text (length xs)) (sets l 0 xs)) (output (Short (length xs)) l)
whole_text (suc k) xs l = output (Refused (suc k)) l

-- what the number of an answer says of the text xs into l, where nothing refuses it; `short` is the number of an output shorter than needed
pub record NumberSays (number : Written → ℕ) (short : ℕ) (xs l : List ℕ) (o : Output) : Type 0 where
  pub is_short : (number o.answer ≡ short) ↔ (length l < length xs)
  pub is-written : (number o.answer ≡ 0) ↔ (length xs ≤ length l)
  -- the length that is needed, in both
  pub needed : written_length o.answer ≡ length xs
  -- the buffer begins with the text, or is as it was
  pub has_text : number o.answer ≡ 0 → take (length xs) o.out ≡ xs
  pub unchanged : number o.answer ≡ short → o.out ≡ l
