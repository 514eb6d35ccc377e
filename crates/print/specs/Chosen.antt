-- A table's rows: what there is to say of the places that a test chooses, in rising order, a line each.
use Rattle.std.specs.Prelude.{Bool, true, cond, ◌≡◌, ℕ, zero, suc, ◌+◌, ◌≤◌, ◌<◌}
use mathlib.Core.List.{List, [], ◌∷◌, ◌++◌, Memᴰ}
use Rattle.text.specs.Text.{join}
use Rattle.print.specs.Printed.{decimal_of}

-- the row f k of place k, if the test t chooses it
abbrev pub chosen_at : {A : Type 0} → (ℕ → Bool) → (ℕ → A) → ℕ → List A
chosen_at t f k = cond (t k) (f k ∷ []) []

-- and so for n places from place k on
abbrev pub chosen_from : {A : Type 0} → (ℕ → Bool) → (ℕ → A) → ℕ → ℕ → List A
chosen_from t f k zero = []
chosen_from t f k (suc n) = chosen_at t f k ++ chosen_from t f (k + 1) n

-- the rows as text, one after the other
abbrev pub lines_of : {A : Type 0} → (A → List ℕ) → List A → List ℕ
lines_of text [] = []
lines_of text (x ∷ xs) = text x ++ lines_of text xs

-- fields parted by one tab, ended by a newline
abbrev pub line : List (List ℕ) → List ℕ
line fields = join 9 fields ++ (10 ∷ [])

-- a name and a number
abbrev pub named_line : List ℕ → ℕ → List ℕ
named_line name n = line (name ∷ decimal_of n ∷ [])

-- ---- which rows there are, and in which order

-- x is the row of a chosen place from `first` on and below `end`
pub record IsChosen {A : Type 0} (t : ℕ → Bool) (f : ℕ → A) (first end : ℕ) (x : A) : Type 0 where
  pub place : ℕ
  pub low : first ≤ place
  pub high : place < end
  pub chosen : t place ≡ true
  pub same : x ≡ f place

-- each row stands before all that follow it, so that none comes twice
abbrev pub InOrder : {A : Type 0} → (A → A → Type 0) → List A → Type 0
InOrder Before [] = Unit {0}
InOrder {A} Before (x ∷ xs) = ((y : A) → Memᴰ y xs → Before x y) × InOrder Before xs
