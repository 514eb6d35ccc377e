-- Cells filled in the display memory: a rectangle of the address counter's X and Y.
use Rattle.std.specs.Prelude.{cond, List, ◌≡◌, ℕ, ◌+◌, ◌/◌, ◌%◌, ◌-◌, ◌≤◌, ◌<◌, eqb, get_or, length}

-- the column of an X, and the X of a column: with MX = 1 they run against each other
abbrev pub mirrored_by : ℕ → ℕ → ℕ
mirrored_by mx n = cond (eqb mx 1) (100 - n) n

-- place k lies in the rectangle of nx X-addresses from x on and ny banks from y on
pub record In (mx x nx y ny k : ℕ) : Type 0 where
  pub left : x ≤ mirrored_by mx (k % 101)
  pub right : mirrored_by mx (k % 101) < x + nx
  pub top : y ≤ k / 101
  pub bottom : k / 101 < y + ny

-- m' is m with b at the places that are inside
pub record Fills (Inside : ℕ → Type 0) (b : ℕ) (m m' : List ℕ) : Type 0 where
  pub same_length : length m' ≡ length m
  pub inside : (k : ℕ) → k < length m → Inside k → get_or m' k 0 ≡ b
  pub outside : (k : ℕ) → (Inside k → ⊥) → get_or m' k 0 ≡ get_or m k 0
