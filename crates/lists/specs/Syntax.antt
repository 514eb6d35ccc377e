-- The syntax of a line, the other way round from `line_of`: what a line can be made of, how it is printed, and within which limits it is
-- accepted. proofs/Laws.antt holds `line_of` against it: which lines are accepted, and exactly when 6, 7 and 8 come.
use Rattle.std.specs.Prelude.{false, List, [], ◌∷◌, ◌≡◌, ℕ, ◌≤◌, ◌<◌, get_or}
use Rattle.registers.specs.Unreadable.{row_unreadable}
use Rattle.registers.specs.Places.{H, X, Y, GR}
use Rattle.registers.specs.Record.{names, limits}
use Rattle.text.specs.Decimal.{decimal}
use Rattle.text.specs.Text.{bytes, join}
use Rattle.lists.specs.declared.Line.{Line}
use Rattle.lists.specs.declared.Line.TheVariants.{Fill, Set}

pub data Syntax : Type 0 where
  put : (column bank byte : ℕ) → Syntax
  fill : (c0 c1 b0 b1 byte : ℕ) → Syntax
  -- a field by the place of its register
  set : (field value : ℕ) → Syntax

-- ---- how it is printed

-- word and fields with one tab between any two
abbrev pub tabbed : List (List ℕ) → List ℕ
tabbed = join 9

unfoldable pub print : Syntax → List ℕ
print (put c b n) = tabbed (bytes "put" ∷ decimal c ∷ decimal b ∷ decimal n ∷ [])
print (fill c0 c1 b0 b1 n) = tabbed (bytes "fill" ∷ decimal c0 ∷ decimal c1 ∷ decimal b0 ∷ decimal b1 ∷ decimal n ∷ [])
print (set f n) = tabbed (bytes "set" ∷ get_or names f [] ∷ decimal n ∷ [])

-- a register that a `set` line can name: not the page, not the address, not the number of the grey register
pub record Field (f : ℕ) : Type 0 where
  pub place : f < 29
  pub not_h : f ≡ H → ⊥
  pub not_x : f ≡ X → ⊥
  pub not_y : f ≡ Y → ⊥
  pub not_gr : f ≡ GR → ⊥

-- numbers of at most three digits, and a field that there is
unfoldable pub WellFormed : Syntax → Type 0
WellFormed (put c b n) = (c < 1000) × (b < 1000) × (n < 1000)
WellFormed (fill c0 c1 b0 b1 n) = (c0 < 1000) × (c1 < 1000) × (b0 < 1000) × (b1 < 1000) × (n < 1000)
WellFormed (set f n) = Field f × (n < 1000)

-- a line parses if it is the print of something well formed
pub record Parses (p : List ℕ) : Type 0 where
  pub syntax : Syntax
  pub well_formed : WellFormed syntax
  pub printed : p ≡ print syntax

-- ---- what it asks for, and within which limits

unfoldable pub as_line : Syntax → Line
as_line (put c b n) = Fill c c b b n
as_line (fill c0 c1 b0 b1 n) = Fill c0 c1 b0 b1 n
as_line (set f n) = Set f n

-- a rectangle of cells, and a byte that each of them can hold
pub record ValidFill (c0 c1 b0 b1 n : ℕ) : Type 0 where
  pub columns : c0 ≤ c1
  pub last_column : c1 ≤ 100
  pub banks : b0 ≤ b1
  pub last_bank : b1 ≤ 16
  pub byte : n ≤ 255
  pub six_bits : b1 ≡ 16 → n ≤ 63

unfoldable pub InRange : Syntax → Type 0
InRange (put c b n) = ValidFill c c b b n
InRange (fill c0 c1 b0 b1 n) = ValidFill c0 c1 b0 b1 n
InRange (set f n) = n ≤ get_or limits f 0

-- a `set` needs a row that can be read
unfoldable pub RowReadable : Syntax → Type 0
RowReadable (put c b n) = Unit {0}
RowReadable (fill c0 c1 b0 b1 n) = Unit {0}
RowReadable (set f n) = row_unreadable f ≡ false

-- the same limits, of a line: a register that can be named, whose row can be read, and a value of its width
pub record ValidSet (f n : ℕ) : Type 0 where
  pub field : Field f
  pub value : n ≤ get_or limits f 0
  pub readable : row_unreadable f ≡ false

unfoldable pub Valid : Line → Type 0
Valid (Fill c0 c1 b0 b1 n) = ValidFill c0 c1 b0 b1 n
Valid (Set f n) = ValidSet f n

unfoldable pub AllValid : List Line → Type 0
AllValid [] = Unit {0}
AllValid (l ∷ ls) = Valid l × AllValid ls

-- ---- when a line is accepted as l, and when each refusal comes

pub record AcceptedAs (p : List ℕ) (l : Line) : Type 0 where
  pub parses : Parses p
  pub in-range : InRange parses.syntax
  pub readable : RowReadable parses.syntax
  pub line : l ≡ as_line parses.syntax

-- 6
abbrev pub Malformed : List ℕ → Type 0
Malformed p = Parses p → ⊥

-- 7
abbrev pub OutOfRange : List ℕ → Type 0
OutOfRange p = (l : Parses p) × (InRange l.syntax → ⊥)

-- 8: in range, for a row that can't be read
abbrev pub RowUnreadable : List ℕ → Type 0
RowUnreadable p = (l : Parses p) × InRange l.syntax × (RowReadable l.syntax → ⊥)
