-- Answers that no definition of lines, texts or their reader may give, at chosen texts. Each is computed: a definition that gave one would
-- not have passed here.
use mathlib.Core.Path.{◌≡◌}
use mathlib.Core.List.{List, [], ◌∷◌}
use Prim.Native.Nat.{ℕ}
use native.Mathlib.Omega.{arith}
use Rattle.std.specs.Borrow.{Bor}
use Rattle.text.specs.Decimal.{number_of}
use Rattle.text.specs.Text.{bytes, find_of}
use Rattle.lists.specs.declared.Line.TheVariants.{Set}
use Rattle.lists.specs.Line.{numbers_of, line_of}
use Rattle.lists.specs.Lists.{faulty, lines, reading_from, reading_of, line_at, next_line, reader_at, line_here, past_line}

-- ---- one line

-- a put names its column first
pub bank-first : numbers_of (line_of (bytes "put\t5\t2\t167")) ≡ 0 ∷ 2 ∷ 2 ∷ 5 ∷ 5 ∷ 167 ∷ [] → ⊥
unfolding line_of number_of
bank-first e = let z : ◌≡◌ {A = ℕ} 0 1 = cc in omega arith

-- bank 16 has six bits
pub seven-bits : numbers_of (line_of (bytes "put\t0\t16\t64")) ≡ 0 ∷ 0 ∷ 0 ∷ 16 ∷ 16 ∷ 64 ∷ [] → ⊥
unfolding line_of number_of
seven-bits e = let z : ◌≡◌ {A = ℕ} 0 1 = cc in omega arith

-- a line with a malformed number is malformed, whatever its column
pub seven-before-six : numbers_of (line_of (bytes "put\t101\t0\tx")) ≡ 7 ∷ [] → ⊥
unfolding line_of number_of
seven-before-six e = let z : ◌≡◌ {A = ℕ} 0 1 = cc in omega arith

-- a value is not cut to a byte
pub cut-to-a-byte : numbers_of (line_of (bytes "set\tpd\t256")) ≡ 0 ∷ 2 ∷ 0 ∷ [] → ⊥
unfolding line_of number_of
cut-to-a-byte e = let z : ◌≡◌ {A = ℕ} 0 1 = cc in omega arith

-- a field is not its neighbour
pub dm-as-ec : numbers_of (line_of (bytes "set\tdm\t1")) ≡ 0 ∷ 27 ∷ 1 ∷ [] → ⊥
unfolding line_of number_of
dm-as-ec e = let z : ◌≡◌ {A = ℕ} 0 1 = cc in omega arith

-- gr is a register, and no field
pub gr-as-field : numbers_of (line_of (bytes "set\tgr\t1")) ≡ 0 ∷ 20 ∷ 1 ∷ [] → ⊥
unfolding line_of number_of
gr-as-field e = let z : ◌≡◌ {A = ℕ} 0 1 = cc in omega arith

-- ---- a text

-- a last line without newline is 6, whatever it holds
pub no-newline : reading_of (bytes "set\tv\t1") ≡ lines (Set 3 1 ∷ []) → ⊥
unfolding reading_of reading_from line_of number_of
no-newline e = let z : ◌≡◌ {A = ℕ} 0 1 = cc in omega arith

-- lines are counted from 1
pub from-0 : reading_of (bytes "set\tv\t2\n") ≡ faulty 7 0 → ⊥
unfolding reading_of reading_from line_of number_of
from-0 e = let z : ◌≡◌ {A = ℕ} 0 1 = cc in omega arith

abbrev two : List ℕ
two = bytes "put\t5\t2\t167\nset\tv\t1\n"

-- a line ends before its newline
pub newline-kept : numbers_of (line_at two 0).parsed ≡ 6 ∷ [] → ⊥
unfolding line_at find_of line_of number_of
newline-kept e = let z : ◌≡◌ {A = ℕ} 0 1 = cc in omega arith

-- the next line starts behind the newline, which is byte 11
pub next-stays : (line_at two 0).next ≡ 0 → ⊥
unfolding line_at next_line find_of
next-stays e = omega arith

pub next-at-newline : (line_at two 0).next ≡ 11 → ⊥
unfolding line_at next_line find_of
next-at-newline e = omega arith

-- ---- a reader of that text

module _ (b o : ℕ) where
  abbrev start : Bor (List ℕ)
  start = record { ref_ptr = (b, o); now = two }

  -- it reads from the first byte on
  pub starts-at-1 : numbers_of (line_here (reader_at start 0)).parsed ≡ 6 ∷ [] → ⊥
  unfolding line_at find_of line_of number_of
  starts-at-1 e = let z : ◌≡◌ {A = ℕ} 0 1 = cc in omega arith

  -- past the first line it gives the second, not the first again
  pub first-again : numbers_of (line_here (past_line (reader_at start 0))).parsed ≡ 0 ∷ 5 ∷ 5 ∷ 2 ∷ 2 ∷ 167 ∷ [] → ⊥
  unfolding line_at next_line find_of line_of number_of
  first-again e = let z : ◌≡◌ {A = ℕ} 0 1 = cc in omega arith

  -- past the second it is at the end
  pub past-one-only : (past_line (past_line (reader_at start 0))).at ≡ 12 → ⊥
  unfolding next_line find_of
  past-one-only e = omega arith
