-- Document 01's tests of a copied row, computed over the whole table: no byte has two rows in its page, page return alone takes 00000001, no
-- row stands in a page above 4 or holds part of a field only, and no register is without a row. So none is listed as one that can't be read.
use mathlib.Core.Path.{◌≡◌, refl, ap}
use mathlib.Core.Bool.{Bool, true, false, not, ◌&&◌, ◌||◌}
use mathlib.Core.List.{List, [], ◌∷◌}
use mathlib.Core.Logic.{◌⊎◌, inl, inr, ⊎_elim, ⊎_map}
use Prim.Native.Nat.{ℕ, zero, suc, ◌+◌, ◌≤◌, ◌<◌}
use native.Mathlib.Nat.{le_of_suc-le-suc, not-suc-le-zero}
use native.Mathlib.Omega.{arith}
use lib.Dec.{T, leb, eqb, leb→le, eqb→eq}
use lib.ListN.{length, get_or}
use Rattle.registers.specs.Places.{GS0, GS3}
use Rattle.registers.specs.Table.{Target, Part, Row, rows, no_row, matches, matches_at, is_of, every_page, value}
use Rattle.registers.specs.Table.Target.{register, bounded, selected, unheld}
use Rattle.registers.specs.Data.{widths, parts_of}
use Rattle.registers.specs.Unreadable.{row_unreadable}
use Rattle.registers.proofs.Below.{all_below, below_at, same, same-eq}

-- One row at most

abbrev plus_one : Bool → ℕ → ℕ
plus_one true n = suc n
plus_one false n = n

-- how many of the rows pass a test
abbrev count : (Row → Bool) → List Row → ℕ
count f [] = 0
count f (w ∷ ws) = plus_one (f w) (count f ws)

abbrev one_at_most : ℕ → ℕ → Bool
one_at_most h b = leb (count (matches h b) rows) 1

-- every page and every byte
all_one : T (all_below 5 (λ h. all_below 256 (one_at_most h)))
all_one = tt

fewer : (t : Bool) (n k : ℕ) → plus_one t n ≤ k → n ≤ k
fewer true n k h = omega arith
fewer false n k h = h

module _ (f : Row → Bool) where
  none : (ws : List Row) (i : ℕ) → count f ws ≤ 0 → i < length ws → f (get_or ws i no_row) ≡ true → ⊥
  none [] i c l e = not-suc-le-zero l
  none (w ∷ ws) zero c l e = not-suc-le-zero (rw e at c)
  none (w ∷ ws) (suc i) c l e = none ws i (fewer (f w) _ 0 c) (le_of_suc-le-suc l) e

  same_row :
      (ws : List Row) (i j : ℕ) → count f ws ≤ 1 → i < length ws → j < length ws
      → f (get_or ws i no_row) ≡ true → f (get_or ws j no_row) ≡ true → i ≡ j
  same_row [] i j c l m d e = absurd (not-suc-le-zero l)
  same_row (w ∷ ws) zero zero c l m d e = refl
  same_row (w ∷ ws) zero (suc j) c l m d e = absurd (none ws j (le_of_suc-le-suc (rw d at c)) (le_of_suc-le-suc m) e)
  same_row (w ∷ ws) (suc i) zero c l m d e = absurd (none ws i (le_of_suc-le-suc (rw e at c)) (le_of_suc-le-suc l) d)
  same_row (w ∷ ws) (suc i) (suc j) c l m d e =
      ap suc (same_row ws i j (fewer (f w) _ 1 c) (le_of_suc-le-suc l) (le_of_suc-le-suc m) d e)

-- two different rows of one page never take the same byte
pub rows_apart : (h b i j : ℕ) → h ≤ 4 → b < 256 → i < 21 → j < 21 → matches_at i h b ≡ true → matches_at j h b ≡ true → i ≡ j
rows_apart h b i j lh lb =
    same_row (matches h b) rows i j
    (leb→le _ 1 (below_at 256 (one_at_most h) (below_at 5 (λ h. all_below 256 (one_at_most h)) all_one h (omega arith)) b lb))

-- Row by row

abbrev pub row_no : ℕ → Row
row_no i = get_or rows i no_row

either : (a b : Bool) → T (a || b) → T a ⊎ T b
either true b t = inl tt
either false b t = inr t

-- page return is row 1, and no other row of any page takes in 00000001
abbrev return_alone : ℕ → Bool
return_alone i = not (is_of (row_no i) 1) || eqb i 1

all-return : T (all_below 21 return_alone)
all-return = tt

pub return_alone_lem : (i : ℕ) → i < 21 → is_of (row_no i) 1 ≡ true → i ≡ 1
return_alone_lem i l e = eqb→eq i 1 (rw e at (below_at 21 return_alone all-return i l))

-- a row stands in one of the five pages or in all
abbrev in_page : ℕ → Bool
in_page i = leb (row_no i).page 4 || eqb (row_no i).page every_page

all-pages : T (all_below 21 in_page)
all-pages = tt

pub row-page : (i : ℕ) → i < 21 → ((row_no i).page ≤ 4) ⊎ ((row_no i).page ≡ every_page)
row-page i l =
    ⊎_map (leb→le _ 4) (eqb→eq _ every_page)
    (either (leb (row_no i).page 4) (eqb (row_no i).page every_page) (below_at 21 in_page all-pages i l))

-- how many bits a target takes: a register's are its width
abbrev pub bits_of : Target → ℕ
bits_of (register f) = get_or widths f 0
bits_of (bounded f) = get_or widths f 0
bits_of selected = get_or widths GS0 0
bits_of unheld = 1

abbrev pub whole : Part → Bool
whole p = eqb p.width (bits_of p.target)

abbrev pub all_whole : List Part → Bool
all_whole [] = true
all_whole (p ∷ ps) = whole p && all_whole ps

-- every part is its whole field; page return alone takes none of H's bits from the byte and sets H to 0
abbrev whole_fields : ℕ → Bool
whole_fields i = eqb i 1 || all_whole (row_no i).parts

all_whole_lem : T (all_below 21 whole_fields)
all_whole_lem = tt

pub whole_fields_lem : (i : ℕ) → i < 21 → (i ≡ 1 → ⊥) → T (all_whole (row_no i).parts)
whole_fields_lem i l d =
    ⊎_elim (λ t. absurd (d (eqb→eq i 1 t))) (λ t. t)
    (either (eqb i 1) (all_whole (row_no i).parts) (below_at 21 whole_fields all_whole_lem i l))

-- the parts lie below bit `top`, each below the one before it, and the code has 0 at their bits
abbrev pub laid_out : ℕ → ℕ → List Part → Bool
laid_out top code [] = true
laid_out top code (p ∷ ps) = leb (p.low + p.width) top && eqb (value p code) 0 && laid_out p.low code ps

abbrev row_laid_out : ℕ → Bool
row_laid_out i = laid_out 8 (row_no i).code (row_no i).parts

all_laid : T (all_below 21 row_laid_out)
all_laid = tt

pub laid_out_lem : (i : ℕ) → i < 21 → T (laid_out 8 (row_no i).code (row_no i).parts)
laid_out_lem i l = below_at 21 row_laid_out all_laid i l

-- Register by register

-- what a target sets, GR choosing among the grey registers
abbrev pub sets : ℕ → Target → Bool
sets f (register g) = eqb f g
sets f (bounded g) = eqb f g
sets f selected = leb GS0 f && leb f GS3
sets f unheld = false

-- one of the parts is the whole of register f
abbrev pub any_holds : ℕ → List Part → Bool
any_holds f [] = false
any_holds f (p ∷ ps) = whole p && sets f p.target || any_holds f ps

abbrev has_row : ℕ → Bool
has_row f = any_holds f (parts_of rows)

all_have : T (all_below 29 has_row)
all_have = tt

-- no register is without a row
pub has-row : (f : ℕ) → f < 29 → T (any_holds f (parts_of rows))
has-row f l = below_at 29 has_row all_have f l

-- the list of what can't be read has a register exactly where no row holds it whole
abbrev rightly_listed : ℕ → Bool
rightly_listed f = same (row_unreadable f) (not (has_row f))

all_listed : T (all_below 29 rightly_listed)
all_listed = tt

pub unreadable-exactly : (f : ℕ) → f < 29 → row_unreadable f ≡ not (any_holds f (parts_of rows))
unreadable-exactly f l = same-eq (row_unreadable f) (not (has_row f)) (below_at 29 rightly_listed all_listed f l)
