-- How many rows are looked at, by the place of the row that takes the byte: computed for each page and every byte.
use mathlib.Core.Path.{◌≡◌, refl}
use mathlib.Core.Bool.{Bool, true, false, not, cond, ◌||◌}
use mathlib.Core.List.{List, [], ◌∷◌, map}
use Prim.Native.Nat.{ℕ, suc, ◌+◌, ◌<◌}
use native.Mathlib.Omega.{arith}
use borrow.Author.Tests.{ne_eqb}
use lib.Dec.{T, eqb, eqb→eq}
use lib.ListN.{get_or, length}
use Rattle.registers.specs.Table.{Row, rows, no_row, page_return, is_of, stands_in, row_at}
use Rattle.registers.proofs.Below.{all_below, below_at}
use Rattle.row_search.specs.declared.Found.{Found}
use Rattle.row_search.specs.declared.Page.{Page}
use Rattle.row_search.specs.declared.Page.TheVariants.{Function, Display, Generator, Grey, Special}
use Rattle.row_search.specs.Search.{held_in, rows_in, found, search_of, order, occurrences}
use Rattle.row_search.proofs.Finding.{same_found, same-found}

-- the row at place k of the page's order, from 0, page return left out
abbrev row_at_place : Page → ℕ → Row
row_at_place p k = get_or (rows_in p) k no_row

-- ---- page return

pub return-at-once : (p : Page) → search_of p 1 ≡ found (get_or (order p) 0 21) 1
unfolding search_of row_at
return-at-once Function = refl
return-at-once Display = refl
return-at-once Generator = refl
return-at-once Grey = refl
return-at-once Special = refl

-- ---- a row of the page takes the byte

abbrev found_at : Page → ℕ → Found
found_at p k = found (get_or (order p) (k + 1) 21) (1 + (k + 1))

abbrev at_place : Page → ℕ → ℕ → Bool
at_place p k b = not (is_of (row_at_place p k) b) || same_found (search_of p b) (found_at p k)

all-at-place : (p : Page) → T (all_below (length (rows_in p)) (λ k. all_below 256 (at_place p k)))
unfolding search_of row_at
all-at-place Function = tt
all-at-place Display = tt
all-at-place Generator = tt
all-at-place Grey = tt
all-at-place Special = tt

pub found-at :
    (p : Page) (b k : ℕ) → b < 256 → k < length (rows_in p) → is_of (row_at_place p k) b ≡ true
    → search_of p b ≡ found (get_or (order p) (k + 1) 21) (1 + (k + 1))
found-at p b k byte l taken =
    same-found (search_of p b) (found_at p k)
    (rw taken at (below_at 256 (at_place p k) (below_at (length (rows_in p)) (λ k. all_below 256 (at_place p k)) (all-at-place p) k l) b byte))

-- ---- none does

abbrev any_takes : ℕ → List Row → Bool
any_takes b [] = false
any_takes b (w ∷ ws) = is_of w b || any_takes b ws

none-takes : (b : ℕ) (ws : List Row) → ((k : ℕ) → k < length ws → is_of (get_or ws k no_row) b ≡ false) → any_takes b ws ≡ false
none-takes b [] none = refl
none-takes b (w ∷ ws) none = rw (none 0 (omega arith), none-takes b ws (λ k l. none (suc k) (omega arith)))

abbrev at_none : Page → ℕ → Bool
at_none p b = eqb b 1 || (any_takes b (rows_in p) || same_found (search_of p b) (found 21 (1 + length (rows_in p))))

all-at-none : (p : Page) → T (all_below 256 (at_none p))
unfolding search_of row_at
all-at-none Function = tt
all-at-none Display = tt
all-at-none Generator = tt
all-at-none Grey = tt
all-at-none Special = tt

pub found_nowhere :
    (p : Page) (b : ℕ) → b < 256 → (b ≡ 1 → ⊥) → ((k : ℕ) → k < length (rows_in p) → is_of (row_at_place p k) b ≡ false)
    → search_of p b ≡ found 21 (1 + length (rows_in p))
found_nowhere p b byte other none =
    same-found (search_of p b) (found 21 (1 + length (rows_in p)))
    (rw (ne_eqb b 1 other, none-takes b (rows_in p) none) at (below_at 256 (at_none p) (all-at-none p) b byte))

-- ---- which rows are looked at

pub numbers_of : (p : Page) → map (λ (i : ℕ). get_or rows i no_row) (order p) ≡ page_return ∷ rows_in p
numbers_of Function = refl
numbers_of Display = refl
numbers_of Generator = refl
numbers_of Grey = refl
numbers_of Special = refl

abbrev once_in_page : Page → ℕ → Bool
once_in_page p i = eqb (occurrences i (order p)) (cond (stands_in (get_or rows i no_row) (held_in p)) 1 0)

all_once : (p : Page) → T (all_below 21 (once_in_page p))
all_once Function = tt
all_once Display = tt
all_once Generator = tt
all_once Grey = tt
all_once Special = tt

pub once-in-page : (p : Page) (i : ℕ) → i < 21 → occurrences i (order p) ≡ cond (stands_in (get_or rows i no_row) (held_in p)) 1 0
once-in-page p i l = eqb→eq _ _ (below_at 21 (once_in_page p) (all_once p) i l)
