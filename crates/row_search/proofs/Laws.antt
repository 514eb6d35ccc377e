-- What is promised of the search for a command byte's row, in one place: for every page and every byte.
use mathlib.Core.Path.{◌≡◌, refl}
use mathlib.Core.Bool.{true, false, cond}
use mathlib.Core.List.{◌∷◌, map}
use Prim.Native.Nat.{ℕ, ◌+◌, ◌<◌}
use lib.ListN.{get_or, length}
use Rattle.registers.specs.Table.{rows, no_row, page_return, is_of, stands_in, row_at}
use Rattle.row_search.specs.declared.Page.{Page}
use Rattle.row_search.specs.Search.{held_in, rows_in, found, search_of, order, occurrences}
use Rattle.row_search.proofs.Looked.{return-at-once, found-at, found_nowhere, numbers_of, once-in-page}

module _ (p : Page) where
  -- the row is the first in the sheet's order that takes the byte in this page, whatever the order of the search
  pub same_row : (b : ℕ) → (search_of p b).row ≡ row_at (held_in p) b
  unfolding search_of
  same_row b = refl

  -- page return is found at once
  pub at_return : search_of p 1 ≡ found (get_or (order p) 0 21) 1
  at_return = return-at-once p

  -- a byte of the row at place k of the page's order, k from 0, is found there, whatever values it has: 1 and the place from 1, k + 1
  pub at_place :
      (b k : ℕ) → b < 256 → k < length (rows_in p) → is_of (get_or (rows_in p) k no_row) b ≡ true
      → search_of p b ≡ found (get_or (order p) (k + 1) 21) (1 + (k + 1))
  at_place = found-at p

  -- another byte is of no row: 1 and all of the page's rows
  pub at_none :
      (b : ℕ) → b < 256 → (b ≡ 1 → ⊥) → ((k : ℕ) → k < length (rows_in p) → is_of (get_or (rows_in p) k no_row) b ≡ false)
      → search_of p b ≡ found 21 (1 + length (rows_in p))
  at_none = found_nowhere p

  -- the numbers of the order are these rows' places in the table
  pub numbers-right : map (λ (i : ℕ). get_or rows i no_row) (order p) ≡ page_return ∷ rows_in p
  numbers-right = numbers_of p

  -- the rows that are looked at are the page's, each once, and no other's; no row is listed as one that can't be read, so none is left out
  pub each-once : (i : ℕ) → i < 21 → occurrences i (order p) ≡ cond (stands_in (get_or rows i no_row) (held_in p)) 1 0
  each-once = once-in-page p
