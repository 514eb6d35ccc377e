-- Ways through the search, over plain variables.
use mathlib.Core.Path.{◌≡◌, sym, ap, ◌∙◌}
use mathlib.Core.List.{List, [], ◌∷◌}
use Prim.Native.Nat.{ℕ, suc, ◌+◌, ◌≤◌, ◌<◌}
use native.Mathlib.Nat.{zero-add, add-zero}
use native.Mathlib.Numerals.{add-one}
use native.Mathlib.Omega.{arith}
use borrow.Author.Tests.{eq-eqb, ne_eqb}
use lib.Bits.{bit_and}
use lib.ListN.{get_or, length, drop, drop_of_length-le}
use lib.Seq.{drop-cons}
use Rattle.registers.specs.Data.{codes, masks}
use Rattle.registers.specs.Table.{row_at}
use Rattle.row_search.specs.declared.Found.{Found}
use Rattle.row_search.specs.declared.Page.{Page}
use Rattle.row_search.specs.Search.{held_in, looked_at, found, search_of, order, fits, first_of, found_among}
use Rattle.row_search.proofs.Finding.{found_in, found-past}

-- rows are looked at one by one, k of them already: what the search comes to
pub looked_from : List ℕ → ℕ → ℕ → Found
looked_from ns b k = found (first_of b (drop k ns)) (k + looked_at (fits b) (drop k ns))

module _ (ns : List ℕ) (b : ℕ) where
  pub look-start : looked_from ns b 0 ≡ found_among ns b
  unfolding looked_from
  look-start = ap (λ (n : ℕ). found (first_of b ns) n) (zero-add _)

  -- i is the row at place k, m its mask and c its code
  module _ (k i m c : ℕ) (l : k < length ns) (row : i ≡ get_or ns k 0) (mask : m ≡ get_or masks i 0) (code : c ≡ get_or codes i 0) where
    pub look-here : bit_and b m ≡ c → found i (k + 1) ≡ looked_from ns b k
    unfolding looked_from
    look-here taken = rw (drop-cons ns k 0 l, ← row, ← mask, ← code, eq-eqb (bit_and b m) c taken)

    pub look-on : (bit_and b m ≡ c → ⊥) → looked_from ns b (k + 1) ≡ looked_from ns b k
    unfolding looked_from
    look-on left =
        rw (drop-cons ns k 0 l, ← row, ← mask, ← code, ne_eqb (bit_and b m) c left, add-one k)
        (ap (λ (n : ℕ). found (first_of b (drop (suc k) ns)) n) (omega arith))

  pub look-end : (k : ℕ) → length ns ≤ k → found 21 k ≡ looked_from ns b k
  unfolding looked_from
  look-end k l = rw (drop_of_length-le ns l, add-zero)

-- the page is q, and f what looking at its rows came to
pub found-in-page : (p q : Page) → p ≡ q → (b : ℕ) (f : Found) → b < 256 → f ≡ found_among (order q) b → f ≡ search_of p b
found-in-page p q at b f byte e = e ∙ found_in q b byte ∙ ap (λ (r : Page). search_of r b) (sym at)

-- a row by what H holds: f is what the search of the page gave
pub row-in-page : (p : Page) (h b : ℕ) (f : Found) → h ≡ held_in p → f ≡ search_of p b → f.row ≡ row_at h b
unfolding search_of
row-in-page p h b f held e = ap (λ (g : Found). g.row) e ∙ ap (λ (n : ℕ). row_at n b) (sym held)

pub row-past-pages : (h b : ℕ) (f : Found) → 4 < h → b < 256 → f ≡ found_among (1 ∷ 0 ∷ []) b → f.row ≡ row_at h b
row-past-pages h b f past byte e = ap (λ (g : Found). g.row) e ∙ found-past h b past byte
