-- The lines of the listing, place by place, and how long the texts are at most.
use mathlib.Core.Path.{◌≡◌, refl, ap}
use mathlib.Core.Bool.{Bool, true, false, cond}
use mathlib.Core.List.{List, [], ◌∷◌, ◌++◌, append-nil}
use Prim.Native.Nat.{ℕ, ◌+◌, ◌/◌, ◌%◌, ◌^◌, ◌≤◌, ◌<◌}
use native.Mathlib.Omega.{arith}
use lib.ListN.{length, get_or, length-append}
use Rattle.registers.specs.State.{places}
use Rattle.print.specs.Printed.{decimal_of, parts_from}
use Rattle.print.proofs.Chosen.{chosen-parts}
use Rattle.print.proofs.Digits.{decimal-bound}
use Rattle.print.proofs.Writing.{parts-bound}
use Rattle.listing.specs.Listing.{cell, cell_at, is_written, cells_of, header, cell_text, cells_text, line_at, listing_of, refused_of}

module _ (memory writers : List ℕ) where
  pub listing-parts : header ++ parts_from (line_at memory writers) 0 places ≡ listing_of memory writers
  unfolding listing_of cells_of
  listing-parts = ap (λ (l : List ℕ). header ++ l) (chosen-parts (is_written writers) (cell_at memory writers) cell_text places 0)

-- ---- how long

abbrev pub Bounded : ℕ → List ℕ → Type 0
Bounded b l = (k : ℕ) → get_or l k 0 < b

cell-length : (a b c d : List ℕ) → length ((a ++ 9 ∷ (b ++ 9 ∷ (c ++ 9 ∷ d))) ++ (10 ∷ [])) ≡ length a + length b + length c + length d + 4
cell-length a b c d = simp length-append (omega arith)

cell-bound : (c b v n : ℕ) → c < 10 ^ 3 → b < 10 ^ 2 → v < 10 ^ 3 → n < 10 ^ 20 → length (cell_text (cell c b v n)) ≤ 32
cell-bound c b v n hc hb hv hn =
    omega (
      arith,
      cell-length (decimal_of c) (decimal_of b) (decimal_of v) (decimal_of n),
      decimal-bound 2 c hc,
      decimal-bound 1 b hb,
      decimal-bound 2 v hv,
      decimal-bound 19 n hn,
    )

module _ (memory writers : List ℕ) (hm : Bounded (2 ^ 8) memory) (hw : Bounded (2 ^ 64) writers) where
  line-bound : (k : ℕ) → k < places → length (line_at memory writers k) ≤ 32
  line-bound k h = go (is_written writers k)
    where
      go : (t : Bool) → length (cells_text (cond t (cell_at memory writers k ∷ []) [])) ≤ 32
      go true =
          rw (append-nil (cell_text (cell_at memory writers k)))
          (cell-bound (k % 101) (k / 101) (get_or memory k 0) (get_or writers k 0) (omega arith) (omega arith) (omega (arith, hm k)) (omega (arith, hw k)))
      go false = omega arith

  -- the header's 23 bytes, and 32 for each cell: three digits of column, two of bank, three of the byte and twenty of the event
  pub listing-bound : length (listing_of memory writers) ≤ 54967
  listing-bound = rw (← listing-parts memory writers) (go places refl)
    where
      go : (n : ℕ) → n ≡ places → length (header ++ parts_from (line_at memory writers) 0 n) ≤ 54967
      go n e =
          omega (
            arith,
            length-append header (parts_from (line_at memory writers) 0 n),
            parts-bound (line_at memory writers) 32 places line-bound n 0 (omega arith),
          )

-- the word and its tab, what tells the file, at most twenty digits, and the newline
pub refused-bound : (file : List ℕ) (n : ℕ) → n < 10 ^ 20 → length (refused_of file n) ≤ length file + 29
unfolding refused_of
refused-bound file n h = omega (arith, length-append (file ++ decimal_of n) (10 ∷ []), length-append file (decimal_of n), decimal-bound 19 n h)
