-- The fields of a row: those of its parts are those that the flat lists of the table have for it, in the same order.
use mathlib.Core.Bool.{Bool, true, false, cond}
use mathlib.Core.List.{List, [], ◌∷◌, ◌++◌, map, append_assoc, append-nil}
use mathlib.Core.Path.{◌≡◌, refl, sym, ap₂, ◌∙◌}
use Prim.Native.Nat.{ℕ, zero, suc, ◌+◌, ◌%◌, ◌^◌, ◌<◌}
use native.Mathlib.Nat.{zero-add, add-zero, add-suc, suc-add}
use native.Mathlib.Numerals.{add-one}
use native.Mathlib.Omega.{arith}
use borrow.Author.Tests.{eq-eqb, ne_eqb}
use lib.Dec.{eqb}
use lib.ListN.{get_or, drop, get_or-map}
use lib.Seq.{drop-cons}
use Rattle.registers.specs.declared.Registers.{Registers}
use Rattle.registers.specs.Data.{target_number, parts_of, owners_from, part_rows, place_of}
use Rattle.registers.specs.Places.{H}
use Rattle.registers.specs.Record.{values}
use Rattle.registers.specs.Table.{register, Part, part, Row, rows, no_row, above}
use Rattle.print.specs.Printed.{parts_from}
use Rattle.event_words.specs.Words.{field_words, fields_words}
use Rattle.event_words.specs.Fields.{named_field, field_at}

-- the fields of those of the parts ps, of the rows os, that are row i's
among : Registers → ℕ → ℕ → List ℕ → List Part → List ℕ
among r b i [] ps = []
among r b i (o ∷ os) [] = []
among r b i (o ∷ os) (p ∷ ps) = cond (eqb o i) (field_words r b p) [] ++ among r b i os ps

module _ (r : Registers) (b i : ℕ) where
  -- the parts of one row, then others
  among-row :
      (j : ℕ) (ps : List Part) (os : List ℕ) (qs : List Part)
      → among r b i (map (λ (p : Part). j) ps ++ os) (ps ++ qs) ≡ cond (eqb j i) (fields_words r b ps) [] ++ among r b i os qs
  unfolding among
  among-row j ps os qs = go (eqb j i) refl ps
    where
      go :
          (t : Bool) → eqb j i ≡ t → (ps : List Part)
          → among r b i (map (λ (p : Part). j) ps ++ os) (ps ++ qs) ≡ cond t (fields_words r b ps) [] ++ among r b i os qs
      go true e [] = refl
      go false e [] = refl
      go true e (p ∷ ps) = rw (e, go true e ps) (sym (append_assoc (field_words r b p) (fields_words r b ps) (among r b i os qs)))
      go false e (p ∷ ps) = rw (e, go false e ps)

  -- a row above i has none of its parts
  among_none : (ws : List Row) (j : ℕ) → i < j → among r b i (owners_from j ws) (parts_of ws) ≡ []
  unfolding among
  among_none [] j l = refl
  among_none (w ∷ ws) j l =
      among-row j w.parts (owners_from (suc j) ws) (parts_of ws)
      ∙ rw (ne_eqb j i (λ e. omega arith), among_none ws (suc j) (omega arith))

module _ (r : Registers) (b : ℕ) where
  among-at : (ws : List Row) (i j : ℕ) → among r b (j + i) (owners_from j ws) (parts_of ws) ≡ fields_words r b (get_or ws i no_row).parts
  unfolding among
  among-at [] i j = refl
  among-at (w ∷ ws) zero j =
      among-row r b (j + 0) j w.parts (owners_from (suc j) ws) (parts_of ws)
      ∙ rw (eq-eqb j (j + 0) (omega arith), among_none r b (j + 0) ws (suc j) (omega arith), append-nil)
  among-at (w ∷ ws) (suc i) j =
      among-row r b (j + suc i) j w.parts (owners_from (suc j) ws) (parts_of ws)
      ∙ rw (ne_eqb j (j + suc i) (λ e. omega arith), add-suc, ← suc-add) (among-at ws i (suc j))

  abbrev no_part : Part
  no_part = part (register H) 0 0

  -- part k of the flat lists
  field_of : (i k : ℕ) → field_at r b i k ≡ cond (eqb (get_or part_rows k 0) i) (field_words r b (get_or (parts_of rows) k no_part)) []
  field_of i k =
      ap₂ (λ (place n : ℕ). cond (eqb (get_or part_rows k 0) i) (named_field (place_of place (values r)) n) [])
      (get_or-map (λ (p : Part). target_number p.target) (parts_of rows) k no_part)
      (ap₂ (λ (l w : ℕ). above l b % 2 ^ w)
      (get_or-map (λ (p : Part). p.low) (parts_of rows) k no_part) (get_or-map (λ (p : Part). p.width) (parts_of rows) k no_part))

  along : (i n k : ℕ) → k + n ≡ 29 → parts_from (field_at r b i) k n ≡ among r b i (drop k part_rows) (drop k (parts_of rows))
  unfolding among
  along i zero k e = rw (rw add-zero at e)
  along i (suc n) k e =
      rw (drop-cons part_rows k 0 (omega arith), drop-cons (parts_of rows) k no_part (omega arith))
      (ap₂ (λ (x y : List ℕ). x ++ y) (field_of i k) (rw (add-one k) (along i n (suc k) (omega arith))))

  pub row-fields : (i : ℕ) → parts_from (field_at r b i) 0 29 ≡ fields_words r b (get_or rows i no_row).parts
  row-fields i = along i 29 0 refl ∙ rw zero-add at (among-at rows i 0)
