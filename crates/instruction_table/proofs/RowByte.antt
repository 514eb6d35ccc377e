-- A row's byte as the sum of what each part of the table adds to it, over the flat lists that the code holds; the row that sets a register.
use mathlib.Core.Bool.{Bool, true, false, cond, ◌&&◌}
use mathlib.Core.List.{List, [], ◌∷◌, ◌++◌, map}
use mathlib.Core.Path.{◌≡◌, refl, sym, ap, ap₂, ◌∙◌}
use Prim.Native.Nat.{ℕ, zero, suc, ◌+◌, ◌*◌, ◌^◌, ◌≤◌, ◌<◌, zero-le}
use native.Mathlib.Nat.{zero-add, add-zero, add_assoc, add-suc, suc-add, add-le-add, mul-le-mul_right}
use native.Mathlib.Omega.{arith}
use borrow.Author.Tests.{eq-eqb, ne_eqb, le-leb, lt-leb}
use lib.Dec.{T, eqb, leb, ltb, ltb→lt, leb→le}
use lib.ListN.{get_or, length, drop, get_or-map}
use lib.Seq.{drop-cons}
use Rattle.registers.specs.declared.Registers.{Registers}
use Rattle.registers.specs.Data.{target_number, parts_of, owners_from, part_rows, part_lows, part_widths, codes, place_of, shares_of, byte_of}
use Rattle.registers.specs.Encode.{held, encoded, row_byte, sets_field, has_field, row_holding, row_for}
use Rattle.registers.specs.Places.{H}
use Rattle.registers.specs.Record.{values}
use Rattle.registers.specs.Table.{Target, register, bounded, selected, unheld, Part, part, Row, rows, no_row}
use Rattle.registers.proofs.Below.{and_left, and_right}
use Rattle.registers.proofs.Tables.{tabulated, tabulated-at}

-- ---- over lists of parts, with the registers v as a list

-- what a part says, where it stands
shifted : Part → List ℕ → ℕ
shifted p v = get_or v (place_of (target_number p.target) v) 0 * 2 ^ p.low

shifted_by : List Part → List ℕ → ℕ
shifted_by [] v = 0
shifted_by (p ∷ ps) v = shifted p v + shifted_by ps v

-- what the parts ps, of the rows os, add to the byte of row i
shares : ℕ → List ℕ → List Part → List ℕ → ℕ
shares i [] ps v = 0
shares i (o ∷ os) [] v = 0
shares i (o ∷ os) (p ∷ ps) v = cond (eqb o i) (shifted p v) 0 + shares i os ps v

module _ (i : ℕ) (v : List ℕ) where
  -- the parts of one row, then others
  shares-row :
      (j : ℕ) (ps : List Part) (os : List ℕ) (qs : List Part)
      → shares i (map (λ (p : Part). j) ps ++ os) (ps ++ qs) v ≡ cond (eqb j i) (shifted_by ps v) 0 + shares i os qs v
  unfolding shares shifted_by
  shares-row j ps os qs = go (eqb j i) refl ps
    where
      go :
          (b : Bool) → eqb j i ≡ b → (ps : List Part)
          → shares i (map (λ (p : Part). j) ps ++ os) (ps ++ qs) v ≡ cond b (shifted_by ps v) 0 + shares i os qs v
      go true e [] = sym (zero-add _)
      go false e [] = sym (zero-add _)
      go true e (p ∷ ps) = rw (e, go true e ps) (sym (add_assoc _ _ _))
      go false e (p ∷ ps) = rw (e, go false e ps) (zero-add _)

  -- a row above i adds nothing
  shares-none : (ws : List Row) (j : ℕ) → i < j → shares i (owners_from j ws) (parts_of ws) v ≡ 0
  unfolding shares
  shares-none [] j l = refl
  shares-none (w ∷ ws) j l =
      shares-row j w.parts (owners_from (suc j) ws) (parts_of ws)
      ∙ rw (ne_eqb j i (λ e. omega arith), shares-none ws (suc j) (omega arith))

shares_at :
    (ws : List Row) (v : List ℕ) (i j : ℕ) → shares (j + i) (owners_from j ws) (parts_of ws) v ≡ shifted_by (get_or ws i no_row).parts v
unfolding shares shifted_by
shares_at [] v i j = refl
shares_at (w ∷ ws) v zero j =
    shares-row (j + 0) v j w.parts (owners_from (suc j) ws) (parts_of ws)
    ∙ rw (eq-eqb j (j + 0) (omega arith), shares-none (j + 0) v ws (suc j) (omega arith), add-zero)
shares_at (w ∷ ws) v (suc i) j =
    shares-row (j + suc i) v j w.parts (owners_from (suc j) ws) (parts_of ws)
    ∙ rw (ne_eqb j (j + suc i) (λ e. omega arith), zero-add, add-suc, ← suc-add) (shares_at ws v i (suc j))

-- ---- along the code's lists

abbrev no_part : Part
no_part = part (register H) 0 0

shares-of : (v : List ℕ) (i n k : ℕ) → k + n ≡ 29 → shares_of v i k n ≡ shares i (drop k part_rows) (drop k (parts_of rows)) v
unfolding shares shifted
shares-of v i zero k e = rw (rw add-zero at e)
shares-of v i (suc n) k e =
    rw (drop-cons part_rows k 0 (omega arith), drop-cons (parts_of rows) k no_part (omega arith))
    (ap₂ (λ (a b : ℕ). cond (eqb (get_or part_rows k 0) i) a 0 + b)
    (ap₂ (λ (a b : ℕ). get_or v (place_of a v) 0 * 2 ^ b)
    (get_or-map (λ (p : Part). target_number p.target) (parts_of rows) k no_part)
    (get_or-map (λ (p : Part). p.low) (parts_of rows) k no_part))
    (shares-of v i n (suc k) (omega arith)))

-- ---- a row's byte

-- a register's place lies below the numbers of the other targets
is_placed : Target → Bool
is_placed (register f) = ltb f 29
is_placed (bounded f) = ltb f 29
is_placed selected = true
is_placed unheld = true

held_at : (g : Target) (t : Registers) → T (is_placed g) → get_or (values t) (place_of (target_number g) (values t)) 0 ≡ held g t
unfolding is_placed
held_at (register f) t h = let l = ltb→lt f 29 h in rw (ne_eqb f 29 (λ e. omega arith))
held_at (bounded f) t h = let l = ltb→lt f 29 h in rw (ne_eqb f 29 (λ e. omega arith))
held_at selected t h = refl
held_at unheld t h = refl

all_placed : List Part → Bool
all_placed [] = true
all_placed (p ∷ ps) = is_placed p.target && all_placed ps

shifted-encoded : (ps : List Part) (t : Registers) → T (all_placed ps) → shifted_by ps (values t) ≡ encoded ps t
unfolding all_placed shifted_by shifted
shifted-encoded [] t h = refl
shifted-encoded (p ∷ ps) t h =
    ap₂ (λ (n m : ℕ). n * 2 ^ p.low + m) (held_at p.target t (and_left (is_placed p.target) (all_placed ps) h))
    (shifted-encoded ps t (and_right (is_placed p.target) (all_placed ps) h))

-- what the parts say at most, where each register is a byte
most : List Part → ℕ
most [] = 0
most (p ∷ ps) = 255 * 2 ^ p.low + most ps

shifted-most : (ps : List Part) (v : List ℕ) → ((k : ℕ) → get_or v k 0 ≤ 255) → shifted_by ps v ≤ most ps
unfolding shifted_by shifted most
shifted-most [] v b = omega arith
shifted-most (p ∷ ps) v b =
    add-le-add (mul-le-mul_right (2 ^ p.low) (b (place_of (target_number p.target) v))) (shifted-most ps v b)

-- every row of the table
rows_fit : List Row → Bool
rows_fit [] = true
rows_fit (w ∷ ws) = (all_placed w.parts && leb (w.code + most w.parts) 65535) && rows_fit ws

fit_at :
    (ws : List Row) → T (rows_fit ws) → (i : ℕ)
    → T (all_placed (get_or ws i no_row).parts && leb ((get_or ws i no_row).code + most (get_or ws i no_row).parts) 65535)
unfolding rows_fit all_placed most
fit_at [] h i = tt
fit_at (w ∷ ws) h zero = and_left (all_placed w.parts && leb (w.code + most w.parts) 65535) (rows_fit ws) h
fit_at (w ∷ ws) h (suc i) = fit_at ws (and_right (all_placed w.parts && leb (w.code + most w.parts) 65535) (rows_fit ws) h) i

rows_fit_lem : T (rows_fit rows)
unfolding rows_fit all_placed is_placed most
rows_fit_lem = tt

module _ (i : ℕ) where
  placed : T (all_placed (get_or rows i no_row).parts)
  placed = and_left (all_placed (get_or rows i no_row).parts) (leb ((get_or rows i no_row).code + most (get_or rows i no_row).parts) 65535) (fit_at rows rows_fit_lem i)

  small : (get_or rows i no_row).code + most (get_or rows i no_row).parts ≤ 65535
  small =
      leb→le ((get_or rows i no_row).code + most (get_or rows i no_row).parts) 65535
      (and_right (all_placed (get_or rows i no_row).parts) (leb ((get_or rows i no_row).code + most (get_or rows i no_row).parts) 65535) (fit_at rows rows_fit_lem i))

  code_at : get_or codes i 0 ≡ (get_or rows i no_row).code
  code_at = get_or-map (λ (w : Row). w.code) rows i no_row

  all-shifted : (v : List ℕ) → shares_of v i 0 29 ≡ shifted_by (get_or rows i no_row).parts v
  all-shifted v = shares-of v i 29 0 refl ∙ rw zero-add at (shares_at rows v i 0)

  pub byte-of : (t : Registers) → byte_of (values t) i ≡ row_byte (get_or rows i no_row) t
  unfolding byte_of
  byte-of t = ap₂ (λ (n m : ℕ). n + m) code_at (all-shifted (values t) ∙ shifted-encoded (get_or rows i no_row).parts t placed)

  pub byte_fits : (v : List ℕ) → ((k : ℕ) → get_or v k 0 ≤ 255) → byte_of v i ≤ 65535
  unfolding byte_of
  byte_fits v b = omega (arith, code_at, all-shifted v, shifted-most (get_or rows i no_row).parts v b, small)

-- ---- a part's lowest bit is a bit of a byte, and it has fewer bits than a byte

all_up_to : ℕ → List ℕ → Bool
all_up_to b [] = true
all_up_to b (n ∷ ns) = leb n b && all_up_to b ns

up-to-at : (b : ℕ) (ns : List ℕ) → T (all_up_to b ns) → (k : ℕ) → get_or ns k 0 ≤ b
unfolding all_up_to
up-to-at b [] h k = zero-le
up-to-at b (n ∷ ns) h zero = leb→le n b (and_left (leb n b) (all_up_to b ns) h)
up-to-at b (n ∷ ns) h (suc k) = up-to-at b ns (and_right (leb n b) (all_up_to b ns) h) k

pub low-bound : (k : ℕ) → get_or part_lows k 0 ≤ 7
unfolding all_up_to
low-bound k = up-to-at 7 part_lows tt k

pub width-bound : (k : ℕ) → get_or part_widths k 0 ≤ 7
unfolding all_up_to
width-bound k = up-to-at 7 part_widths tt k

-- ---- the row that sets a register

pub row-for-at : (f : ℕ) → f < 29 → get_or (tabulated row_for 0 29) f 0 ≡ row_for f
row-for-at f h = tabulated-at row_for 29 f h

-- past the last register no part sets anything
module _ (f : ℕ) (past : 29 ≤ f) where
  not_set : (g : Target) → T (is_placed g) → sets_field f g ≡ false
  unfolding is_placed
  not_set (register g) h = let l = ltb→lt g 29 h in ne_eqb f g (λ e. omega arith)
  not_set (bounded g) h = refl
  not_set selected h = rw (le-leb 21 f (omega arith), lt-leb f 24 (omega arith))
  not_set unheld h = refl

  not-held : (ps : List Part) → T (all_placed ps) → has_field f ps ≡ false
  unfolding all_placed
  not-held [] h = refl
  not-held (p ∷ ps) h =
      rw (not_set p.target (and_left (is_placed p.target) (all_placed ps) h), not-held ps (and_right (is_placed p.target) (all_placed ps) h))

  none-holds : (ws : List Row) → T (rows_fit ws) → length ws ≡ row_holding f ws
  unfolding rows_fit
  none-holds [] h = refl
  none-holds (w ∷ ws) h =
      let fits = all_placed w.parts && leb (w.code + most w.parts) 65535 in
      rw (not-held w.parts (and_left (all_placed w.parts) (leb (w.code + most w.parts) 65535) (and_left fits (rows_fit ws) h)))
      (ap suc (none-holds ws (and_right fits (rows_fit ws) h)))

  pub no-row-for : 21 ≡ row_for f
  no-row-for = none-holds rows rows_fit_lem
