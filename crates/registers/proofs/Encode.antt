-- A row's byte made from registers is a byte of that row and of no other, and each part of it is read back. Shown over the parts, once for
-- all rows.
use mathlib.Core.Bool.{Bool, true, false, ◌&&◌}
use mathlib.Core.List.{List, [], ◌∷◌}
use mathlib.Core.Path.{◌≡◌, refl, sym, ap, ap₂, ◌∙◌, subst}
use Prim.Native.Nat.{ℕ, zero, suc, ◌+◌, ◌*◌, ◌-◌, ◌/◌, ◌%◌, ◌^◌, ◌≤◌, ◌<◌, suc-le-suc}
use native.Mathlib.Nat.{le_trans, lt_irrefl, lt_of_lt_of_le, le_of_suc-le-suc, not-suc-le-zero, mul_assoc, add-mul, add_assoc}
use native.Mathlib.Omega.{arith}
use borrow.Author.Tests.{eq-eqb}
use lib.Arith.{digits_lt, digits_div, digits_mod}
use lib.Dec.{T, leb, eqb, leb→le, eqb→eq}
use lib.ListN.{get_or, length}
use lib.Pow.{pow_pos, pow_mono, pow-add}
use Rattle.registers.specs.declared.Registers.{Registers}
use Rattle.registers.specs.Encode.{held, encoded, row_byte, holds_in_range, with_parts}
use Rattle.registers.specs.Table.{Part, Row, rows, no_row, above, value, opened, is_of, taken, in_range_of, in_range, put_to, matches, matches_at, row_among, row_at}
use Rattle.registers.proofs.Below.{all_below, below_at, and_left, and_right}
use Rattle.registers.proofs.TableTest.{row_no, rows_apart}

-- each part lies below bit `top` and below the one before it
abbrev pub stacked : ℕ → List Part → Bool
stacked top [] = true
stacked top (p ∷ ps) = leb (p.low + p.width) top && stacked p.low ps

-- what the parts are to say fits them
abbrev pub FitParts : List Part → Registers → Type 0
FitParts [] t = Unit
FitParts (p ∷ ps) t = (held p.target t < 2 ^ p.width) × FitParts ps t

-- each part of byte b says what t holds
abbrev pub Encodes : List Part → ℕ → Registers → Type 0
Encodes [] b t = Unit
Encodes (p ∷ ps) b t = (value p b ≡ held p.target t) × Encodes ps b t

encoded-lt : (ps : List Part) (t : Registers) (top : ℕ) → T (stacked top ps) → FitParts ps t → encoded ps t < 2 ^ top
encoded-lt [] t top st fit = pow_pos top
encoded-lt (p ∷ ps) t top st fit =
    let low = encoded-lt ps t p.low (and_right (leb (p.low + p.width) top) (stacked p.low ps) st) fit.1 in
    let here : held p.target t * 2 ^ p.low + encoded ps t < 2 ^ p.width * 2 ^ p.low = digits_lt fit.0 low in
    lt_of_lt_of_le here
    (subst (λ (x : ℕ). x ≤ 2 ^ top) (pow-add 2 p.width p.low)
    (pow_mono (le_trans (omega arith) (leb→le (p.low + p.width) top (and_left (leb (p.low + p.width) top) (stacked p.low ps) st)))))

pub above-div : (k b : ℕ) → above k b ≡ b / 2 ^ k
above-div zero b = omega arith
above-div (suc k) b = refl

-- q above bit `top`, then a part of w bits at bit l, then e below it
regroup : (q g w l v e : ℕ) → q * 2 ^ (g + (w + l)) + (v * 2 ^ l + e) ≡ (q * 2 ^ g * 2 ^ w + v) * 2 ^ l + e
regroup q g w l v e =
    ap (λ (x : ℕ). q * x + (v * 2 ^ l + e)) (pow-add 2 g (w + l) ∙ ap (λ (x : ℕ). 2 ^ g * x) (pow-add 2 w l))
    ∙ ap (λ (x : ℕ). x + (v * 2 ^ l + e)) (sym (mul_assoc q (2 ^ g) (2 ^ w * 2 ^ l)) ∙ sym (mul_assoc (q * 2 ^ g) (2 ^ w) (2 ^ l)))
    ∙ sym (add_assoc (q * 2 ^ g * 2 ^ w * 2 ^ l) (v * 2 ^ l) e)
    ∙ ap (λ (x : ℕ). x + e) (sym (add-mul (q * 2 ^ g * 2 ^ w) v (2 ^ l)))

encodes-from : (ps : List Part) (q : ℕ) (t : Registers) (top : ℕ) → T (stacked top ps) → FitParts ps t → Encodes ps (q * 2 ^ top + encoded ps t) t
encodes-from [] q t top st fit = tt
encodes-from (p ∷ ps) q t top st fit =
    let l = p.low in
    let w = p.width in
    let v = held p.target t in
    let e = encoded ps t in
    let g = top - (w + l) in
    let under : l + w ≤ top = leb→le (l + w) top (and_left (leb (l + w) top) (stacked l ps) st) in
    let rest : T (stacked l ps) = and_right (leb (l + w) top) (stacked l ps) st in
    let el : e < 2 ^ l = encoded-lt ps t l rest fit.1 in
    let up : top ≡ g + (w + l) = omega arith in
    let eq : q * 2 ^ top + (v * 2 ^ l + e) ≡ (q * 2 ^ g * 2 ^ w + v) * 2 ^ l + e =
    ap (λ (x : ℕ). q * 2 ^ x + (v * 2 ^ l + e)) up ∙ regroup q g w l v e
    in (
      ap (λ (x : ℕ). x % 2 ^ w) (above-div l (q * 2 ^ top + (v * 2 ^ l + e)) ∙ ap (λ (x : ℕ). x / 2 ^ l) eq ∙ digits_div (q * 2 ^ g * 2 ^ w + v) el)
          ∙ digits_mod (q * 2 ^ g) fit.0,
      subst (λ (b : ℕ). Encodes ps b t) (sym eq) (encodes-from ps (q * 2 ^ g * 2 ^ w + v) t l rest fit.1),
    )

-- what is read back is what was written, and the open bits are those that were put in
encodes-opened : (ps : List Part) (b : ℕ) (t : Registers) → Encodes ps b t → opened ps b ≡ encoded ps t
encodes-opened [] b t h = refl
encodes-opened (p ∷ ps) b t h = ap₂ (λ (x y : ℕ). x * 2 ^ p.low + y) h.0 (encodes-opened ps b t h.1)

pub encodes-taken : (ps : List Part) (b : ℕ) (t r : Registers) → Encodes ps b t → taken ps b r ≡ with_parts ps t r
encodes-taken [] b t r h = refl
encodes-taken (p ∷ ps) b t r h =
    ap (λ (x : ℕ). taken ps b (put_to p.target x r)) h.0 ∙ encodes-taken ps b t (put_to p.target (held p.target t) r) h.1

pub encodes-in-range : (ps : List Part) (b : ℕ) (t : Registers) → Encodes ps b t → in_range ps b ≡ holds_in_range ps t
encodes-in-range [] b t h = refl
encodes-in-range (p ∷ ps) b t h = ap₂ (λ (n : ℕ) (rest : Bool). in_range_of p.target n && rest) h.0 (encodes-in-range ps b t h.1)

-- ---- the rows of the table

-- the bit above the topmost part
abbrev pub top_of : List Part → ℕ
top_of [] = 0
top_of (p ∷ ps) = p.low + p.width

-- of every row: the parts in order, fixed bits above them alone, and a byte in all
abbrev in_order : ℕ → Bool
in_order i = stacked (top_of (row_no i).parts) (row_no i).parts

abbrev fixed_above : ℕ → Bool
fixed_above i = eqb (row_no i).code ((row_no i).code / 2 ^ top_of (row_no i).parts * 2 ^ top_of (row_no i).parts)

abbrev is_byte : ℕ → Bool
is_byte i = leb ((row_no i).code + 2 ^ top_of (row_no i).parts) 256

all-in-order : T (all_below 21 in_order)
all-in-order = tt

all-fixed-above : T (all_below 21 fixed_above)
all-fixed-above = tt

all-bytes : T (all_below 21 is_byte)
all-bytes = tt

module _ (i : ℕ) (l : i < 21) (t : Registers) (fit : FitParts (row_no i).parts t) where
  in_order_lem : T (in_order i)
  in_order_lem = below_at 21 in_order all-in-order i l

  fixed-above : (row_no i).code ≡ (row_no i).code / 2 ^ top_of (row_no i).parts * 2 ^ top_of (row_no i).parts
  fixed-above = eqb→eq _ _ (below_at 21 fixed_above all-fixed-above i l)

  pub row-encodes : Encodes (row_no i).parts (row_byte (row_no i) t) t
  row-encodes =
      subst (λ (c : ℕ). Encodes (row_no i).parts (c + encoded (row_no i).parts t) t) (sym fixed-above)
      (encodes-from (row_no i).parts ((row_no i).code / 2 ^ top_of (row_no i).parts) t (top_of (row_no i).parts) in_order_lem fit)

  pub row-takes : is_of (row_no i) (row_byte (row_no i) t) ≡ true
  row-takes = eq-eqb _ _ (ap (λ (x : ℕ). (row_no i).code + x) (sym (encodes-opened (row_no i).parts (row_byte (row_no i) t) t row-encodes)))

  pub row-byte : row_byte (row_no i) t < 256
  row-byte =
      omega (
        arith,
        encoded-lt (row_no i).parts t (top_of (row_no i).parts) in_order_lem fit,
        leb→le ((row_no i).code + 2 ^ top_of (row_no i).parts) 256 (below_at 21 is_byte all-bytes i l),
      )

-- ---- the search finds the row

-- the first row that takes b: none before it does
first-row :
    (h b : ℕ) (ws : List Row) (i : ℕ) → i < length ws → matches h b (get_or ws i no_row) ≡ true
    → ((j : ℕ) → j < i → matches h b (get_or ws j no_row) ≡ false) → row_among h b ws ≡ i
first-row h b [] i l e n = absurd (not-suc-le-zero l)
first-row h b (w ∷ ws) zero l e n = rw e
first-row h b (w ∷ ws) (suc i) l e n =
    rw (n zero (omega arith)) (ap suc (first-row h b ws i (le_of_suc-le-suc l) e (λ j k. n (suc j) (suc-le-suc k))))

-- in its own page, the row that was meant is found
pub row-found :
    (i : ℕ) → i < 21 → (t : Registers) → FitParts (row_no i).parts t → (h : ℕ) → h ≤ 4 → (row_no i).page ≡ h → row_at h (row_byte (row_no i) t) ≡ i
unfolding row_at
row-found i l t fit h lh e = first-row h (row_byte (row_no i) t) rows i l hit others
  where
    hit : matches_at i h (row_byte (row_no i) t) ≡ true
    hit = simp (eq-eqb _ _ e, row-takes i l t fit)

    others : (j : ℕ) → j < i → matches_at j h (row_byte (row_no i) t) ≡ false
    others j k = go (matches_at j h (row_byte (row_no i) t)) refl
      where
        go : (x : Bool) → matches_at j h (row_byte (row_no i) t) ≡ x → x ≡ false
        go true q = absurd (lt_irrefl j (subst (λ (x : ℕ). j < x) (rows_apart h (row_byte (row_no i) t) i j lh (row-byte i l t fit) l (omega arith) hit q) k))
        go false q = refl
