-- Ways through a stretch with packed counts, over plain variables.
use mathlib.Core.Bool.{Bool, true, false, cond, ◌&&◌}
use mathlib.Core.List.{List}
use mathlib.Core.Path.{◌≡◌, refl, sym, ap, subst, ◌∙◌}
use Prim.Native.Nat.{ℕ, ◌+◌, ◌-◌, ◌%◌, ◌^◌, ◌≤◌, ◌<◌}
use native.Mathlib.Omega.{arith}
use borrow.Author.Tests.{leb-true, eqb-true, eqb-false, lt-ltb, le-ltb}
use lib.Dec.{eqb, leb, ltb}
use lib.ListN.{get_or}
use Rattle.registers.specs.declared.PixelCounts.{PixelCounts}
use Rattle.registers.specs.declared.Registers.{Registers}
use Rattle.registers.specs.Record.{pixels}
use Rattle.registers.specs.State.{places}
use Rattle.registers.specs.Reversed.{ordered}
use Rattle.registers.proofs.Within.{both_left, both_right}
use Rattle.pixel_counts.specs.Mending.{mendable}
use Rattle.display.specs.Display.{kept, stored_of, place_of, pixels_fit, pixels_after}
use Rattle.display.proofs.Address.{column-low}
use Rattle.display_bytes.specs.Lanes.{packed_of, unpacked_of, total, four_pixels, masked, guards, exchanged, none_below, Packed, Ordinary, is_ordinary}
use Rattle.display_bytes.specs.Stretch.{Stretched, stretch_from}
use Rattle.display_bytes.proofs.Lanes as Lanes

-- ---- the test of a state

pub ordinary :
    (r : Registers) (n : PixelCounts) (memory writers : ℕ)
    → is_ordinary r n memory writers ≡ true → Ordinary r n memory writers
ordinary r n memory writers e =
    let four = both_left (leb r.x 100 && leb r.y 16 && eqb memory places && eqb writers places) (leb (total n) pixels) e in
    let three = both_left (leb r.x 100 && leb r.y 16 && eqb memory places) (eqb writers places) four in
    let two = both_left (leb r.x 100 && leb r.y 16) (eqb memory places) three in
    record {
      column = leb-true r.x 100 (both_left (leb r.x 100) (leb r.y 16) two);
      bank = leb-true r.y 16 (both_right (leb r.x 100) (leb r.y 16) two);
      bytes = eqb-true memory places (both_right (leb r.x 100 && leb r.y 16) (eqb memory places) three);
      numbers = eqb-true writers places (both_right (leb r.x 100 && leb r.y 16 && eqb memory places) (eqb writers places) four);
      low = leb-true (total n) pixels (both_right (leb r.x 100 && leb r.y 16 && eqb memory places && eqb writers places) (leb (total n) pixels) e);
    }

-- ---- counts packed

pub packs : (n : PixelCounts) → total n ≤ pixels → Packed (packed_of n)
packs n low =
    let back = Lanes.taken-apart n low in
    record { apart = ap (λ (p : PixelCounts). packed_of p) (sym back); low = subst (λ (p : PixelCounts). total p ≤ pixels) (sym back) low }

pub counts-back : (n : PixelCounts) (sum : ℕ) → sum ≡ packed_of n → total n ≤ pixels → unpacked_of sum ≡ n
counts-back n sum e low = ap unpacked_of e ∙ Lanes.taken-apart n low

-- what joins, j, and what leaves, l
module _ (n : PixelCounts) (sum : ℕ) (packed : sum ≡ packed_of n) (low : total n ≤ pixels) where
  pub guards-fit : sum + guards < 2 ^ 64
  guards-fit = rw packed (omega arith)

  module _ (old new : ℕ) (old-byte : old < 256) (new-byte : new < 256) (j : ℕ) (ej : j ≡ packed_of (four_pixels new)) where
    pub sum_fits : sum + guards + j < 2 ^ 64
    sum_fits = rw (packed, ej) (Lanes.sum_fits n old new low old-byte new-byte)

    module _ (l : ℕ) (el : l ≡ packed_of (four_pixels old)) where
      pub enough : l ≤ sum + guards + j
      enough = rw (packed, ej, el) (Lanes.enough n old new low old-byte new-byte)

      pub exchange-told : sum + guards + j - l ≡ exchanged n old new
      exchange-told = rw (packed, ej, el)

-- ---- bank 16 begins at place 1,616

module _ (r : Registers) (column : r.x ≤ 100) (bank : r.y ≤ 16) where
  same-bank : ltb (place_of r) 1616 ≡ cond (eqb r.y 16) false true
  unfolding place_of
  same-bank = go (eqb r.y 16) refl
    where
      go : (t : Bool) → eqb r.y 16 ≡ t → ltb (place_of r) 1616 ≡ cond t false true
      go true e = le-ltb (place_of r) 1616 (omega (arith, eqb-true r.y 16 e))
      go false e = lt-ltb (place_of r) 1616 (omega (arith, eqb-false r.y 16 e, column-low r column))

  kept-masked : (b : ℕ) → kept r.y b ≡ masked (place_of r) b
  kept-masked b = rw same-bank (go (eqb r.y 16))
    where
      go : (t : Bool) → cond t (b % 64) b ≡ cond (cond t false true) b (b % 64)
      go true = refl
      go false = refl

  -- a stored byte has six bits there already
  stored_masked : (e : ℕ) → stored_of r e ≡ masked (place_of r) (stored_of r e)
  unfolding stored_of
  stored_masked e = twice (eqb r.y 16) (ordered r.data_order e) ∙ kept-masked (stored_of r e)
    where
      twice : (t : Bool) (b : ℕ) → cond t (b % 64) b ≡ cond t (cond t (b % 64) b % 64) (cond t (b % 64) b)
      twice true b = omega arith
      twice false b = refl

-- ---- the stretch

pub same_start :
    (s : Stretched) (es : List ℕ) (r : Registers) (n n' : PixelCounts) (m w : List ℕ) (count : ℕ)
    → n ≡ n' → s ≡ stretch_from 0 es r n m w count → s ≡ stretch_from 0 es r n' m w count
same_start s es r n n' m w count e h = h ∙ ap (λ (p : PixelCounts). stretch_from 0 es r p m w count) e

-- ---- one byte for another

-- byte e comes where the byte at this place stands: what leaves, what joins, and the counts then, with their guards
pub record Exchange (r : Registers) (m : List ℕ) (sum e place old new next : ℕ) : Type 0 where
  pub column : r.x ≤ 100
  pub bank : r.y ≤ 16
  pub packed : Packed sum
  pub here : place ≡ place_of r
  pub old-byte : get_or m place 0 < 256
  pub new-byte : new < 256
  pub leaves : old ≡ kept r.y (get_or m place 0)
  pub joins : new ≡ stored_of r e
  pub counts : next ≡ exchanged (unpacked_of sum) old new

module _ (r : Registers) (m : List ℕ) (sum e place old new next : ℕ) (x : Exchange r m sum e place old new next) where
  there-byte : get_or m (place_of r) 0 < 256
  there-byte = rw (← x.here) x.old-byte

  stored-byte : stored_of r e < 256
  stored-byte = rw (← x.joins) x.new-byte

  old-masked : old ≡ masked (place_of r) (get_or m (place_of r) 0)
  old-masked = x.leaves ∙ rw x.here (kept-masked r x.column x.bank (get_or m (place_of r) 0))

  is-exchanged : next ≡ exchanged (unpacked_of sum) (masked (place_of r) (get_or m (place_of r) 0)) (masked (place_of r) (stored_of r e))
  is-exchanged = x.counts ∙ rw (old-masked, x.joins ∙ stored_masked r x.column x.bank e)

  pub fit-told : (t : Bool) → t ≡ none_below next → t ≡ pixels_fit r (unpacked_of sum) m e
  unfolding pixels_fit
  fit-told t et =
      et ∙ ap none_below is-exchanged
      ∙ Lanes.mendable-told (unpacked_of sum) (place_of r) (get_or m (place_of r) 0) (stored_of r e) x.packed.low there-byte stored-byte

  module _ (fit : pixels_fit r (unpacked_of sum) m e ≡ true) where
    can : mendable (unpacked_of sum) (place_of r) (get_or m (place_of r) 0) (stored_of r e) ≡ true
    unfolding pixels_fit
    can = fit

    pub guards-there : guards ≤ next
    guards-there =
        rw is-exchanged
        (Lanes.guards-kept (unpacked_of sum) (place_of r) (get_or m (place_of r) 0) (stored_of r e) x.packed.low there-byte stored-byte can)

    total-low : total (pixels_after r (unpacked_of sum) m e) ≤ pixels
    unfolding pixels_after
    total-low =
        rw (Lanes.mended-total (unpacked_of sum) (place_of r) (get_or m (place_of r) 0) (stored_of r e) x.packed.low there-byte stored-byte can)
        x.packed.low

    lowered : next - guards ≡ packed_of (pixels_after r (unpacked_of sum) m e)
    unfolding pixels_after
    lowered =
        ap (λ (k : ℕ). k - guards) is-exchanged
        ∙ Lanes.packed-mended (unpacked_of sum) (place_of r) (get_or m (place_of r) 0) (stored_of r e) x.packed.low there-byte stored-byte can

    pub packed-after : Packed (next - guards)
    packed-after = subst (λ (k : ℕ). Packed k) (sym lowered) (packs (pixels_after r (unpacked_of sum) m e) total-low)

    pub counts-after : unpacked_of (next - guards) ≡ pixels_after r (unpacked_of sum) m e
    counts-after = ap unpacked_of lowered ∙ Lanes.taken-apart (pixels_after r (unpacked_of sum) m e) total-low
