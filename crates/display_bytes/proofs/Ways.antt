-- Ways through a stretch, over plain variables: it stops, goes on, or ends.
use mathlib.Core.Bool.{Bool, true, false, cond, not, ◌&&◌}
use mathlib.Core.List.{List, [], ◌∷◌}
use mathlib.Core.Path.{◌≡◌, refl, sym, ap, ◌∙◌}
use Prim.Native.Nat.{ℕ, ◌+◌, ◌-◌, ◌^◌, ◌<◌, ◌≤◌}
use native.Mathlib.Numerals.{add-one}
use native.Mathlib.Omega.{arith}
use borrow.Author.Tests.{ltb-true, ltb-false, lt-ltb, le-ltb, eq-eqb, ne_eqb}
use lib.Dec.{eqb, ltb}
use lib.ListN.{length, get_or, drop, set, take}
use lib.Seq.{drop-cons, drop-length}
use Rattle.std.specs.Prelude.{Result, Ok, Err}
use Rattle.std.proofs.lemmas.List.{get_or-take, length-take-le}
use Rattle.registers.specs.declared.PixelCounts.{PixelCounts}
use Rattle.registers.specs.declared.Registers.{Registers}
use Rattle.display.specs.Display.{stored_of, place_of, next_address, pixels_fit, pixels_after}
use Rattle.display_bytes.specs.Stretch.{stretched, taken, stretch_from, addressed, room_for}

-- ---- the address

-- only the address differs
pub same_address : (r : Registers) → addressed r r.x r.y ≡ r
same_address r = refl

pub address-moved : (r₀ r : Registers) → addressed r₀ r.x r.y ≡ r → addressed r₀ (next_address r).x (next_address r).y ≡ next_address r
unfolding next_address
address-moved r₀ r h = ap (λ (q : Registers). addressed q (next_address r).x (next_address r).y) h

-- ---- the events

drop-next : (es : List ℕ) (k : ℕ) → k < length es → drop k es ≡ get_or es k 0 ∷ drop (k + 1) es
drop-next es k h = rw (add-one, drop-cons es k 0)

module _ (es : List ℕ) (k : ℕ) (r : Registers) (n : PixelCounts) (m w : List ℕ) (count : ℕ) where
  -- what an event is tested for
  module _ (h : k < length es) where
    here :
        stretch_from k (drop k es) r n m w count
        ≡ cond (taken (get_or es k 0) r n m count)
        (stretch_from (k + 1) (drop (k + 1) es) (next_address r) (pixels_after r n m (get_or es k 0)) (set m (place_of r) (stored_of r (get_or es k 0)))
        (set w (place_of r) (count + 1)) (count + 1))
        (stretched k (get_or es k 0 ∷ drop (k + 1) es) r n m w count)
    unfolding stretch_from
    here = ap (λ (l : List ℕ). stretch_from k l r n m w count) (drop-next es k h)

    stops : taken (get_or es k 0) r n m count ≡ false → stretch_from k (drop k es) r n m w count ≡ stretched k (drop k es) r n m w count
    stops t = here ∙ rw t (ap (λ (l : List ℕ). stretched k l r n m w count) (sym (drop-next es k h)))

    goes_on :
        taken (get_or es k 0) r n m count ≡ true
        → stretch_from k (drop k es) r n m w count
        ≡ stretch_from (k + 1) (drop (k + 1) es) (next_address r) (pixels_after r n m (get_or es k 0)) (set m (place_of r) (stored_of r (get_or es k 0)))
        (set w (place_of r) (count + 1)) (count + 1)
    goes_on t = here ∙ rw t

  -- no event is left
  over : k ≡ length es → stretch_from k (drop k es) r n m w count ≡ stretched k (drop k es) r n m w count
  unfolding stretch_from
  over e = rw (e, drop-length)

  -- the count is full
  full : (l : List ℕ) → eqb count (2 ^ 64 - 1) ≡ true → stretch_from k l r n m w count ≡ stretched k l r n m w count
  unfolding stretch_from taken
  full [] t = refl
  full (e ∷ l) t = rw t (go (ltb e 256))
    where
      go :
          (b : Bool)
          → cond (b && (not true && pixels_fit r n m e))
          (stretch_from (k + 1) l (next_address r) (pixels_after r n m e) (set m (place_of r) (stored_of r e)) (set w (place_of r) (count + 1)) (count + 1))
          (stretched k (e ∷ l) r n m w count)
          ≡ stretched k (e ∷ l) r n m w count
      go true = refl
      go false = refl

-- ---- whether an event is taken

pub no_byte : (e : ℕ) (r : Registers) (n : PixelCounts) (m : List ℕ) (count : ℕ) → 255 < e → taken e r n m count ≡ false
unfolding taken
no_byte e r n m count h = rw (le-ltb e 256 (omega (arith, h)))

-- a byte, with room in the count: by whether the pixels fit
pub byte-told :
    (e : ℕ) (r : Registers) (n : PixelCounts) (m : List ℕ) (count : ℕ) (fit : Bool) → e < 256 → count + 1 < 2 ^ 64 → fit ≡ pixels_fit r n m e
    → taken e r n m count ≡ fit
unfolding taken
byte-told e r n m count fit h room ef = rw (lt-ltb e 256 h, ne_eqb count (2 ^ 64 - 1) (λ (q : count ≡ 2 ^ 64 - 1). omega (arith, q, room)), ef)

-- ---- the loop: k events are done, and what is left of the stretch comes to the whole of it

module _ (es : List ℕ) (r₀ : Registers) (n₀ : PixelCounts) (m₀ w₀ : List ℕ) (count : ℕ) where
  pub record Stretching (k : ℕ) (r : Registers) (n : PixelCounts) (m w : List ℕ) (number : ℕ) : Type 0 where
    pub counted : number ≡ count + k
    pub address : addressed r₀ r.x r.y ≡ r
    pub so_far : stretch_from k (drop k es) r n m w number ≡ stretch_from 0 es r₀ n₀ m₀ w₀ count

  pub begins : Stretching 0 r₀ n₀ m₀ w₀ count
  begins = record { counted = omega arith; address = same_address r₀; so_far = refl }

  module _ (k : ℕ) (r : Registers) (n : PixelCounts) (m w : List ℕ) (number : ℕ) (loop : Stretching k r n m w number) where
    -- it ends here
    ended :
        (d x y : ℕ) (p : PixelCounts) → d ≡ k → x ≡ r.x → y ≡ r.y → p ≡ n
        → stretch_from k (drop k es) r n m w number ≡ stretched k (drop k es) r n m w number
        → stretched d (drop d es) (addressed r₀ x y) p m w (count + d) ≡ stretch_from 0 es r₀ n₀ m₀ w₀ count
    ended d x y p ed ex ey ep e = rw (ed, ex, ey, ep, loop.address, ← loop.counted) (sym e ∙ loop.so_far)

    pub stopped :
        (d x y : ℕ) (p : PixelCounts) → k < length es → taken (get_or es k 0) r n m number ≡ false → d ≡ k → x ≡ r.x → y ≡ r.y → p ≡ n
        → stretched d (drop d es) (addressed r₀ x y) p m w (count + d) ≡ stretch_from 0 es r₀ n₀ m₀ w₀ count
    stopped d x y p h t ed ex ey ep = ended d x y p ed ex ey ep (stops es k r n m w number h t)

    pub went_on :
        (r' : Registers) (n' : PixelCounts) (m' w' : List ℕ) → k < length es → taken (get_or es k 0) r n m number ≡ true
        → r' ≡ next_address r → n' ≡ pixels_after r n m (get_or es k 0) → m' ≡ set m (place_of r) (stored_of r (get_or es k 0))
        → w' ≡ set w (place_of r) (number + 1) → Stretching (k + 1) r' n' m' w' (number + 1)
    went_on r' n' m' w' h t er en em ew =
        rw (er, en, em, ew)
        record {
          counted = omega (arith, loop.counted);
          address = address-moved r₀ r loop.address;
          so_far = sym (goes_on es k r n m w number h t) ∙ loop.so_far;
        }

    pub ran_out :
        (d x y : ℕ) (p : PixelCounts) → count < 2 ^ 64 → k ≡ room_for count (length es) → d ≡ k → x ≡ r.x → y ≡ r.y → p ≡ n
        → stretched d (drop d es) (addressed r₀ x y) p m w (count + d) ≡ stretch_from 0 es r₀ n₀ m₀ w₀ count
    ran_out d x y p small e ed ex ey ep = ended d x y p ed ex ey ep (go (ltb (2 ^ 64 - 1 - count) (length es)) e)
      where
        go :
            (t : Bool) → k ≡ cond t (2 ^ 64 - 1 - count) (length es)
            → stretch_from k (drop k es) r n m w number ≡ stretched k (drop k es) r n m w number
        go true q = full es k r n m w number (drop k es) (eq-eqb number (2 ^ 64 - 1) (omega (arith, loop.counted, q, small)))
        go false q = over es k r n m w number q

-- ---- the events up to an end

module _ (es : List ℕ) (end k : ℕ) (inside : end ≤ length es) where
  pub part-length : length (take end es) ≡ end
  part-length = length-take-le end es inside

  pub part-event : k < end → get_or (take end es) k 0 ≡ get_or es k 0
  part-event h = get_or-take end es k 0 h

-- ---- event e is byte b, and the code made x of the counts: those after it, and whether it is taken

module _ (e b : ℕ) (r : Registers) (n : PixelCounts) (m : List ℕ) (count : ℕ) (x : Result PixelCounts PixelCounts) (is : b ≡ e) (byte : e < 256)
    (room : count + 1 < 2 ^ 64) (made : x ≡ cond (pixels_fit r n m b) (Ok (pixels_after r n m b)) (Err (pixels_after r n m b))) where
  told : (t : Bool) → pixels_fit r n m b ≡ t → taken e r n m count ≡ t
  told t q = byte-told e r n m count t byte room (sym q ∙ ap (λ (y : ℕ). pixels_fit r n m y) is)

  pub made-none : (n' : PixelCounts) → x ≡ Err n' → taken e r n m count ≡ false
  made-none n' none = go (pixels_fit r n m b) refl made
    where
      go : (t : Bool) → pixels_fit r n m b ≡ t → x ≡ cond t (Ok (pixels_after r n m b)) (Err (pixels_after r n m b)) → taken e r n m count ≡ false
      go true q h = let clash : Err n' ≡ Ok (pixels_after r n m b) = sym none ∙ h in cc
      go false q h = told false q

  pub made-some : (n' : PixelCounts) → x ≡ Ok n' → (taken e r n m count ≡ true) × (n' ≡ pixels_after r n m e)
  made-some n' some = go (pixels_fit r n m b) refl made
    where
      go :
          (t : Bool) → pixels_fit r n m b ≡ t → x ≡ cond t (Ok (pixels_after r n m b)) (Err (pixels_after r n m b))
          → (taken e r n m count ≡ true) × (n' ≡ pixels_after r n m e)
      go true q h =
          let both : Ok n' ≡ Ok (pixels_after r n m b) = sym some ∙ h in
          let same : n' ≡ pixels_after r n m b = cc in
          (told true q, same ∙ ap (λ (y : ℕ). pixels_after r n m y) is)
      go false q h = let clash : Ok n' ≡ Err (pixels_after r n m b) = sym some ∙ h in cc

-- ---- the room in the count

pub room-told : (count events : ℕ) (t : Bool) (r : ℕ) → ltb (2 ^ 64 - 1 - count) events ≡ t → r ≡ cond t (2 ^ 64 - 1 - count) events → r ≡ room_for count events
room-told count events t r e h = rw e h

pub room_within : (count events end : ℕ) → end ≡ room_for count events → count < 2 ^ 64 → (end ≤ events) × (count + end < 2 ^ 64)
room_within count events end e small = go (ltb (2 ^ 64 - 1 - count) events) refl e
  where
    go : (t : Bool) → ltb (2 ^ 64 - 1 - count) events ≡ t → end ≡ cond t (2 ^ 64 - 1 - count) events → (end ≤ events) × (count + end < 2 ^ 64)
    go true h q = (omega (arith, q, ltb-true (2 ^ 64 - 1 - count) events h), omega (arith, q, small))
    go false h q = (omega (arith, q), omega (arith, q, ltb-false (2 ^ 64 - 1 - count) events h, small))
