-- What a row's byte changes: its own fields and no other, and an allowed record stays allowed. Shown over the parts, once for the whole table.
use mathlib.Core.Path.{◌≡◌, refl, sym, ◌∙◌, subst}
use mathlib.Core.Bool.{Bool, true, false, ◌&&◌}
use mathlib.Core.List.{List, [], ◌∷◌, map}
use Prim.Native.Nat.{ℕ, zero, suc, ◌+◌, ◌-◌, ◌%◌, ◌^◌, ◌≤◌, ◌<◌}
use native.Mathlib.Nat.{mod-lt, le_trans}
use native.Mathlib.Omega.{arith}
use borrow.Author.Tests.{leb-true}
use lib.Dec.{T, leb, leb→le, eqb, eqb→eq}
use lib.ListN.{get_or}
use lib.Pow.{pow_pos}
use Rattle.registers.specs.declared.Registers.{Registers}
use Rattle.registers.specs.Places.{GS0}
use Rattle.registers.specs.Record.{values, limits, put, allowed_registers}
use Rattle.registers.specs.Table.{Target, register, bounded, selected, unheld, Part, Row, rows, above, value, put_to, taken, keep}
use Rattle.registers.proofs.Below.{below_at, and_left, and_right}
use Rattle.registers.proofs.Put.{put_other, put-allowed}

-- ---- own fields

-- register g is none of the target's
abbrev pub Outside : ℕ → Target → Registers → Type 0
Outside g (register f) r = g ≡ f → ⊥
Outside g (bounded f) r = g ≡ f → ⊥
Outside g selected r = g ≡ GS0 + r.gr % 4 → ⊥
Outside g unheld r = Unit

-- register g is none of the parts' fields, as byte b meets them one after the other
abbrev pub OutsideAll : ℕ → List Part → ℕ → Registers → Type 0
OutsideAll g [] b r = Unit
OutsideAll g (p ∷ ps) b r = Outside g p.target r × OutsideAll g ps b (put_to p.target (value p b) r)

keep-either : (t : Bool) (x y : Registers) (g : ℕ) → get_or (values x) g 0 ≡ get_or (values y) g 0 → get_or (values (keep t x y)) g 0 ≡ get_or (values y) g 0
keep-either true x y g h = h
keep-either false x y g h = refl

putTo-other : (t : Target) (n : ℕ) (r : Registers) (g : ℕ) → Outside g t r → get_or (values (put_to t n r)) g 0 ≡ get_or (values r) g 0
putTo-other (register f) n r g d = put_other f n r g d
putTo-other (bounded f) n r g d = keep-either (leb n (get_or limits f 0)) (put f n r) r g (put_other f n r g d)
putTo-other selected n r g d = put_other (GS0 + r.gr % 4) n r g d
putTo-other unheld n r g d = refl

-- a row changes only its own fields
pub taken_own : (ps : List Part) (b : ℕ) (r : Registers) (g : ℕ) → OutsideAll g ps b r → get_or (values (taken ps b r)) g 0 ≡ get_or (values r) g 0
taken_own [] b r g d = refl
taken_own (p ∷ ps) b r g d = taken_own ps b (put_to p.target (value p b) r) g d.1 ∙ putTo-other p.target (value p b) r g d.0

-- ---- allowed

-- every number of that many bits is within the limit of the target
abbrev pub room_for : Target → ℕ → Bool
room_for (register f) w = leb (2 ^ w - 1) (get_or limits f 0)
room_for (bounded f) w = true
room_for selected w = leb (2 ^ w - 1) 63
room_for unheld w = true

abbrev pub all_room : List Part → Bool
all_room [] = true
all_room (p ∷ ps) = room_for p.target p.width && all_room ps

value-bound : (p : Part) (b : ℕ) → value p b ≤ 2 ^ p.width - 1
value-bound p b = omega (arith, mod-lt (above p.low b) (pow_pos p.width))

pub grey-limit : (k : ℕ) → k < 4 → get_or limits (GS0 + k) 0 ≡ 63
grey-limit k h = eqb→eq (get_or limits (GS0 + k) 0) 63 (below_at 4 (λ (k : ℕ). eqb (get_or limits (GS0 + k) 0) 63) tt k h)

keep-allowed : (n l : ℕ) (x y : Registers) → (n ≤ l → allowed_registers x ≡ true) → allowed_registers y ≡ true → allowed_registers (keep (leb n l) x y) ≡ true
keep-allowed n l x y hx hy = go (leb n l) refl
  where
    go : (t : Bool) → leb n l ≡ t → allowed_registers (keep t x y) ≡ true
    go true e = hx (leb-true n l e)
    go false e = hy

putTo-allowed : (t : Target) (w n : ℕ) (r : Registers) → T (room_for t w) → n ≤ 2 ^ w - 1 → allowed_registers r ≡ true → allowed_registers (put_to t n r) ≡ true
putTo-allowed (register f) w n r room b h = put-allowed f n r (le_trans b (leb→le _ _ room)) h
putTo-allowed (bounded f) w n r room b h = keep-allowed n (get_or limits f 0) (put f n r) r (λ le. put-allowed f n r le h) h
putTo-allowed selected w n r room b h =
    put-allowed (GS0 + r.gr % 4) n r
    (subst (λ (l : ℕ). n ≤ l) (sym (grey-limit (r.gr % 4) (mod-lt r.gr (omega arith)))) (le_trans b (leb→le _ _ room))) h
putTo-allowed unheld w n r room b h = h

pub taken-allowed : (ps : List Part) (b : ℕ) (r : Registers) → T (all_room ps) → allowed_registers r ≡ true → allowed_registers (taken ps b r) ≡ true
taken-allowed [] b r room h = h
taken-allowed (p ∷ ps) b r room h =
    taken-allowed ps b (put_to p.target (value p b) r) (and_right (room_for p.target p.width) (all_room ps) room)
    (putTo-allowed p.target p.width (value p b) r (and_left (room_for p.target p.width) (all_room ps) room) (value-bound p b) h)

-- every row of the table
abbrev pub rows_room : List Row → Bool
rows_room [] = true
rows_room (w ∷ ws) = all_room w.parts && rows_room ws

room_at : (ws : List Row) → T (rows_room ws) → (i : ℕ) → T (all_room (get_or (map (λ (w : Row). w.parts) ws) i []))
room_at [] t i = tt
room_at (w ∷ ws) t zero = and_left (all_room w.parts) (rows_room ws) t
room_at (w ∷ ws) t (suc i) = room_at ws (and_right (all_room w.parts) (rows_room ws) t) i

pub row_room : (i : ℕ) → T (all_room (get_or (map (λ (w : Row). w.parts) rows) i []))
row_room i = room_at rows tt i
