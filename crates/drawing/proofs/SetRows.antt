-- A set's events leave its register as the plain reading says, and every other but H, X and Y as it was. Shown once over the rows.
use mathlib.Core.Bool.{Bool, true, false, cond, not, ◌&&◌, ◌||◌}
use mathlib.Core.List.{List, [], ◌∷◌}
use mathlib.Core.Path.{◌≡◌, refl, sym, ap, ◌∙◌}
use Prim.Native.Nat.{ℕ, ◌≤◌, ◌<◌}
use native.Mathlib.Decide.{ℕ_discrete}
use borrow.Author.Tests.{eq-eqb, ne_eqb}
use lib.Dec.{T, eqb, leb, ltb, leb→le, ltb→lt}
use lib.ListN.{get_or}
use lib.Seq.{ext_get_or}
use Rattle.registers.specs.declared.Registers.{Registers}
use Rattle.registers.specs.Encode.{held, with_parts, is_grey, has_field, sets_field, row_for}
use Rattle.registers.specs.Places.{H, X, Y}
use Rattle.registers.specs.Record.{values, of_values, put, blank}
use Rattle.registers.specs.Table.{Target, Part, rows, no_row, put_to}
use Rattle.registers.specs.Table.Target.{register, bounded, selected, unheld}
use Rattle.registers.proofs.Below.{all_below, below_at, and_left, and_right, true-false}
use Rattle.registers.proofs.Put.{put_same, put_other}

-- ---- rows whose parts are registers

-- the value of a register by its place
abbrev pub at : Registers → ℕ → ℕ
at r g = get_or (values r) g 0

-- registers are equal where all of them are
pub same-registers : (r q : Registers) → ((g : ℕ) → g < 29 → at r g ≡ at q g) → r ≡ q
same-registers r q h = ap of_values (ext_get_or 0 (values r) (values q) refl h)

-- every part is a register
abbrev pub simple : Target → Bool
simple (register f) = ltb f 29
simple (bounded f) = false
simple selected = false
simple unheld = false

abbrev pub all_simple : List Part → Bool
all_simple [] = true
all_simple (p ∷ ps) = simple p.target && all_simple ps

either-field : (t u : Bool) (x y : ℕ) → cond u x (cond t x y) ≡ cond (t || u) x y
either-field true true x y = refl
either-field true false x y = refl
either-field false true x y = refl
either-field false false x y = refl

pub put-at : (f g : ℕ) (t r : Registers) → f < 29 → at (put f (at t f) r) g ≡ cond (eqb g f) (at t g) (at r g)
put-at f g t r l = go (ℕ_discrete g f)
  where
    go : Dec (g ≡ f) → at (put f (at t f) r) g ≡ cond (eqb g f) (at t g) (at r g)
    go (yes e) =
        ap (at (put f (at t f) r)) e ∙ put_same f (at t f) r l ∙ ap (at t) (sym e) ∙ sym (ap (λ (b : Bool). cond b (at t g) (at r g)) (eq-eqb g f e))
    go (no n) = put_other f (at t f) r g n ∙ sym (ap (λ (b : Bool). cond b (at t g) (at r g)) (ne_eqb g f n))

-- each register is as the parts have it where one is that register, and else as it was
pub with-parts-at : (ps : List Part) → T (all_simple ps) → (t r : Registers) (g : ℕ) → at (with_parts ps t r) g ≡ cond (has_field g ps) (at t g) (at r g)
with-parts-at [] s t r g = refl
with-parts-at (p ∷ ps) s t r g =
    target_at p.target (and_left (simple p.target) (all_simple ps) s)
    (λ r'. with-parts-at ps (and_right (simple p.target) (all_simple ps) s) t r' g)
  where
    target_at :
        (x : Target) → T (simple x) → ((r' : Registers) → at (with_parts ps t r') g ≡ cond (has_field g ps) (at t g) (at r' g))
        → at (with_parts ps t (put_to x (held x t) r)) g ≡ cond (sets_field g x || has_field g ps) (at t g) (at r g)
    target_at (register f) b rest =
        rest (put f (at t f) r)
        ∙ ap (λ (n : ℕ). cond (has_field g ps) (at t g) n) (put-at f g t r (ltb→lt f 29 b))
        ∙ either-field (eqb g f) (has_field g ps) (at t g) (at r g)
    target_at (bounded f) b rest = absurd b
    target_at selected b rest = absurd b
    target_at unheld b rest = absurd b

-- ---- which registers a set can name

-- the row of register f is of registers alone, f is one of them, H is not, and it stands in a page
abbrev pub parts_for : ℕ → List Part
parts_for f = (get_or rows (row_for f) no_row).parts

-- H, X, Y and the four grey registers
abbrev pub is_apart : ℕ → Bool
is_apart f = eqb f H || eqb f X || eqb f Y || is_grey f

abbrev has_simple_row : ℕ → Bool
has_simple_row f =
    is_apart f
    || (all_simple (parts_for f) && has_field f (parts_for f) && not (has_field H (parts_for f)) && ltb (row_for f) 21 && leb (get_or rows (row_for f) no_row).page 4)

all-simple-rows : T (all_below 29 has_simple_row)
all-simple-rows = tt

pub record SimpleRow (f : ℕ) : Type 0 where
  pub registers-only : T (all_simple (parts_for f))
  pub own : has_field f (parts_for f) ≡ true
  pub not-page : has_field H (parts_for f) ≡ false
  pub listed : row_for f < 21
  pub page : (get_or rows (row_for f) no_row).page ≤ 4

or_right : (a b : Bool) → a ≡ false → T (a || b) → T b
or_right true b e t = absurd (true-false e)
or_right false b e t = t

true_of : (a : Bool) → T a → a ≡ true
true_of true t = refl
true_of false t = absurd t

false_of : (a : Bool) → T (not a) → a ≡ false
false_of true t = absurd t
false_of false t = refl

pub simple-row : (f : ℕ) → f < 29 → is_apart f ≡ false → SimpleRow f
simple-row f l e =
    let all = or_right (is_apart f) _ e (below_at 29 has_simple_row all-simple-rows f l) in
    let first-four = all_simple (parts_for f) && has_field f (parts_for f) && not (has_field H (parts_for f)) && ltb (row_for f) 21 in
    let abcd = and_left first-four (leb (get_or rows (row_for f) no_row).page 4) all in
    let abc = and_left (all_simple (parts_for f) && has_field f (parts_for f) && not (has_field H (parts_for f))) (ltb (row_for f) 21) abcd in
    let ab = and_left (all_simple (parts_for f) && has_field f (parts_for f)) (not (has_field H (parts_for f))) abc in
    record {
      registers-only = and_left (all_simple (parts_for f)) (has_field f (parts_for f)) ab;
      own = true_of _ (and_right (all_simple (parts_for f)) (has_field f (parts_for f)) ab);
      not-page = false_of _ (and_right (all_simple (parts_for f) && has_field f (parts_for f)) (not (has_field H (parts_for f))) abc);
      listed = ltb→lt _ _ (and_right (all_simple (parts_for f) && has_field f (parts_for f) && not (has_field H (parts_for f))) (ltb (row_for f) 21) abcd);
      page = leb→le _ _ (and_right first-four (leb (get_or rows (row_for f) no_row).page 4) all);
    }

-- ---- the plain reading's registers

-- blanking leaves all but H, X and Y
pub blank-at : (r : Registers) (g : ℕ) → (g ≡ H → ⊥) → (g ≡ X → ⊥) → (g ≡ Y → ⊥) → at (blank r) g ≡ at r g
blank-at r g h x y = put_other H 0 (put X 0 (put Y 0 r)) g h ∙ put_other X 0 (put Y 0 r) g x ∙ put_other Y 0 r g y

pub apart-no : (f : ℕ) → is_apart f ≡ false → (f ≡ H → ⊥) × (f ≡ X → ⊥) × (f ≡ Y → ⊥)
apart-no f e =
    ((λ q. true-false (sym (ap is_apart q) ∙ e)), (λ q. true-false (sym (ap is_apart q) ∙ e)), (λ q. true-false (sym (ap is_apart q) ∙ e)))

-- a state of the registers that agrees with the target but for H, X and Y shows the target, where that is blank
pub shows-target : (r t : Registers) → blank t ≡ t → ((g : ℕ) → g < 29 → (g ≡ H → ⊥) → (g ≡ X → ⊥) → (g ≡ Y → ⊥) → at r g ≡ at t g) → blank r ≡ t
shows-target r t bt h = same-registers (blank r) (blank t) each ∙ bt
  where
    each : (g : ℕ) → g < 29 → at (blank r) g ≡ at (blank t) g
    each g l = go (ℕ_discrete g H) (ℕ_discrete g X) (ℕ_discrete g Y)
      where
        go : Dec (g ≡ H) → Dec (g ≡ X) → Dec (g ≡ Y) → at (blank r) g ≡ at (blank t) g
        go (yes e) _ _ = ap (at (blank r)) e ∙ ap (at (blank t)) (sym e)
        go (no a) (yes e) _ = ap (at (blank r)) e ∙ ap (at (blank t)) (sym e)
        go (no a) (no b) (yes e) = ap (at (blank r)) e ∙ ap (at (blank t)) (sym e)
        go (no a) (no b) (no c) = blank-at r g a b c ∙ h g l a b c ∙ sym (blank-at t g a b c)

-- registers whose H, X and Y are 0 are blank
pub blank-self : (t : Registers) → at t H ≡ 0 → at t X ≡ 0 → at t Y ≡ 0 → blank t ≡ t
blank-self t h x y = same-registers (blank t) t each
  where
    each : (g : ℕ) → g < 29 → at (blank t) g ≡ at t g
    each g l = go (ℕ_discrete g H) (ℕ_discrete g X) (ℕ_discrete g Y)
      where
        go : Dec (g ≡ H) → Dec (g ≡ X) → Dec (g ≡ Y) → at (blank t) g ≡ at t g
        go (yes e) _ _ = ap (at (blank t)) e ∙ sym h ∙ ap (at t) (sym e)
        go (no a) (yes e) _ = ap (at (blank t)) e ∙ sym x ∙ ap (at t) (sym e)
        go (no a) (no b) (yes e) = ap (at (blank t)) e ∙ sym y ∙ ap (at t) (sym e)
        go (no a) (no b) (no c) = blank-at t g a b c
