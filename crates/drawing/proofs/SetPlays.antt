-- A whole set: its events leave the registers that the plain reading says.
use mathlib.Core.Bool.{Bool, true, false, cond}
use mathlib.Core.List.{List, [], ◌∷◌, ◌++◌}
use mathlib.Core.Path.{◌≡◌, refl, sym, ap, ◌∙◌, subst}
use Prim.Native.Nat.{ℕ, ◌+◌, ◌-◌, ◌%◌, ◌≤◌, ◌<◌, zero-le}
use native.Mathlib.Decide.{ℕ_discrete}
use native.Mathlib.Omega.{arith}
use borrow.Author.Tests.{eq-eqb, ne_eqb, le-leb, leb-true}
use lib.Dec.{T, eqb, leb, eqb→eq}
use lib.ListN.{get_or, length}
use Rattle.registers.specs.declared.Registers.{Registers}
use Rattle.registers.specs.Encode.{row_byte, holds_in_range, with_parts, is_grey, has_field, row_for}
use Rattle.registers.specs.Places.{H, X, Y, GR, GS0, GS3}
use Rattle.registers.specs.Record.{limits, put, blank, allowed_registers}
use Rattle.registers.specs.State.{State}
use Rattle.registers.proofs.Below.{all_below, below_at, true-false}
use Rattle.registers.proofs.Parts.{grey-limit}
use Rattle.registers.proofs.Encode.{FitParts}
use Rattle.registers.proofs.Held.{held_fits, parts-in-range}
use Rattle.registers.proofs.Put.{put_same, put_other, put-allowed}
use Rattle.registers.proofs.TableTest.{row_no}
use Rattle.registers.proofs.Within.{both_left, both_right}
use Rattle.chip.specs.Plays.{Plays, Visible, Bytes, message, Does, Leads}
use Rattle.chip.specs.Plays.Leads.{no_more, by}
use Rattle.chip.proofs.Plays.{plays-weaken, message-plays}
use Rattle.chip.proofs.Rows.{leads-bytes, row-does, return-does, page-does}
use Rattle.drawing.specs.Plain.{set_to}
use Rattle.drawing.specs.Stream.{page_of, leave, enter, row_bytes, set_commands}
use Rattle.drawing.proofs.FillPlays.{Shows}
use Rattle.drawing.proofs.RunPlays.{seen-allowed, seen-page}
use Rattle.drawing.proofs.SetRows.{at, with-parts-at, parts_for, is_apart, SimpleRow, simple-row, shows-target, blank-at, blank-self, put-at}

-- ---- one row in its page, from page 0 and back

-- the commands of row i, from page 0 and back, take r to registers whose fields in the row are t's; everything else but H is as it was
record RowSet (f : ℕ) (t r : Registers) : Type 0 where
  after : Registers
  leads : Leads (row_bytes (row_for f ∷ []) t) r after
  fields : (g : ℕ) → (g ≡ H → ⊥) → at after g ≡ cond (has_field g (parts_for f)) (at t g) (at r g)

module _ (f : ℕ) (row : SimpleRow f) (t r : Registers) (zero-page : r.h ≡ 0) (ok : allowed_registers t ≡ true) where
  fit : FitParts (row_no (row_for f)).parts t
  fit = held_fits t ok (row_for f) row.listed row.page

  range : holds_in_range (row_no (row_for f)).parts t ≡ true
  range = parts-in-range t ok (row_no (row_for f)).parts

  abbrev page : ℕ
  page = page_of (row_for f)

  abbrev byte : ℕ
  byte = row_byte (row_no (row_for f)) t

  in-page-0 : page ≡ 0 → RowSet f t r
  in-page-0 e =
      record {
        after = with_parts (parts_for f) t r;
        leads = subst (λ (p : ℕ). Leads (enter p ++ byte ∷ leave p) r (with_parts (parts_for f) t r)) (sym e)
            (by (row-does (row_for f) row.listed t fit range r (omega arith) (e ∙ sym zero-page)) no_more);
        fields = λ g n. with-parts-at (parts_for f) row.registers-only t r g;
      }

  in-other-page : (page ≡ 0 → ⊥) → RowSet f t r
  in-other-page d =
      record {
        after = put H 0 inside;
        leads = subst (λ (bs : List ℕ). Leads bs r (put H 0 inside)) (sym shape)
            (by (page-does page r zero-page row.page)
            (by (row-does (row_for f) row.listed t fit range (put H page r) row.page refl) (by (return-does inside same-page) no_more)));
        fields = λ g n.
            put_other H 0 inside g n ∙ with-parts-at (parts_for f) row.registers-only t (put H page r) g
            ∙ ap (λ (x : ℕ). cond (has_field g (parts_for f)) (at t g) x) (put_other H page r g n);
      }
    where
      inside : Registers
      inside = with_parts (parts_for f) t (put H page r)

      same-page : inside.h ≤ 4
      same-page =
          subst (λ (h : ℕ). h ≤ 4)
          (sym (with-parts-at (parts_for f) row.registers-only t (put H page r) H ∙ ap (λ (b : Bool). cond b (at t H) page) row.not-page))
          row.page

      shape : enter page ++ byte ∷ leave page ≡ (8 + page) ∷ byte ∷ 1 ∷ []
      shape = simp (ne_eqb page 0 d)

  row-set : RowSet f t r
  row-set = go (ℕ_discrete page 0)
    where
      go : Dec (page ≡ 0) → RowSet f t r
      go (yes e) = in-page-0 e
      go (no d) = in-other-page d

-- ---- any register but the grey ones

pub put-blank : (f n : ℕ) (r : Registers) → (f ≡ H → ⊥) → (f ≡ X → ⊥) → (f ≡ Y → ⊥) → blank r ≡ r → blank (put f n r) ≡ put f n r
put-blank f n r h x y b =
    blank-self (put f n r) (put_other f n r H (λ e. h (sym e)) ∙ sym (ap (λ (z : Registers). at z H) b))
    (put_other f n r X (λ e. x (sym e)) ∙ sym (ap (λ (z : Registers). at z X) b)) (put_other f n r Y (λ e. y (sym e)) ∙ sym (ap (λ (z : Registers). at z Y) b))

pub blank-allowed : (r : Registers) → allowed_registers r ≡ true → allowed_registers (blank r) ≡ true
blank-allowed r h = put-allowed H 0 (put X 0 (put Y 0 r)) zero-le (put-allowed X 0 (put Y 0 r) zero-le (put-allowed Y 0 r zero-le h))

-- a value within its limit, for a register that a set can name
pub record SetFits (f n : ℕ) : Type 0 where
  pub place : f < 29
  pub not-page : f ≡ H → ⊥
  pub not_x : f ≡ X → ⊥
  pub not_y : f ≡ Y → ⊥
  pub value : n ≤ get_or limits f 0

-- the commands of a set take r to registers that the plain reading gives, but for H, X and Y
pub record Setting (f n : ℕ) (r : Registers) : Type 0 where
  pub after : Registers
  pub leads : Leads (set_commands f (set_to f n (blank r))) r after
  pub shows : blank after ≡ set_to f n (blank r)

set-simple :
    (f n : ℕ) → SetFits f n → is_grey f ≡ false → is_apart f ≡ false → (r : Registers) → r.h ≤ 4 → allowed_registers r ≡ true → Setting f n r
unfolding set_to
set-simple f n fits plain apart r page ok =
    record {
      after = done.after;
      leads = subst (λ (bs : List ℕ). Leads bs r done.after) (sym commands) (by (return-does r page) done.leads);
      shows = shows-target done.after t (put-blank f n (blank r) fits.not-page fits.not_x fits.not_y refl) each ∙ sym target;
    }
  where
    t : Registers
    t = put f n (blank r)

    target : set_to f n (blank r) ≡ t
    target = ap (λ (b : Bool). cond b (put f n (put GR (f - GS0) (blank r))) (put f n (blank r))) plain

    commands : set_commands f (set_to f n (blank r)) ≡ 1 ∷ row_bytes (row_for f ∷ []) t
    commands =
        ap (set_commands f) target ∙ ap (λ (b : Bool). 1 ∷ row_bytes (cond b (row_for GR ∷ row_for f ∷ []) (row_for f ∷ [])) (put f n (blank r))) plain

    row : SimpleRow f
    row = simple-row f fits.place apart

    done : RowSet f (put f n (blank r)) (put H 0 r)
    done = row-set f row (put f n (blank r)) (put H 0 r) refl (put-allowed f n (blank r) fits.value (blank-allowed r ok))

    other :
        (b : Bool) (g : ℕ) → has_field g (parts_for f) ≡ b → (g ≡ H → ⊥) → (g ≡ X → ⊥) → (g ≡ Y → ⊥)
        → cond b (at (put f n (blank r)) g) (at (put H 0 r) g) ≡ at (put f n (blank r)) g
    other true g e h x y = refl
    other false g e h x y =
        put_other H 0 r g h ∙ sym (blank-at r g h x y)
        ∙ sym (put_other f n (blank r) g (λ q. true-false (sym row.own ∙ ap (λ (k : ℕ). has_field k (parts_for f)) (sym q) ∙ e)))

    each : (g : ℕ) → g < 29 → (g ≡ H → ⊥) → (g ≡ X → ⊥) → (g ≡ Y → ⊥) → at done.after g ≡ at (put f n (blank r)) g
    each g l h x y = done.fields g h ∙ other (has_field g (parts_for f)) g refl h x y

-- ---- the grey registers

pub grey-bounds : (f : ℕ) → is_grey f ≡ true → (GS0 ≤ f) × (f ≤ GS3)
grey-bounds f e = (leb-true GS0 f (both_left (leb GS0 f) (leb f GS3) e), leb-true f GS3 (both_right (leb GS0 f) (leb f GS3) e))

grey-rows : T (all_below 29 (λ f. cond (is_grey f) (eqb (row_for f) 17) true))
grey-rows = tt

grey-row : (f : ℕ) → is_grey f ≡ true → row_for f ≡ 17
grey-row f g =
    let place : f < 29 = omega (arith, (grey-bounds f g).1) in
    eqb→eq (row_for f) 17
    (subst (λ (b : Bool). T (cond b (eqb (row_for f) 17) true)) g (below_at 29 (λ f. cond (is_grey f) (eqb (row_for f) 17) true) grey-rows f place))

-- page return, page 3, the row that selects the register, its level, page return
pub grey-commands : (f : ℕ) → is_grey f ≡ true → (t : Registers) → set_commands f t ≡ 1 ∷ 11 ∷ row_byte (row_no 16) t ∷ row_byte (row_no 17) t ∷ 1 ∷ []
grey-commands f g t =
    ap (λ (b : Bool). 1 ∷ row_bytes (cond b (row_for GR ∷ row_for f ∷ []) (row_for f ∷ [])) t) g ∙ ap (λ (i : ℕ). 1 ∷ row_bytes (16 ∷ i ∷ []) t) (grey-row f g)

module _ (k n : ℕ) (lk : k < 4) (ln : n ≤ 63) (r : Registers) (page : r.h ≤ 4) where
  -- what the registers are to be
  abbrev goal : Registers
  goal = put (GS0 + k) n (put GR k (blank r))

  goal-selects : at goal GR ≡ k
  goal-selects = put_other (GS0 + k) n (put GR k (blank r)) GR (λ e. omega arith)

  goal-level : at goal (GS0 + k) ≡ n
  goal-level = put_same (GS0 + k) n (put GR k (blank r)) (omega arith)

  chosen : GS0 + goal.gr % 4 ≡ GS0 + k
  chosen = omega (arith, goal-selects)

  fit-select : FitParts (row_no 16).parts goal
  fit-select = (omega (arith, goal-selects), tt)

  fit-level : FitParts (row_no 17).parts goal
  fit-level = (omega (arith, ap (at goal) chosen, goal-level), tt)

  after-select : Registers
  after-select = put GR (at goal GR) (put H 3 (put H 0 r))

  -- page return, page 3, select, level, page return
  grey-leads :
      Leads (1 ∷ 11 ∷ row_byte (row_no 16) goal ∷ row_byte (row_no 17) goal ∷ 1 ∷ []) r (put H 0 (put (GS0 + k) (at goal (GS0 + k)) after-select))
  unfolding after-select
  grey-leads =
      let levelled = put (GS0 + k) (at goal (GS0 + k)) after-select in
      by (return-does r page)
      (by (page-does 3 (put H 0 r) refl (omega arith))
      (by (row-does 16 (omega arith) goal fit-select refl (put H 3 (put H 0 r)) (omega arith) refl)
      (by
      (subst (λ (f : ℕ). Does (row_byte (row_no 17) goal) after-select (put f (at goal f) after-select)) chosen
      (row-does 17 (omega arith) goal fit-level refl after-select (omega arith) refl))
      (by (return-does levelled (omega (arith, put_other (GS0 + k) (at goal (GS0 + k)) after-select H (λ e. omega arith)))) no_more))))

  grey-each :
      (g : ℕ) → g < 29 → (g ≡ H → ⊥) → (g ≡ X → ⊥) → (g ≡ Y → ⊥) → at (put H 0 (put (GS0 + k) (at goal (GS0 + k)) after-select)) g ≡ at goal g
  unfolding after-select
  grey-each g l h x y =
      put_other H 0 (put (GS0 + k) (at goal (GS0 + k)) after-select) g h
      ∙ put-at (GS0 + k) g goal after-select (omega arith)
      ∙ ap (λ (v : ℕ). cond (eqb g (GS0 + k)) (at goal g) v) (put-at GR g goal (put H 3 (put H 0 r)) (omega arith))
      ∙ go (ℕ_discrete g (GS0 + k)) (ℕ_discrete g GR)
    where
      go :
          Dec (g ≡ GS0 + k) → Dec (g ≡ GR)
          → cond (eqb g (GS0 + k)) (at goal g) (cond (eqb g GR) (at goal g) (at (put H 3 (put H 0 r)) g)) ≡ at goal g
      go (yes e) _ = simp (eq-eqb g (GS0 + k) e)
      go (no d) (yes e) = simp (ne_eqb g (GS0 + k) d, eq-eqb g GR e)
      go (no d) (no c) =
          simp (ne_eqb g (GS0 + k) d, ne_eqb g GR c)
          (put_other H 3 (put H 0 r) g h ∙ put_other H 0 r g h ∙ sym (blank-at r g h x y) ∙ sym (put_other GR k (blank r) g c)
          ∙ sym (put_other (GS0 + k) n (put GR k (blank r)) g d))

  grey-blank : blank goal ≡ goal
  grey-blank = put-blank (GS0 + k) n (put GR k (blank r)) (λ e. omega arith) (λ e. omega arith) (λ e. omega arith) refl

  grey-shows : blank (put H 0 (put (GS0 + k) (at goal (GS0 + k)) after-select)) ≡ goal
  grey-shows = shows-target (put H 0 (put (GS0 + k) (at goal (GS0 + k)) after-select)) goal grey-blank grey-each

-- ---- any set

module _ (k n : ℕ) (lk : k < 4) (ln : n ≤ 63) (r : Registers) (page : r.h ≤ 4) where
  is-grey : is_grey (GS0 + k) ≡ true
  is-grey = simp (le-leb GS0 (GS0 + k) (omega arith), le-leb (GS0 + k) GS3 (omega arith))

  grey-target : set_to (GS0 + k) n (blank r) ≡ put (GS0 + k) n (put GR k (blank r))
  unfolding set_to
  grey-target =
      ap (λ (b : Bool). cond b (put (GS0 + k) n (put GR (GS0 + k - GS0) (blank r))) (put (GS0 + k) n (blank r))) is-grey
      ∙ ap (λ (x : ℕ). put (GS0 + k) n (put GR x (blank r))) (omega arith)

  set-grey : Setting (GS0 + k) n r
  set-grey =
      let goal' = put (GS0 + k) n (put GR k (blank r)) in
      record {
        after = put H 0 (put (GS0 + k) (at goal' (GS0 + k)) (after-select k n lk ln r page));
        leads = subst (λ (bs : List ℕ). Leads bs r (put H 0 (put (GS0 + k) (at goal' (GS0 + k)) (after-select k n lk ln r page))))
            (sym (ap (set_commands (GS0 + k)) grey-target ∙ grey-commands (GS0 + k) is-grey goal')) (grey-leads k n lk ln r page);
        shows = grey-shows k n lk ln r page ∙ sym grey-target;
      }

not-apart : (f : ℕ) → (f ≡ H → ⊥) → (f ≡ X → ⊥) → (f ≡ Y → ⊥) → is_grey f ≡ false → is_apart f ≡ false
not-apart f h x y g = simp (ne_eqb f H h, ne_eqb f X x, ne_eqb f Y y, g)

pub set-leads : (f n : ℕ) → SetFits f n → (r : Registers) → r.h ≤ 4 → allowed_registers r ≡ true → Setting f n r
set-leads f n fits r page ok = go (is_grey f) refl
  where
    go : (b : Bool) → is_grey f ≡ b → Setting f n r
    go false e = set-simple f n fits e (not-apart f fits.not-page fits.not_x fits.not_y e) r page ok
    go true e =
        let b = grey-bounds f e in
        let up : GS0 + (f - GS0) ≡ f = omega (arith, b.0) in
        let lk : f - GS0 < 4 = omega (arith, b.0, b.1) in
        let ln : n ≤ 63 = subst (λ (x : ℕ). n ≤ x) (ap (λ (g : ℕ). get_or limits g 0) (sym up) ∙ grey-limit (f - GS0) lk) fits.value in
        subst (λ (g : ℕ). Setting g n r) up (set-grey (f - GS0) n lk ln r page)

pub set-bytes : (f n : ℕ) → SetFits f n → (r : Registers) → r.h ≤ 4 → allowed_registers r ≡ true → Bytes (set_commands f (set_to f n (blank r)))
set-bytes f n fits r page ok = leads-bytes (set-leads f n fits r page ok).leads

-- the events of a set, from any state that shows q
pub set-plays :
    (f n : ℕ) → SetFits f n → (q : Registers) (m : List ℕ) (pins k : ℕ) (s : State) → Shows q m pins (length (message pins (set_commands f (set_to f n q))) + k) s
    → Plays (message pins (set_commands f (set_to f n q))) (Shows (set_to f n q) m pins k) s
set-plays f n fits q m pins k s shows =
    subst
    (λ (q : Registers).
    Visible shows.full m pins (length (message pins (set_commands f (set_to f n q))) + k) s
    → Plays (message pins (set_commands f (set_to f n q))) (Shows (set_to f n q) m pins k) s)
    shows.same from-full shows.visible
  where
    from-full :
        Visible shows.full m pins (length (message pins (set_commands f (set_to f n (blank shows.full)))) + k) s
        → Plays (message pins (set_commands f (set_to f n (blank shows.full)))) (Shows (set_to f n (blank shows.full)) m pins k) s
    from-full see =
        let r = shows.full in
        let bs = set_commands f (set_to f n (blank r)) in
        let page = seen-page r m pins (length (message pins bs) + k) s see in
        let ok = seen-allowed r m pins (length (message pins bs) + k) s see in
        let done = set-leads f n fits r page ok in
        plays-weaken (message pins bs) (Visible done.after m pins k) (Shows (set_to f n (blank r)) m pins k) s
        (λ t seen. record { full = done.after; visible = seen; same = done.shows }) (message-plays bs r done.after m pins k done.leads s see)
