-- What is promised of the glass, in one place: read this file first. The work stands in the files beside it.
use mathlib.Core.Path.{◌≡◌, refl, sym, ap, ap₂, subst, ◌∙◌}
use mathlib.Core.Bool.{true}
use mathlib.Core.List.{List}
use mathlib.Core.Logic.{◌⊎◌, ◌↔◌, inl, inr}
use Prim.Native.Nat.{ℕ, zero, suc, ◌+◌, ◌/◌, ◌%◌, ◌-◌, ◌≤◌, ◌<◌, zero-le}
use native.Mathlib.Omega.{arith}
use borrow.Author.Tests.{le-ltb}
use lib.ListN.{length, get_or}
use Rattle.std.specs.Prelude.{Result, Ok, Err}
use Rattle.registers.specs.declared.Chip.{Chip}
use Rattle.registers.specs.Places.{MX, MY}
use Rattle.registers.specs.Record.{allowed}
use Rattle.registers.specs.Refusals.{◌then◌, length_refusal}
use Rattle.registers.specs.State.{places}
use Rattle.glass.specs.declared.answer.Shown.{Shown}
use Rattle.glass.specs.declared.answer.Shown.TheVariants as shown
use Rattle.glass.specs.Pixel.{place_at, held_by, level_for, level_of}
use Rattle.glass.specs.Answer.{shown_number}
use Rattle.glass.specs.Changed.{changed}
use Rattle.glass.specs.Glass.{place_refusal, glass_refusal, told_unless, ram_row_of, cell_of, shown_by, shown_of, shown_at, glass_of}
use Rattle.glass.specs.When.{PlaceWhen, GlassWhen, Tells, pixel_on, LitBy}
use Rattle.glass.proofs.Pixels.{ram-bound, place_of}
use Rattle.glass.proofs.Refusals.{place-exactly, glass-exactly, when-bound}
use Rattle.glass.proofs.Views.{changed-refusal, mirrored-refusal, flipped-row, my-bound, refused-by, found-at, dark-either, dark-by}
use Rattle.glass.proofs.Levels.{level-kept, level-kinds, level-apart, held-bound, UsesLevel, uses-level, uses-one-of-four, one-level, number-of-level}

-- ---- refusals and answers

module _ (c : Chip) (row column : ℕ) where
  -- each number comes exactly when document 01's table says
  pub place-refused-when : (k : ℕ) → (cell_of c row column ≡ Err (suc k)) ↔ PlaceWhen c row column (suc k)
  unfolding cell_of
  place-refused-when k =
      (λ e. (place-exactly c row column (suc k)).0 (refused-by _ k _ e), λ w. rw ((place-exactly c row column (suc k)).1 w))

  -- else there is a place, within the memories, in the row's bank and the column
  pub place-shown : PlaceWhen c row column 0 → cell_of c row column ≡ Ok (place_at (ram_row_of c row) column)
  unfolding cell_of
  place-shown w = rw ((place-exactly c row column 0).1 w)

  pub place-within : (p : ℕ) → cell_of c row column ≡ Ok p → (p < places) × (p / 101 ≡ ram_row_of c row / 4) × (p % 101 ≡ column)
  unfolding cell_of
  place-within p e =
      let found = found-at _ _ p e in
      let on = ((place-exactly c row column 0).0 found.0).1 in
      place_of (ram_row_of c row) column p (ram-bound c.registers.my row on.row_there) on.column_there found.1

module _ (c : Chip) (m : List ℕ) (row column : ℕ) where
  pub glass-refused-when : (k : ℕ) → (glass_of c m row column ≡ Err (suc k)) ↔ GlassWhen c (length m) row column (suc k)
  unfolding glass_of
  glass-refused-when k = (
    λ e. (glass-exactly c (length m) row column (suc k)).0 (refused-by _ k _ e),
    λ w. rw ((glass-exactly c (length m) row column (suc k)).1 w),
  )

  -- the pixel's value stands in the byte at its place, and nothing else of the memory is shown
  pub stands-in-byte :
      (p : ℕ) → length m ≡ places → cell_of c row column ≡ Ok p
      → glass_of c m row column ≡ Ok (shown_of c.registers (ram_row_of c row) (get_or m p 0))
  unfolding cell_of glass_of
  stands-in-byte p l e =
      let found = found-at _ _ p e in
      let on = (place-exactly c row column 0).0 found.0 in
      rw ((glass-exactly c (length m) row column 0).1 (l, on.0, on.1))
      (ap (λ (q : ℕ). Ok (shown_of c.registers (ram_row_of c row) (get_or m q 0))) found.1)

  -- PD or DOF darken all, and nothing else does
  pub dark-when : (glass_of c m row column ≡ Ok shown.Dark) ↔ (GlassWhen c (length m) row column 0 × ((c.registers.pd ≡ 1) ⊎ (c.registers.dof ≡ 1)))
  unfolding glass_of
  dark-when = (
    λ e. let through = found-at (glass_refusal c (length m) row column) _ shown.Dark e in (
      (glass-exactly c (length m) row column 0).0 through.0,
      dark-by (level_of c.registers) c.registers (ram_row_of c row) _ through.1,
    ),
    λ w. rw ((glass-exactly c (length m) row column 0).1 w.0, dark-either c.registers w.1),
  )

-- ---- levels: document 01's rule as document 02, W2, amends it

module _ (c : Chip) (m : List ℕ) (row column : ℕ) where
  -- a level that is shown is that of the register used, and nothing was refused
  pub level-used : (g : ℕ) → glass_of c m row column ≡ Ok (shown.Level g) → GlassWhen c (length m) row column 0 × UsesLevel (level_of c.registers) (pixel_on c m row column) g
  unfolding glass_of
  level-used g e =
      let through = found-at (glass_refusal c (length m) row column) _ (shown.Level g) e in
      ((glass-exactly c (length m) row column 0).0 through.0, uses-level (level_of c.registers) (pixel_on c m row column) g through.1)

  -- the level for a number is shown exactly where the register used holds it
  pub level-exactly :
      (n : ℕ) → n ≤ 63 → (glass_of c m row column ≡ Ok (shown.Level (level_for n))) ↔ (GlassWhen c (length m) row column 0 × LitBy c m row column n)
  unfolding glass_of
  level-exactly n h = (
    λ e. let found = level-used (level_for n) e in
        let f : ℕ = found.1.register in (
          found.0,
          record {
            register = f;
            used = found.1.used;
            holds = level-apart (held_by c.registers f) n (held-bound c found.0.1 f) h found.1.shows;
          },
        ),
    λ w. rw ((glass-exactly c (length m) row column 0).1 w.0, w.1.used, w.1.holds),
  )

  -- a level is 0 to 62, or 64
  pub level-within : (g : ℕ) → glass_of c m row column ≡ Ok (shown.Level g) → (g < 63) ⊎ (g ≡ 64)
  level-within g e =
      let found = level-used g e in
      let f : ℕ = found.1.register in
      subst (λ (x : ℕ). (x < 63) ⊎ (x ≡ 64)) found.1.shows (level-kinds (held_by c.registers f) (held-bound c found.0.1 f))

  pub level-bound : (g : ℕ) → glass_of c m row column ≡ Ok (shown.Level g) → g ≤ 64
  level-bound g e = go (level-within g e)
    where
      go : (g < 63) ⊎ (g ≡ 64) → g ≤ 64
      go (inl h) = omega arith
      go (inr h) = omega arith

  -- what is not refused is told
  pub tells : GlassWhen c (length m) row column 0 → Tells (glass_of c m row column)
  unfolding glass_of
  tells passed = go (glass_of c m row column) refl
    where
      go : (s : Result Shown ℕ) → glass_of c m row column ≡ s → Tells s
      go (Ok (shown.Level g)) e = level-bound g e
      go (Ok shown.Dark) e = tt
      go (Ok shown.Undriven) e = tt
      go (Err k) e =
          let found : told_unless (glass_refusal c (length m) row column) (shown_by (level_of c.registers) (pixel_on c m row column)) ≡ Err k = e in
          let e' = rw ((glass-exactly c (length m) row column 0).1 passed) at found in cc

  -- 64 exactly where nothing is refused and the register used holds 63; a lower one exactly where it holds that number
  pub level-64-when : (glass_of c m row column ≡ Ok (shown.Level 64)) ↔ (GlassWhen c (length m) row column 0 × LitBy c m row column 63)
  level-64-when = level-exactly 63 (omega arith)

  pub level-when : (g : ℕ) → g < 63 → (glass_of c m row column ≡ Ok (shown.Level g)) ↔ (GlassWhen c (length m) row column 0 × LitBy c m row column g)
  level-when g h =
      subst (λ (x : ℕ). (glass_of c m row column ≡ Ok (shown.Level x)) ↔ (GlassWhen c (length m) row column 0 × LitBy c m row column g)) (level-kept g (λ e. omega arith))
      (level-exactly g (omega arith))

  -- the register used is one of the four
  pub one-of-four : (n : ℕ) (lit : LitBy c m row column n) → lit.register ≤ 3
  one-of-four n lit = uses-one-of-four c.registers (ram_row_of c row) _ lit.register lit.used

  -- no refusal is above 5
  pub refused-to-5 : (k : ℕ) → glass_of c m row column ≡ Err k → k ≤ 5
  refused-to-5 zero e = zero-le
  refused-to-5 (suc k) e = when-bound c (length m) row column (suc k) ((glass-refused-when c m row column k).0 e)

  -- 512 + g is the number of level g alone
  pub level-number : (g : ℕ) → (shown_number (glass_of c m row column) ≡ 512 + g) ↔ (glass_of c m row column ≡ Ok (shown.Level g))
  level-number g = (number-of-level _ g refused-to-5, λ e. rw e)

-- two grey registers, of one chip or of two, show the same level exactly if they hold the same number
pub same-level :
    (c d : Chip) → allowed c ≡ true → allowed d ≡ true → (f g : ℕ)
    → (level_of c.registers f ≡ level_of d.registers g) ↔ (held_by c.registers f ≡ held_by d.registers g)
same-level c d a b f g = (level-apart _ _ (held-bound c a f) (held-bound d b g), λ e. ap level_for e)

-- two lit pixels, of one glass or of two, show the same exactly if the registers that they use hold the same number
pub same-shown :
    (c d : Chip) (m w : List ℕ) (row column row' column' n k : ℕ)
    → GlassWhen c (length m) row column 0 → LitBy c m row column n
    → GlassWhen d (length w) row' column' 0 → LitBy d w row' column' k
    → (glass_of c m row column ≡ glass_of d w row' column') ↔ (n ≡ k)
same-shown c d m w row column row' column' n k on lit on' lit' =
    let n-bound : n ≤ 63 = subst (λ (x : ℕ). x ≤ 63) lit.holds (held-bound c on.1 lit.register) in
    let k-bound : k ≤ 63 = subst (λ (x : ℕ). x ≤ 63) lit'.holds (held-bound d on'.1 lit'.register) in
    let first = (level-exactly c m row column n n-bound).1 (on, lit) in
    let second = (level-exactly d w row' column' k k-bound).1 (on', lit') in (
      λ e. level-apart n k n-bound k-bound (one-level (level_for n) (level_for k) (sym first ∙ e ∙ second)),
      λ e. first ∙ ap (λ (x : ℕ). Ok (shown.Level (level_for x))) e ∙ sym second,
    )

-- ---- one byte

-- two memories that agree at a pixel's place show the same pixel
pub one_byte :
    (c : Chip) (m n : List ℕ) (row column p : ℕ) → length m ≡ length n → cell_of c row column ≡ Ok p → get_or m p 0 ≡ get_or n p 0
    → glass_of c m row column ≡ glass_of c n row column
unfolding cell_of glass_of
one_byte c m n row column p l e h =
    let at_p : place_at (ram_row_of c row) column ≡ p = (found-at (place_refusal c row column) _ p e).1 in
    ap₂ (λ (k byte : ℕ). told_unless (glass_refusal c k row column) (shown_of c.registers (ram_row_of c row) byte)) l
    (ap (λ (q : ℕ). get_or m q 0) at_p ∙ h ∙ sym (ap (λ (q : ℕ). get_or n q 0) at_p))

-- ---- one row

-- a pixel is refused where the first of its row is, by the same number
pub as-its-row : (c : Chip) (n row column : ℕ) → column ≤ 100 → glass_refusal c n row column ≡ glass_refusal c n row 0
unfolding glass_refusal place_refusal
as-its-row c n row column h = rw (le-ltb 100 column h)

-- ---- one set of registers

-- two allowed records with the same registers show the same, whatever else they hold
pub registers-alone :
    (c d : Chip) (m : List ℕ) (row column : ℕ) → allowed c ≡ true → allowed d ≡ true → c.registers ≡ d.registers
    → glass_of c m row column ≡ glass_of d m row column
unfolding glass_of glass_refusal place_refusal
registers-alone c d m row column a b e = rw (a, b, e)

-- ---- mirrors

module _ (c : Chip) (is-allowed : allowed c ≡ true) (row column : ℕ) where
  -- flipping MY mirrors the picture: a row then shows what row 66 − row showed
  pub my-mirrors-place : row ≤ 66 → cell_of (changed MY (1 - c.registers.my) c) row column ≡ cell_of c (66 - row) column
  unfolding cell_of
  my-mirrors-place h =
      ap₂ (λ (x ram : ℕ). told_unless x (place_at ram column)) (mirrored-refusal c is-allowed row column h)
      (flipped-row c.registers.my row (my-bound c is-allowed) h)

  pub my-mirrors : (m : List ℕ) → row ≤ 66 → glass_of (changed MY (1 - c.registers.my) c) m row column ≡ glass_of c m (66 - row) column
  unfolding glass_of glass_refusal
  my-mirrors m h =
      ap₂ (λ (x ram : ℕ). told_unless (length_refusal (length m) then x) (shown_at c.registers m ram column)) (mirrored-refusal c is-allowed row column h)
      (flipped-row c.registers.my row (my-bound c is-allowed) h)

  -- changing MX changes nothing that is shown
  pub mx-unseen-place : (n : ℕ) → n ≤ 1 → cell_of (changed MX n c) row column ≡ cell_of c row column
  unfolding cell_of
  mx-unseen-place n h =
      ap (λ (x : ℕ). told_unless x (place_at (ram_row_of c row) column)) (changed-refusal MX n c h is-allowed row column)

  pub mx-unseen : (m : List ℕ) (n : ℕ) → n ≤ 1 → glass_of (changed MX n c) m row column ≡ glass_of c m row column
  unfolding glass_of glass_refusal
  mx-unseen m n h =
      ap (λ (x : ℕ). told_unless (length_refusal (length m) then x) (shown_at c.registers m (ram_row_of c row) column))
      (changed-refusal MX n c h is-allowed row column)
