-- What is promised of the picture, in one place: read this file first. The work stands in the files beside it.
use mathlib.Core.Path.{◌≡◌, refl, sym, ap, subst, ◌∙◌}
use mathlib.Core.Bool.{Bool, true, false, not}
use mathlib.Core.List.{List, ◌++◌, append_assoc}
use mathlib.Core.Logic.{◌↔◌}
use Prim.Native.Nat.{ℕ, zero, suc, ◌+◌, ◌*◌, ◌-◌, ◌≤◌, ◌<◌}
use native.Mathlib.Omega.{arith}
use lib.Dec.{eqb}
use lib.ListN.{length}
use Rattle.registers.specs.declared.Chip.{Chip}
use Rattle.registers.specs.Record.{allowed}
use Rattle.registers.specs.Refusals.{refuse, ◌then◌}
use Rattle.registers.specs.State.{places}
use Rattle.std.specs.Prelude.{Ok, Err}
use Rattle.glass.specs.declared.answer.Shown.TheVariants as shown
use Rattle.glass.specs.Glass.{glass_of, glass_refusal, place_refusal}
use Rattle.glass.specs.When.{OnGlass, Tells, LitBy}
use Rattle.glass.proofs.Refusals.{is-on, glass-exactly}
use Rattle.glass.proofs.Laws.{tells, level-64-when}
use Rattle.text.specs.Text.{bytes}
use Rattle.text.proofs.Finding.{count-append}
use Rattle.print.specs.Printed.{decimal_of, parts_from, whole_text, NumberSays}
use Rattle.print.proofs.Laws.{number-says}
use Rattle.print.proofs.Writing.{parts-split, parts-count}
use Rattle.picture.specs.Picture.{grey, rgb, colour_of, pixel_text, header, pixel_at, pixel_count, pixmap_of, pixmap_refusal, pixmap_number, pixmap_call}
use Rattle.picture.specs.Order.{LineAt}
use Rattle.picture.proofs.Lines.{one_line, pixel-of}
use Rattle.picture.proofs.Colours.{colours-apart}
-- how long the text is at most
pub use Rattle.picture.proofs.Lines.{pixmap-bound}

-- ---- refusals

-- the picture is refused where each of its pixels is, by the same number
pub as-the-glass : (c : Chip) (n row column : ℕ) → OnGlass row column → pixmap_refusal c n ≡ glass_refusal c n row column
unfolding pixmap_refusal glass_refusal place_refusal
as-the-glass c n row column on = sym (simp (is-on row column on) (go (eqb n places) (allowed c)))
  where
    go : (l a : Bool) → refuse (not l) 1 then refuse (not a) 2 then 0 ≡ refuse (not l) 1 then refuse (not a) 2
    go true true = refl
    go true false = refl
    go false a = refl

-- the number of its answer: that of the refusal where there is one; else 10 exactly where the output is shorter than the picture, 0 exactly where the
-- picture was written
module _ (c : Chip) (memory out : List ℕ) where
  pub pixmap-number-exactly :
      (pixmap_refusal c (length memory) ≡ 0 → NumberSays pixmap_number 10 (pixmap_of c memory) out (pixmap_call c memory out))
      × ((pixmap_refusal c (length memory) ≡ 0 → ⊥) → pixmap_number (pixmap_call c memory out).answer ≡ pixmap_refusal c (length memory))
  unfolding whole_text
  pixmap-number-exactly = (λ e. rw e (number-says 10 (λ z. omega arith) (pixmap_of c memory) out), λ n. go (pixmap_refusal c (length memory)) n)
    where
      go : (k : ℕ) → (k ≡ 0 → ⊥) → pixmap_number (whole_text k (pixmap_of c memory) out).answer ≡ k
      go zero n = absurd (n refl)
      go (suc k) n = refl

-- ---- colours

-- level 0 is white, and each level has a grey of its own, the higher the darker
pub white : grey 0 ≡ 255
white = refl

pub darker : (g h : ℕ) → g < h → h ≤ 64 → grey h < grey g
darker g h l m = omega arith

-- level 64, which a grey register of 63 shows, is black
pub black : pixel_text (colour_of (Ok (shown.Level 64))) ≡ bytes "0 0 0\n"
unfolding decimal_of
black = refl

-- ---- pixels

module _ (c : Chip) (memory : List ℕ) (row column : ℕ) (on : OnGlass row column) where
  -- after the header's three lines, row by row from the top, and in a row from the left
  pub pixel-there : LineAt (pixmap_of c memory) (3 + (101 * row + column)) (pixel_text (colour_of (glass_of c memory row column)))
  unfolding pixmap_of
  pixel-there = go pixel_count (101 * row + column) refl (omega (arith, on.row_there, on.column_there)) (pixel-of c memory row column on.column_there)
    where
      go :
          (n p : ℕ) {line : List ℕ} → n ≡ pixel_count → p < pixel_count → pixel_at c memory p ≡ line
          → LineAt (header ++ parts_from (pixel_at c memory) 0 n) (3 + p) line
      go n p {line} e h same =
          let f : ℕ → List ℕ = pixel_at c memory in
          let rest : List ℕ = parts_from f (p + 1) (n - (p + 1)) in
          record {
            front = header ++ parts_from f 0 p;
            back = rest;
            whole =
                ap (λ (l : List ℕ). header ++ l) (parts-split f p (n - (p + 1)) 0 p n (omega arith) (omega arith))
                ∙ ap (λ (l : List ℕ). header ++ (parts_from f 0 p ++ (l ++ rest))) same
                ∙ sym (append_assoc header (parts_from f 0 p) (line ++ rest));
            before = count-append 10 header (parts_from f 0 p) ∙ ap (λ (k : ℕ). 3 + k) (parts-count 10 f (one_line c memory) p 0);
          }

  passed : pixmap_refusal c (length memory) ≡ 0 → glass_refusal c (length memory) row column ≡ 0
  passed e = sym (as-the-glass c (length memory) row column on) ∙ e

  is_told : pixmap_refusal c (length memory) ≡ 0 → Tells (glass_of c memory row column)
  is_told e = tells c memory row column ((glass-exactly c (length memory) row column 0).0 (passed e))

  -- no pixel of a picture that is not refused is
  pub none-refused : pixmap_refusal c (length memory) ≡ 0 → (k : ℕ) → glass_of c memory row column ≡ Err k → ⊥
  none-refused e k r = subst Tells r (is_told e)

  -- it is black exactly where the grey register that it uses holds 63
  pub black-when : pixmap_refusal c (length memory) ≡ 0 → (colour_of (glass_of c memory row column) ≡ rgb 0 0 0) ↔ LitBy c memory row column 63
  black-when e = (
    λ black-there. ((level-64-when c memory row column).0 (colours-apart _ (Ok (shown.Level 64)) (is_told e) (omega arith) black-there)).1,
    λ lit. ap colour_of ((level-64-when c memory row column).1 ((glass-exactly c (length memory) row column 0).0 (passed e), lit)),
  )

-- two pixels, of one picture or of two, have the same colour only if they show the same
pub colour-tells :
    (c d : Chip) (m w : List ℕ) (row column row' column' : ℕ) → OnGlass row column → OnGlass row' column'
    → pixmap_refusal c (length m) ≡ 0 → pixmap_refusal d (length w) ≡ 0
    → colour_of (glass_of c m row column) ≡ colour_of (glass_of d w row' column') → glass_of c m row column ≡ glass_of d w row' column'
colour-tells c d m w row column row' column' on on' e e' same =
    colours-apart _ _ (is_told c m row column on e) (is_told d w row' column' on' e') same
