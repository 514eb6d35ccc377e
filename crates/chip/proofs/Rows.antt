-- What command bytes do that were made from the table.
use mathlib.Core.Bool.{true}
use mathlib.Core.List.{List, [], ◌∷◌}
use mathlib.Core.Path.{◌≡◌, refl, sym, ap, ◌∙◌, subst}
use Prim.Native.Nat.{ℕ, ◌+◌, ◌*◌, ◌≤◌, ◌<◌}
use native.Mathlib.Omega.{arith}
use borrow.Author.Tests.{le-leb}
use lib.Dec.{eqb, eqb→eq}
use lib.ListN.{get_or-map}
use Rattle.registers.specs.declared.Registers.{Registers}
use Rattle.registers.specs.Encode.{row_byte, holds_in_range, with_parts}
use Rattle.registers.specs.Places.{H, X, Y}
use Rattle.registers.specs.Record.{put, blank}
use Rattle.registers.specs.Table.{Row, Part, rows, no_row, row_at, taken}
use Rattle.registers.proofs.Below.{below_at}
use Rattle.registers.proofs.Encode.{FitParts, row-byte, row-encodes, row-found, encodes-taken}
use Rattle.registers.proofs.TableTest.{row_no}
use Rattle.commands.specs.Command.{command_of, parts_at}
use Rattle.commands.proofs.Answers.{row-answer, return-taken}
use Rattle.display.specs.Display.{next_address}
use Rattle.chip.specs.Plays
use Rattle.chip.specs.Plays.{Does, Leads, advanced, Bytes}
use Rattle.chip.specs.Plays.Leads.{no_more, by}

-- ---- chains of commands

pub leads-bytes : {bs : List ℕ} {r r' : Registers} → Leads bs r r' → Bytes bs
leads-bytes no_more = tt
leads-bytes (by d l) = (d.is-byte, leads-bytes l)

-- ---- one command

-- a row's byte in its own page is taken where its numbers are in range, and sets the row's fields as meant
pub row-does :
    (i : ℕ) → i < 21 → (t : Registers) → FitParts (row_no i).parts t → holds_in_range (row_no i).parts t ≡ true
    → (r : Registers) → r.h ≤ 4 → (row_no i).page ≡ r.h
    → Does (row_byte (row_no i) t) r (with_parts (row_no i).parts t r)
unfolding command_of
row-does i l t fit range r h e =
    record {
      is-byte = row-byte i l t fit;
      is-taken = row-answer i l t fit r.h h e ∙ rw range;
      leaves = ap (λ (j : ℕ). taken (parts_at j) (row_byte (row_no i) t) r) (row-found i l t fit r.h h e)
          ∙ ap (λ (ps : List Part). taken ps (row_byte (row_no i) t) r) (get_or-map (λ (w : Row). w.parts) rows i no_row)
          ∙ encodes-taken (row_no i).parts (row_byte (row_no i) t) t r (row-encodes i l t fit);
    }

-- 00000001 selects page 0, in any page
return-row : (h : ℕ) → h ≤ 4 → row_at h 1 ≡ 1
unfolding row_at
return-row h l = eqb→eq (row_at h 1) 1 (below_at 5 (λ (h : ℕ). eqb (row_at h 1) 1) tt h (omega arith))

pub return-does : (r : Registers) → r.h ≤ 4 → Does 1 r (put H 0 r)
unfolding command_of
return-does r h = record { is-byte = omega arith; is-taken = return-taken r.h; leaves = ap (λ (j : ℕ). taken (parts_at j) 1 r) (return-row r.h h) }

-- a row with one part at bit 0
one-part :
    (c n : ℕ) (r q q' : Registers) → Does (c + (n * 1 + 0)) r q → q ≡ q' → Does (c + n) r q'
one-part c n r q q' d e =
    let same : c + (n * 1 + 0) ≡ c + n = omega arith in
    subst (λ (b : ℕ). Does b r q') same (record { is-byte = d.is-byte; is-taken = d.is-taken; leaves = d.leaves ∙ e })

-- in page 0: a page, an X and a Y that there are
pub page-does : (p : ℕ) (r : Registers) → r.h ≡ 0 → p ≤ 4 → Does (8 + p) r (put H p r)
page-does p r e h =
    one-part 8 p r _ (put H p r) (row-does 2 (omega arith) (put H p r) (omega arith, tt) (simp (le-leb p 4 h)) r (omega arith) (sym e)) (simp (le-leb p 4 h))

pub x-does : (x : ℕ) (r : Registers) → r.h ≡ 0 → x ≤ 100 → Does (128 + x) r (put X x r)
x-does x r e h =
    one-part 128 x r _ (put X x r) (row-does 5 (omega arith) (put X x r) (omega arith, tt) (simp (le-leb x 100 h)) r (omega arith) (sym e)) (simp (le-leb x 100 h))

pub y-does : (y : ℕ) (r : Registers) → r.h ≡ 0 → y ≤ 16 → Does (64 + y) r (put Y y r)
y-does y r e h =
    one-part 64 y r _ (put Y y r) (row-does 4 (omega arith) (put Y y r) (omega arith, tt) (simp (le-leb y 16 h)) r (omega arith) (sym e)) (simp (le-leb y 16 h))

-- page return, X and Y, from any page
pub address-leads :
    (x y : ℕ) (r : Registers) → r.h ≤ 4 → x ≤ 100 → y ≤ 16 → Leads (1 ∷ (128 + x) ∷ (64 + y) ∷ []) r (put Y y (put X x (put H 0 r)))
address-leads x y r h hx hy = by (return-does r h) (by (x-does x (put H 0 r) refl hx) (by (y-does y (put X x (put H 0 r)) refl hy) no_more))

-- display bytes move X and Y alone
pub advanced-blank : (ds : List ℕ) (r : Registers) → blank (advanced ds r) ≡ blank r
unfolding Plays.advanced next_address
advanced-blank [] r = refl
advanced-blank (d ∷ ds) r = advanced-blank ds (next_address r)
