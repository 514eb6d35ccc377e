-- Ways through the code, over plain variables: what is written part by part is the whole of it.
use mathlib.Core.Bool.{Bool, cond}
use mathlib.Core.List.{List, [], ◌∷◌, ◌++◌, append_assoc}
use mathlib.Core.Path.{◌≡◌, sym, ap, ◌∙◌}
use Prim.Native.Nat.{ℕ, ◌*◌, ◌/◌, ◌%◌, ◌^◌, ◌≤◌, ◌<◌}
use native.Mathlib.Omega.{arith}
use borrow.Author.Tests.{eq-eqb, ne_eqb}
use lib.Dec.{eqb}
use lib.ListN.{length, get_or}
use lib.Pow.{pow_pos, shl_exact}
use Rattle.registers.specs.declared.Registers.{Registers}
use Rattle.registers.specs.Data.{part_rows, part_targets, part_lows, part_widths, place_of}
use Rattle.registers.specs.Record.{names, values}
use Rattle.registers.specs.Table.{above}
use Rattle.registers.proofs.Encode.{above-div}
use Rattle.registers.proofs.NamePieces.{name-there}
use Rattle.text.specs.Text.{split, join}
use Rattle.print.specs.declared.Printout.{Printout}
use Rattle.print.specs.Printed.{top}
use Rattle.print.specs.Prints.{Prints}
use Rattle.print.proofs.Writing.{prints-same, prints_none}
use Rattle.instruction_table.proofs.RowByte.{width-bound}
use Rattle.event_words.specs.Fields.{named_field, field_at}

-- ---- a value that the code knows by its variant, or by a test

pub of-taken : (xs ys : List ℕ) {p q : Printout} {n k : ℕ} → n ≡ k → Prints p xs q → Prints p (cond (eqb n k) xs ys) q
of-taken xs ys {n = n} {k = k} e w = prints-same (ap (λ (t : Bool). cond t xs ys) (sym (eq-eqb n k e))) w

pub of_left : (xs ys : List ℕ) {p q : Printout} {n k : ℕ} → (n ≡ k → ⊥) → Prints p ys q → Prints p (cond (eqb n k) xs ys) q
of_left xs ys {n = n} {k = k} e w = prints-same (ap (λ (t : Bool). cond t xs ys) (sym (ne_eqb n k e))) w

-- ---- numbers parted by a space

pub spaced : (a b c : List ℕ) → (a ++ 32 ∷ []) ++ ((b ++ 32 ∷ []) ++ c) ≡ a ++ 32 ∷ (b ++ 32 ∷ c)
spaced a b c = simp append_assoc

-- ---- a field

pub name-found : (all name : List ℕ) (place : ℕ) → all ≡ join 32 names → name ≡ get_or (split 32 all) place [] → name ≡ get_or names place []
name-found all name place is_all is_name = is_name ∙ ap (λ (s : List ℕ). get_or (split 32 s) place []) is_all ∙ name-there place

-- the number in the bits of part k: l is its lowest bit, w its width
module _ (k b l w : ℕ) (low : l ≡ get_or part_lows k 0) (width : w ≡ get_or part_widths k 0) where
  one_shifted : (1 * 2 ^ w) % 2 ^ 8 ≡ 2 ^ w
  one_shifted = shl_exact 1 w 8 (omega arith) (omega (arith, width-bound k)) ∙ omega arith

  pub some-numbers : 0 < (1 * 2 ^ w) % 2 ^ 8
  some-numbers = rw one_shifted (pow_pos w)

  pub value-at : b / 2 ^ l % ((1 * 2 ^ w) % 2 ^ 8) ≡ above (get_or part_lows k 0) b % 2 ^ get_or part_widths k 0
  value-at =
      rw one_shifted
      (ap (λ (x : ℕ). b / 2 ^ x % 2 ^ w) low
      ∙ ap (λ (x : ℕ). b / 2 ^ get_or part_lows k 0 % 2 ^ x) width
      ∙ ap (λ (x : ℕ). x % 2 ^ get_or part_widths k 0) (sym (above-div (get_or part_lows k 0) b)))

-- part k of the table, of row o, with target g, which stands for place q; n is the number in its bits
module _ (r : Registers) (b i k o : ℕ) (owner : o ≡ get_or part_rows k 0) where
  pub field-of-other : {p : Printout} → length p.out.now ≤ top → (o ≡ i → ⊥) → Prints p (field_at r b i k) p
  field-of-other {p} h d = of_left _ _ (λ e. d (owner ∙ e)) (prints_none p h)

  pub field-of-own :
      {p s : Printout} (g q n : ℕ) → o ≡ i → g ≡ get_or part_targets k 0 → q ≡ place_of g (values r)
      → n ≡ above (get_or part_lows k 0) b % 2 ^ get_or part_widths k 0
      → Prints p (named_field q n) s → Prints p (field_at r b i k) s
  field-of-own g q n e target register number w =
      of-taken _ _ (sym owner ∙ e)
      (prints-same
      (ap (λ (x : ℕ). named_field x n) (register ∙ ap (λ (x : ℕ). place_of x (values r)) target)
      ∙ ap (λ (x : ℕ). named_field (place_of (get_or part_targets k 0) (values r)) x) number)
      w)

-- ---- the line

pub line-fields :
    (a b c d : List ℕ)
    → a ++ ((9 ∷ []) ++ ((b ++ (9 ∷ [])) ++ (c ++ ((9 ∷ []) ++ (d ++ (10 ∷ [])))))) ≡ (a ++ 9 ∷ (b ++ 9 ∷ (c ++ 9 ∷ d))) ++ (10 ∷ [])
line-fields a b c d = simp append_assoc
