-- Ways through the code, over plain variables.
use mathlib.Core.Path.{◌≡◌, refl, sym, ◌∙◌}
use mathlib.Core.Bool.{Bool, true, cond, ◌&&◌}
use mathlib.Core.List.{List}
use Prim.Native.Nat.{ℕ, ◌+◌, ◌*◌, ◌-◌, ◌<◌, ◌≤◌}
use native.Mathlib.Omega.{arith}
use borrow.Author.Tests.{eq-eqb, ne_eqb}
use lib.ListN.{length, get_or, drop, drop_of_length-le}
use Rattle.text.specs.Decimal.{is_digit}
use Rattle.text.proofs.Finding.{drop-next}
use Rattle.text.proofs.Numbers.{and_both, digit-bounds}
use Rattle.capture_lines.specs.declared.LineSoFar.{LineSoFar}
use Rattle.capture_lines.specs.declared.LineSoFar.TheVariants.{Empty, Number}
use Rattle.capture_lines.specs.declared.Scanned.{Scanned}
use Rattle.capture_lines.specs.Line.{newline}
use Rattle.capture_lines.specs.SoFar.{takes_digit, on_number, with_byte, scanned_from, PartlyScanned}

-- a test by its value
pub chosen : (t : Bool) (l a b : LineSoFar) → t ≡ true → l ≡ a → l ≡ cond t a b
chosen t l a b e h = rw e h

-- ---- digits

module _ (b : ℕ) (t : Bool) (e : t ≡ is_digit b) where
  pub digit-range : t ≡ true → (48 ≤ b) × (b ≤ 57)
  digit-range h = digit-bounds b (sym e ∙ h)

  -- one digit more behind n
  module _ (n : ℕ) (u : Bool) (eu : u ≡ takes_digit n) where
    same_test : (v : Bool) → u && t ≡ v → takes_digit n && is_digit b ≡ v
    same_test v h = rw (← eu, ← e) h

    pub more : u && t ≡ true → Number (n * 10 + (b - 48)) ≡ on_number n b
    more h = chosen (takes_digit n && is_digit b) _ _ _ (same_test true h) refl

-- ---- a line of a known kind

module _ (known line : LineSoFar) (e : line ≡ known) where
  pub partly-known : (part : List ℕ) (at : ℕ) (r : Scanned) → PartlyScanned part at known r → PartlyScanned part at line r
  partly-known part at r h = rw e h

-- ---- up to the next newline

module _ (part : List ℕ) (at : ℕ) (l : LineSoFar) where
  pub scan-stops : at < length part → get_or part at 0 ≡ newline → scanned_from at (drop at part) l ≡ record { line = l; at = at }
  unfolding scanned_from
  scan-stops h e = rw (drop-next part at h, eq-eqb _ _ e)

  pub scan-on :
      at < length part → (get_or part at 0 ≡ newline → ⊥) → (l' : LineSoFar) → l' ≡ with_byte l (get_or part at 0)
      → scanned_from (at + 1) (drop (at + 1) part) l' ≡ scanned_from at (drop at part) l
  unfolding scanned_from
  scan-on h n l' e = rw (drop-next part at h, ne_eqb _ _ n, e)

  pub scan-ends : length part ≤ at → scanned_from at (drop at part) l ≡ record { line = l; at = at }
  unfolding scanned_from
  scan-ends h = rw (drop_of_length-le part h)

-- a digit that may follow, and one that begins an event line
module _ (part : List ℕ) (at : ℕ) (h : at < length part) (t : Bool) (e : t ≡ is_digit (get_or part at 0)) where
  no-newline : t ≡ true → get_or part at 0 ≡ newline → ⊥
  no-newline is q = let range = digit-range (get_or part at 0) t e is in omega arith

  pub digit-follows :
      (n : ℕ) (u : Bool) → u ≡ takes_digit n → u && t ≡ true
      → scanned_from (at + 1) (drop (at + 1) part) (Number (n * 10 + (get_or part at 0 - 48))) ≡ scanned_from at (drop at part) (Number n)
  unfolding with_byte
  digit-follows n u eu is =
      scan-on part at (Number n) h (no-newline (and_both u t is).1) _ (more (get_or part at 0) t e n u eu is)

  pub digit-begins : t ≡ true → scanned_from (at + 1) (drop (at + 1) part) (Number (get_or part at 0 - 48)) ≡ scanned_from at (drop at part) Empty
  unfolding with_byte
  digit-begins is = scan-on part at Empty h (no-newline is) _ (chosen (is_digit (get_or part at 0)) _ _ _ (sym e ∙ is) refl)
