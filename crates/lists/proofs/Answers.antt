-- The three answers to a line that parses: the line, 7 or 8.
use Rattle.std.specs.Prelude.{Result, Ok, Err}
use mathlib.Core.Path.{◌≡◌, refl, sym, ap, ◌∙◌}
use mathlib.Core.Bool.{Bool, true, false, cond}
use mathlib.Core.List.{List}
use mathlib.Core.Logic.{◌⊎◌, inl, inr}
use Prim.Native.Nat.{ℕ, ◌≤◌}
use native.Mathlib.Decide.{dec_le}
use native.Mathlib.Omega.{arith}
use borrow.Author.Tests.{le-leb, lt-leb}
use lib.ListN.{get_or}
use Rattle.registers.specs.Record.{limits}
use Rattle.lists.specs.declared.Line.{Line}
use Rattle.lists.specs.declared.Line.TheVariants.{Fill, Set}
use Rattle.lists.specs.Line.{numbers_of, line_of, fill_fits, fill_within, set_within}
use Rattle.lists.specs.Syntax.{Syntax, put, fill, set, as_line, InRange, RowReadable, ValidFill, Parses}
use Rattle.lists.proofs.Ranges.{fit-cells, cells_fit}
use Rattle.lists.proofs.Parsing.{answer_to, print-parsed, parses-or-6}

pub data Answered (s : Syntax) (x : Result Line ℕ) : Type 0 where
  good : InRange s → RowReadable s → x ≡ Ok (as_line s) → Answered s x
  out : (InRange s → ⊥) → x ≡ Err 7 → Answered s x
  no_row : InRange s → (RowReadable s → ⊥) → x ≡ Err 8 → Answered s x

true-false : true ≡ false → ⊥
true-false e = let z : ◌≡◌ {A = ℕ} 0 1 = cc in omega arith

-- cells that can be filled, or 7
module _ (c0 c1 b0 b1 n : ℕ) where
  fillable :
      (ValidFill c0 c1 b0 b1 n × (fill_within c0 c1 b0 b1 n ≡ Ok (Fill c0 c1 b0 b1 n)))
      ⊎ ((ValidFill c0 c1 b0 b1 n → ⊥) × (fill_within c0 c1 b0 b1 n ≡ Err 7))
  fillable = go (fill_fits c0 c1 b0 b1 n) refl
    where
      go :
          (t : Bool) → fill_fits c0 c1 b0 b1 n ≡ t
          → (ValidFill c0 c1 b0 b1 n × (cond {A = Result Line ℕ} t (Ok (Fill c0 c1 b0 b1 n)) (Err 7) ≡ Ok (Fill c0 c1 b0 b1 n)))
          ⊎ ((ValidFill c0 c1 b0 b1 n → ⊥) × (cond {A = Result Line ℕ} t (Ok (Fill c0 c1 b0 b1 n)) (Err 7) ≡ Err 7))
      go true e = inl (fit-cells c0 c1 b0 b1 n e, refl)
      go false e = inr ((λ w. true-false (sym (cells_fit c0 c1 b0 b1 n w) ∙ e)), refl)

-- a value within its field's limit, or 7; no row is listed
settable :
    (f n : ℕ) → ((n ≤ get_or limits f 0) × (set_within f n ≡ Ok (Set f n))) ⊎ ((n ≤ get_or limits f 0 → ⊥) × (set_within f n ≡ Err 7))
settable f n =
    elim (dec_le n (get_or limits f 0)) [
      | yes l ↦ inl (l, rw (le-leb n (get_or limits f 0) l))
      | no m ↦ inr (m, rw (lt-leb n (get_or limits f 0) (omega arith)))
    ]

answer-is : (s : Syntax) → Answered s (answer_to s)
unfolding InRange RowReadable as_line
answer-is (put c b n) = elim (fillable c c b b n) [ inl w ↦ good w.0 tt w.1 | inr m ↦ out m.0 m.1 ]
answer-is (fill c0 c1 b0 b1 n) = elim (fillable c0 c1 b0 b1 n) [ inl w ↦ good w.0 tt w.1 | inr m ↦ out m.0 m.1 ]
answer-is (set f n) = elim (settable f n) [ inl w ↦ good w.0 refl w.1 | inr m ↦ out m.0 m.1 ]

-- a line that parses gets the answer to its syntax
pub answered : (p : List ℕ) (l : Parses p) → Answered l.syntax (line_of p)
answered p l = rw (ap line_of l.printed ∙ print-parsed l.syntax l.well_formed) (answer-is l.syntax)

-- no two answers have the same numbers
pub numbers_apart : (x y : Result Line ℕ) → numbers_of x ≡ numbers_of y → x ≡ y
numbers_apart (Ok (Fill c0 c1 b0 b1 n)) (Ok (Fill d0 d1 a0 a1 m)) e = cc
numbers_apart (Ok (Fill c0 c1 b0 b1 n)) (Ok (Set f m)) e = cc
numbers_apart (Ok (Fill c0 c1 b0 b1 n)) (Err k) e = cc
numbers_apart (Ok (Set f m)) (Ok (Fill c0 c1 b0 b1 n)) e = cc
numbers_apart (Ok (Set f m)) (Ok (Set g n)) e = cc
numbers_apart (Ok (Set f m)) (Err k) e = cc
numbers_apart (Err k) (Ok (Fill c0 c1 b0 b1 n)) e = cc
numbers_apart (Err k) (Ok (Set f m)) e = cc
numbers_apart (Err j) (Err k) e = cc

pub not-both : (x : Result Line ℕ) (l : Line) (k : ℕ) → x ≡ Ok l → x ≡ Err k → ⊥
not-both x l k g b = let z : ◌≡◌ {A = ℕ} 0 1 = cc in omega arith

pub one_number : (x : Result Line ℕ) (j k : ℕ) → x ≡ Err j → x ≡ Err k → j ≡ k
one_number x j k e q = cc

-- every line: malformed, or parsed and answered
pub data Parsing (p : List ℕ) : Type 0 where
  not-parsed : (Parses p → ⊥) → line_of p ≡ Err 6 → Parsing p
  parsed : (l : Parses p) → Answered l.syntax (line_of p) → Parsing p

never-six : (s : Syntax) (x : Result Line ℕ) → Answered s x → x ≡ Err 6 → ⊥
never-six s x (good w r e) h = not-both x (as_line s) 6 e h
never-six s x (out m e) h = omega (arith, one_number x 7 6 e h)
never-six s x (no_row w m e) h = omega (arith, one_number x 8 6 e h)

pub parsing : (p : List ℕ) → Parsing p
parsing p = elim (parses-or-6 p) [ inl e ↦ not-parsed (λ l. never-six l.syntax (line_of p) (answered p l) e) e | inr l ↦ parsed l (answered p l) ]
