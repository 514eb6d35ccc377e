-- The lines of the text, one by one.
use mathlib.Core.List.{List, [], ◌∷◌, ◌++◌, append_assoc, append-nil}
use mathlib.Core.Path.{◌≡◌, refl, sym, ap, ◌∙◌}
use Prim.Native.Nat.{ℕ, ◌/◌, ◌%◌}
use native.Mathlib.Omega.{arith}
use Rattle.glass.specs.declared.answer.Shown.{Shown}
use Rattle.glass.specs.declared.answer.Shown.TheVariants as shown
use Rattle.text.specs.Text.{bytes, count_of, split, join}
use Rattle.text.proofs.Finding.{count-append}
use Rattle.text.proofs.Joining.{split-append}
use Rattle.print.specs.Chosen.{lines_of, line}
use Rattle.print.specs.Printed.{decimal_of}
use Rattle.print.proofs.Digits.{number-free}
use Rattle.origin.specs.declared.Origin.{Origin}
use Rattle.origin.specs.Origin.{line_of, shown_text, pixel_fields, cell_fields, byte_fields, cell_lines, byte_lines, origin_text}

-- no newline in any line's fields
abbrev Free : List (List (List ℕ)) → Type 0
Free [] = Unit {0}
Free (f ∷ fs) = (count_of 10 (join 9 f) ≡ 0) × Free fs

-- the fields of each line with their tabs, then the pieces of the rest
abbrev before : List (List (List ℕ)) → List (List ℕ) → List (List ℕ)
before [] ps = ps
before (f ∷ fs) ps = join 9 f ∷ before fs ps

lines_split : (fs : List (List (List ℕ))) (rest : List ℕ) → Free fs → split 10 (lines_of line fs ++ rest) ≡ before fs (split 10 rest)
lines_split [] rest h = refl
lines_split (f ∷ fs) rest h =
    ap (λ (s : List ℕ). split 10 s) (parted (join 9 f) (lines_of line fs) rest)
    ∙ split-append 10 (join 9 f) (lines_of line fs ++ rest) h.0
    ∙ ap (λ (ps : List (List ℕ)). join 9 f ∷ ps) (lines_split fs rest h.1)
  where
    parted : (a b c : List ℕ) → ((a ++ (10 ∷ [])) ++ b) ++ c ≡ a ++ 10 ∷ (b ++ c)
    parted a b c = simp append_assoc

number-line-free : (name : List ℕ) (n : ℕ) → count_of 10 name ≡ 0 → count_of 10 (name ++ 9 ∷ decimal_of n) ≡ 0
number-line-free name n h = omega (arith, h, count-append 10 name (9 ∷ decimal_of n), number-free 10 n (omega arith))

shown-free : (s : Shown) → count_of 10 (bytes "shows" ++ 9 ∷ shown_text s) ≡ 0
shown-free (shown.Level g) = number-free 10 g (omega arith)
shown-free shown.Dark = refl
shown-free shown.Undriven = refl

-- a name, a tab and a number
abbrev pub tabbed : List ℕ → ℕ → List ℕ
tabbed name n = name ++ 9 ∷ decimal_of n

-- eleven lines, and nothing behind the last newline
pub eleven-lines :
    (o : Origin)
    → split 10 (origin_text o)
    ≡ tabbed (bytes "row") o.row
    ∷ tabbed (bytes "column") o.column
    ∷ (bytes "shows" ++ 9 ∷ shown_text o.shows)
    ∷ tabbed (bytes "ram row") o.ram
    ∷ tabbed (bytes "bank") (o.place / 101)
    ∷ tabbed (bytes "cell column") (o.place % 101)
    ∷ tabbed (bytes "place") o.place
    ∷ tabbed (bytes "byte") o.byte
    ∷ tabbed (bytes "value") o.value
    ∷ tabbed (bytes "event") o.event
    ∷ tabbed (bytes "line") (line_of o.event)
    ∷ []
    ∷ []
unfolding origin_text
eleven-lines o =
    lines_split (pixel_fields o) (cell_lines o ++ byte_lines o) (
      number-line-free (bytes "row") o.row refl,
      (number-line-free (bytes "column") o.column refl, (shown-free o.shows, tt)),
    )
    ∙ ap (before (pixel_fields o)) (lines_split (cell_fields o) (byte_lines o) (
      number-line-free (bytes "ram row") o.ram refl,
      (
        number-line-free (bytes "bank") (o.place / 101) refl,
        (
          number-line-free (bytes "cell column") (o.place % 101) refl,
          (number-line-free (bytes "place") o.place refl, tt),
        ),
      ),
    ))
    ∙ ap (λ (ps : List (List ℕ)). before (pixel_fields o) (before (cell_fields o) ps))
    (ap (λ (s : List ℕ). split 10 s) (sym (append-nil (byte_lines o))) ∙ lines_split (byte_fields o) [] (
      number-line-free (bytes "byte") o.byte refl,
      (
        number-line-free (bytes "value") o.value refl,
        (
          number-line-free (bytes "event") o.event refl,
          (number-line-free (bytes "line") (line_of o.event) refl, tt),
        ),
      ),
    ))
