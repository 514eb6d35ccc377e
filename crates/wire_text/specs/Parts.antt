-- The same, part by part: what is kept from one part to the next, and which text a part gives.
use Rattle.std.specs.Prelude.{Bool, true, false, cond, not, ◌||◌, List, [], ◌∷◌, ◌++◌, ◌≡◌, ℕ, length}
use Rattle.print.specs.Printed.{place_after}
use Rattle.wire_samples.specs.declared.Wires.{Wires}
use Rattle.wire_samples.specs.Feed.{after_all, is_allowed, are_samples}
use Rattle.wire_samples.specs.Sample.{at_start}
use Rattle.wire_text.specs.declared.Reading.{Reading}
use Rattle.wire_text.specs.Capture.{samples_in, pins_line, event_lines, last_line}

abbrev pub reading : ℕ → Bool → Wires → ℕ → Bool → Reading
reading pins begun w n refused = record { pins = pins; begun = begun; wires = w; samples = n; refused = refused }

abbrev pub start_of : ℕ → Reading
start_of pins = reading pins false at_start 0 false

-- nothing more is told: a byte has come that is no sample, or the wires are none that samples leave
unfoldable pub is_over : Reading → Bool
is_over r = r.refused || not (is_allowed r.wires)

-- the `pins` line comes with the first part, one of no bytes too
abbrev pub first_line : Reading → List ℕ
first_line r = cond r.begun [] (pins_line r.pins)

-- how many samples there were, as far as a machine word counts
abbrev pub samples_after : Reading → List ℕ → ℕ
samples_after r bs = place_after r.samples (length (samples_in bs))

unfoldable pub part_text : Reading → List ℕ → List ℕ
part_text r bs =
    cond (is_over r) [] (first_line r ++ (event_lines r.wires (samples_in bs) ++ last_line (are_samples bs) (samples_after r bs)))

unfoldable pub after_part : Reading → List ℕ → Reading
after_part r bs =
    cond (is_over r) r (reading r.pins true (after_all r.wires (samples_in bs)) (samples_after r bs) (not (are_samples bs)))

-- ---- part after part

-- two parts together give the text that they give one after the other, and leave the same
pub record Joins (r : Reading) (xs ys : List ℕ) : Type 0 where
  pub text : part_text r (xs ++ ys) ≡ part_text r xs ++ part_text (after_part r xs) ys
  pub after : after_part r (xs ++ ys) ≡ after_part (after_part r xs) ys

abbrev pub text_in_parts : Reading → List (List ℕ) → List ℕ
text_in_parts r [] = []
text_in_parts r (p ∷ ps) = part_text r p ++ text_in_parts (after_part r p) ps

abbrev pub after_parts : Reading → List (List ℕ) → Reading
after_parts r [] = r
after_parts r (p ∷ ps) = after_parts (after_part r p) ps

abbrev pub all_parts : List (List ℕ) → List ℕ
all_parts [] = []
all_parts (p ∷ ps) = p ++ all_parts ps
