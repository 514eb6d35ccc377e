-- A part may be cut anywhere: its text and what is kept after it are those of the two parts, one after the other.
use mathlib.Core.Bool.{Bool, true, false, not, ◌||◌}
use mathlib.Core.List.{List, [], ◌∷◌, ◌++◌, append_assoc, append-nil}
use mathlib.Core.Path.{◌≡◌, refl, sym, ap, ◌∙◌}
use Prim.Native.Nat.{ℕ, ◌≤◌}
use native.Mathlib.Nat.{zero-add}
use native.Mathlib.Omega.{arith}
use lib.ListN.{length, length-append}
use Rattle.print.specs.Printed.{top, place_after}
use Rattle.print.proofs.Writing.{after-fits, after-after}
use Rattle.print.specs.Chosen.{lines_of}
use Rattle.wire_samples.specs.declared.Wires.{Wires}
use Rattle.wire_samples.specs.Sample.{at_start}
use Rattle.wire_samples.specs.Feed.{after_all, events_of, are_samples}
use Rattle.wire_samples.proofs.Joined.{after-joined, events-joined}
use Rattle.wire_traffic.specs.When.{InRanges}
use Rattle.wire_traffic.proofs.Ranges.{start-in-ranges}
use Rattle.wire_text.specs.declared.Reading.{Reading}
use Rattle.wire_text.specs.Capture.{samples_in, pins_line, event_line, event_lines, last_line, capture_of}
use Rattle.wire_text.specs.Parts.{reading, start_of, is_over, first_line, part_text, after_part, Joins, text_in_parts, after_parts, all_parts}
use Rattle.wire_text.proofs.CodeWays.{lines-append, ranges-allow, ranges-kept}
use Rattle.wire_text.proofs.Samples.{are-samples-in, good-all, good-then, bad-then}

-- ---- a reading that is over, and one that goes on

module _ (r : Reading) (over : r.refused ≡ true) (bs : List ℕ) where
  nothing-told : part_text r bs ≡ []
  unfolding part_text is_over
  nothing-told = rw over

  nothing_read : after_part r bs ≡ r
  unfolding after_part is_over
  nothing_read = rw over

pub over-refused : (r : Reading) → InRanges r.wires → is_over r ≡ r.refused
unfolding is_over
over-refused r ranges = rw (ranges-allow ranges) (go r.refused)
  where
    go : (t : Bool) → t || false ≡ t
    go true = refl
    go false = refl

-- what is told and kept, of these samples, and whether no other byte follows
abbrev told_of : Reading → List ℕ → Bool → List ℕ
told_of r ss good = first_line r ++ (event_lines r.wires ss ++ last_line good (place_after r.samples (length ss)))

abbrev kept_of : Reading → List ℕ → Bool → Reading
kept_of r ss good = reading r.pins true (after_all r.wires ss) (place_after r.samples (length ss)) (not good)

module _ (r : Reading) (ranges : InRanges r.wires) (going : r.refused ≡ false) where
  pub told : (bs : List ℕ) → part_text r bs ≡ told_of r (samples_in bs) (are_samples bs)
  unfolding part_text
  told bs = rw (over-refused r ranges ∙ going)

  pub kept : (bs : List ℕ) → after_part r bs ≡ kept_of r (samples_in bs) (are_samples bs)
  unfolding after_part
  kept bs = rw (over-refused r ranges ∙ going)

-- the ranges are kept
pub part-in-ranges : (r : Reading) → InRanges r.wires → (bs : List ℕ) → InRanges (after_part r bs).wires
part-in-ranges r ranges bs = go r.refused refl
  where
    go : (t : Bool) → r.refused ≡ t → InRanges (after_part r bs).wires
    go true e = rw (nothing_read r e bs) ranges
    go false e = rw (kept r ranges e bs) (ranges-kept r.wires (samples_in bs) ranges (are-samples-in bs))

-- ---- two parts

regrouped : (f a b l : List ℕ) → f ++ ((a ++ b) ++ l) ≡ (f ++ (a ++ [])) ++ (b ++ l)
regrouped f a b l = simp (append_assoc, append-nil)

lines-joined : (w : Wires) (xs ys : List ℕ) → event_lines w (xs ++ ys) ≡ event_lines w xs ++ event_lines (after_all w xs) ys
lines-joined w xs ys = ap (lines_of event_line) (events-joined w xs ys) ∙ lines-append event_line (events_of w xs) (events_of (after_all w xs) ys)

same-told :
    (f : List ℕ) {es es' : List ℕ} {t t' : Bool} {k k' : ℕ} → es ≡ es' → t ≡ t' → k ≡ k'
    → f ++ (es ++ last_line t k) ≡ f ++ (es' ++ last_line t' k')
same-told f e g h = rw (e, g, h)

same_kept :
    (pins : ℕ) {w w' : Wires} {n n' : ℕ} {t t' : Bool} → w ≡ w' → n ≡ n' → t ≡ t'
    → reading pins true w n (not t) ≡ reading pins true w' n' (not t')
same_kept pins e g h = rw (e, g, h)

module _ (r : Reading) (ranges : InRanges r.wires) (xs ys : List ℕ) where
  module _ (going : r.refused ≡ false) where
    -- the first part has a byte that is no sample
    bad-first : are_samples xs ≡ false → Joins r xs ys
    bad-first bad =
        let both = bad-then xs ys bad in
        let first : after_part r xs ≡ kept_of r (samples_in xs) false = kept r ranges going xs ∙ ap (kept_of r (samples_in xs)) bad in
        let over : (after_part r xs).refused ≡ true = ap (λ (q : Reading). q.refused) first in
        record {
          text =
              told r ranges going (xs ++ ys)
              ∙ rw (both.0, both.1 ∙ sym bad) (sym (told r ranges going xs))
              ∙ sym (append-nil (part_text r xs))
              ∙ ap (λ (l : List ℕ). part_text r xs ++ l) (sym (nothing-told (after_part r xs) over ys));
          after =
              kept r ranges going (xs ++ ys)
              ∙ rw (both.0, both.1) (sym first)
              ∙ sym (nothing_read (after_part r xs) over ys);
        }

    -- it is samples alone
    good-first : are_samples xs ≡ true → Joins r xs ys
    good-first good =
        let both = good-then xs ys good in
        let zs : List ℕ = samples_in ys in
        let second : Reading = kept_of r xs true in
        let first : after_part r xs ≡ second =
        kept r ranges going xs ∙ ap (λ (ss : List ℕ). kept_of r ss (are_samples xs)) (good-all xs good) ∙ ap (kept_of r xs) good in
        let ranges-then : InRanges second.wires = ranges-kept r.wires xs ranges good in
        let place : place_after r.samples (length (samples_in (xs ++ ys))) ≡ place_after second.samples (length zs) =
        ap (λ (ss : List ℕ). place_after r.samples (length ss)) both.0
        ∙ ap (place_after r.samples) (length-append xs zs)
        ∙ sym (after-after r.samples (length xs) (length zs)) in
        let first-told : part_text r xs ≡ told_of r xs true =
        told r ranges going xs ∙ ap (λ (ss : List ℕ). told_of r ss (are_samples xs)) (good-all xs good) ∙ ap (told_of r xs) good in
        let second-told : part_text (after_part r xs) ys ≡ told_of second zs (are_samples ys) =
        ap (λ (q : Reading). part_text q ys) first ∙ told second ranges-then refl ys in
        record {
          text =
              told r ranges going (xs ++ ys)
              ∙ same-told (first_line r) (ap (event_lines r.wires) both.0 ∙ lines-joined r.wires xs zs) both.1 place
              ∙ regrouped (first_line r) (event_lines r.wires xs) (event_lines second.wires zs) _
              ∙ sym (rw (first-told, second-told) refl);
          after =
              kept r ranges going (xs ++ ys)
              ∙ same_kept r.pins (ap (after_all r.wires) both.0 ∙ after-joined r.wires xs zs) place both.1
              ∙ sym (ap (λ (q : Reading). after_part q ys) first ∙ kept second ranges-then refl ys);
        }

  pub cut-anywhere : Joins r xs ys
  cut-anywhere = go r.refused (are_samples xs) refl refl
    where
      go : (t u : Bool) → r.refused ≡ t → are_samples xs ≡ u → Joins r xs ys
      go true u e f =
          let same = nothing_read r e xs in
          record {
            text = nothing-told r e (xs ++ ys) ∙ rw (nothing-told r e xs, same) (sym (nothing-told r e ys));
            after = nothing_read r e (xs ++ ys) ∙ rw same (sym (nothing_read r e ys));
          }
      go false false e f = bad-first e f
      go false true e f = good-first e f

-- ---- any parts, from the start on

pub start-whole : (pins : ℕ) (bs : List ℕ) → length (samples_in bs) ≤ top → part_text (start_of pins) bs ≡ capture_of pins bs
unfolding capture_of
start-whole pins bs h =
    told (start_of pins) start-in-ranges refl bs
    ∙ ap (λ (k : ℕ). pins_line pins ++ (event_lines at_start (samples_in bs) ++ last_line (are_samples bs) k))
    (after-fits 0 (length (samples_in bs)) (omega (arith, zero-add (length (samples_in bs)))) ∙ zero-add (length (samples_in bs)))

pub start-wires : (pins : ℕ) (bs : List ℕ) → (after_part (start_of pins) bs).wires ≡ after_all at_start (samples_in bs)
start-wires pins bs = ap (λ (r : Reading). r.wires) (kept (start_of pins) start-in-ranges refl bs)

pub start-over : (pins : ℕ) (bs : List ℕ) → is_over (after_part (start_of pins) bs) ≡ not (are_samples bs)
start-over pins bs =
    over-refused (after_part (start_of pins) bs) (part-in-ranges (start_of pins) start-in-ranges bs)
    ∙ ap (λ (r : Reading). r.refused) (kept (start_of pins) start-in-ranges refl bs)

-- the parts together
pub text-joined :
    (r : Reading) → InRanges r.wires → (p : List ℕ) (ps : List (List ℕ)) → text_in_parts r (p ∷ ps) ≡ part_text r (all_parts (p ∷ ps))
text-joined r ranges p [] = append-nil (part_text r p) ∙ ap (part_text r) (sym (append-nil p))
text-joined r ranges p (q ∷ ps) =
    ap (λ (l : List ℕ). part_text r p ++ l) (text-joined (after_part r p) (part-in-ranges r ranges p) q ps)
    ∙ sym (cut-anywhere r ranges p (all_parts (q ∷ ps))).text

pub after-joined-parts :
    (r : Reading) → InRanges r.wires → (p : List ℕ) (ps : List (List ℕ)) → after_parts r (p ∷ ps) ≡ after_part r (all_parts (p ∷ ps))
after-joined-parts r ranges p [] = ap (after_part r) (sym (append-nil p))
after-joined-parts r ranges p (q ∷ ps) =
    after-joined-parts (after_part r p) (part-in-ranges r ranges p) q ps ∙ sym (cut-anywhere r ranges p (all_parts (q ∷ ps))).after
