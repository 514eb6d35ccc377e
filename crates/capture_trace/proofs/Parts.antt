-- Part after part: what is done, told and tallied of the parts is that of the whole text.
use mathlib.Core.Bool.{true}
use mathlib.Core.List.{List, [], ◌∷◌, ◌++◌, append_assoc}
use mathlib.Core.Logic.{⊎_elim}
use mathlib.Core.Path.{◌≡◌, refl, sym, ap, ◌∙◌}
use Prim.Native.Nat.{ℕ, zero, suc}
use lib.ListN.{length}
use Rattle.registers.specs.Refusals.{lengths_refusal}
use Rattle.print.specs.Chosen.{lines_of}
use Rattle.text.specs.Text.{split}
use Rattle.capture_lines.specs.Line.{newline}
use Rattle.capture.specs.Feeding.{Playing, kept, start_of, bytes_fed, part_refusal, PartFed, feed_of, all_parts}
use Rattle.capture.specs.Where.{Lent, Passed}
use Rattle.capture.proofs.Feeds.{feed-passed, feed-refused}
use Rattle.capture.proofs.Refusals.{by-lent, lent-passes, not-lent, part-when, none-refused, start-passed, stays-passed}
use Rattle.capture_trace.specs.declared.tally.Tally.{Tally}
use Rattle.capture_trace.specs.Done.{DoneEvent, done_unless, done_at_byte, done_lines, done_in_bytes, done_in_part, done_of}
use Rattle.capture_trace.specs.Follow.{line_for, tallied_over}
use Rattle.capture_trace.specs.Told.{lines_in_parts, tallied_in_parts}
use Rattle.capture_trace.proofs.CodeWays.{tallied-append, told-append}
use Rattle.capture_trace.proofs.Whole.{text-done}

bytes-append : (xs ys : List ℕ) (p : Playing) → done_in_bytes (xs ++ ys) p ≡ done_in_bytes xs p ++ done_in_bytes ys (bytes_fed xs p)
unfolding done_in_bytes bytes_fed
bytes-append [] ys p = refl
bytes-append (x ∷ xs) ys p =
    ap (λ (ds : List DoneEvent). done_at_byte x p ++ ds) (bytes-append xs ys _) ∙ sym (append_assoc (done_at_byte x p) (done_in_bytes xs _) _)

-- ---- a part that is not refused, and one that is

pub done-passed : (part : List ℕ) (p : Playing) → Passed p → done_in_part part p ≡ done_in_bytes part p
unfolding done_in_part
done-passed part p h = rw (part-when p 0 h)

pub done_refused : (part : List ℕ) (p : Playing) (k : ℕ) → part_refusal p ≡ suc k → done_in_part part p ≡ []
unfolding done_in_part
done_refused part p k e = rw e

-- a text may be cut anywhere
pub cut-anywhere : (xs ys : List ℕ) (p : Playing) → done_in_part (xs ++ ys) p ≡ done_in_part xs p ++ done_in_part ys (feed_of xs p).after
cut-anywhere xs ys p = go (part_refusal p) refl
  where
    go : (k : ℕ) → part_refusal p ≡ k → done_in_part (xs ++ ys) p ≡ done_in_part xs p ++ done_in_part ys (feed_of xs p).after
    go zero e =
        let passed = none-refused p e in
        done-passed (xs ++ ys) p passed
        ∙ bytes-append xs ys p
        ∙ ap (λ (ds : List DoneEvent). done_in_bytes xs p ++ ds) (sym (done-passed ys (bytes_fed xs p) (stays-passed xs p passed)))
        ∙ ap (λ (ds : List DoneEvent). ds ++ done_in_part ys (bytes_fed xs p)) (sym (done-passed xs p passed))
        ∙ ap (λ (f : PartFed). done_in_part xs p ++ done_in_part ys f.after) (sym (feed-passed xs p passed))
    go (suc k) e =
        done_refused (xs ++ ys) p k e
        ∙ sym (done_refused ys p k e)
        ∙ ap (λ (f : PartFed). done_in_part ys f.after) (sym (feed-refused xs p k e))
        ∙ ap (λ (ds : List DoneEvent). ds ++ done_in_part ys (feed_of xs p).after) (sym (done_refused xs p k e))

-- no bytes, no events
pub none_done : (p : Playing) → done_in_part [] p ≡ []
unfolding done_in_part done_in_bytes
none_done p = go (part_refusal p)
  where
    go : (k : ℕ) → done_unless k [] ≡ []
    go zero = refl
    go (suc k) = refl

-- ---- all parts

pub lines-joined : (p : Playing) (ps : List (List ℕ)) → lines_in_parts p ps ≡ lines_of line_for (done_in_part (all_parts ps) p)
lines-joined p [] = ap (lines_of line_for) (sym (none_done p))
lines-joined p (part ∷ ps) =
    ap (λ (l : List ℕ). lines_of line_for (done_in_part part p) ++ l) (lines-joined (feed_of part p).after ps)
    ∙ sym (told-append true (done_in_part part p) (done_in_part (all_parts ps) (feed_of part p).after))
    ∙ ap (lines_of line_for) (sym (cut-anywhere part (all_parts ps) p))

pub tallies-joined : (p : Playing) (ps : List (List ℕ)) (t : Tally) → tallied_in_parts p ps t ≡ tallied_over (done_in_part (all_parts ps) p) t
tallies-joined p [] t = ap (λ (ds : List DoneEvent). tallied_over ds t) (sym (none_done p))
tallies-joined p (part ∷ ps) t =
    tallies-joined (feed_of part p).after ps (tallied_over (done_in_part part p) t)
    ∙ sym (tallied-append (done_in_part part p) (done_in_part (all_parts ps) (feed_of part p).after) t)
    ∙ ap (λ (ds : List DoneEvent). tallied_over ds t) (sym (cut-anywhere part (all_parts ps) p))

-- ---- from the start

pub whole-done : (text m w : List ℕ) → done_in_part text (kept start_of m w) ≡ done_of text m w
unfolding done_of
whole-done text m w = ⊎_elim right wrong (by-lent m w)
  where
    lines : List DoneEvent
    lines = done_lines (split newline text) m w

    right : Lent m w → done_in_part text (kept start_of m w) ≡ done_unless (lengths_refusal (length m) (length w)) lines
    right lent =
        done-passed text (kept start_of m w) (start-passed m w lent)
        ∙ text-done (kept start_of m w).state text
        ∙ ap (λ (k : ℕ). done_unless k lines) (sym (lent-passes m w lent))

    wrong : (Lent m w → ⊥) → done_in_part text (kept start_of m w) ≡ done_unless (lengths_refusal (length m) (length w)) lines
    wrong n = done_refused text (kept start_of m w) 0 (part-when (kept start_of m w) 1 n) ∙ ap (λ (k : ℕ). done_unless k lines) (sym (not-lent m w n))
