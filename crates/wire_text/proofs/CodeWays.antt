-- Ways through the code, over plain variables.
use mathlib.Core.Bool.{Bool, true, false, cond, not, ◌||◌, ◌&&◌}
use mathlib.Core.List.{List, [], ◌∷◌, ◌++◌, append_assoc, append-nil}
use mathlib.Core.Path.{◌≡◌, refl, sym, ap, ◌∙◌, subst}
use Prim.Native.Nat.{ℕ, ◌+◌, ◌^◌, ◌≤◌, ◌<◌}
use native.Mathlib.Omega.{arith}
use native.Mathlib.Decide.{dec_lt}
use borrow.Author.Tests.{lt-ltb, le-ltb, leb-true, leb-false}
use lib.Dec.{T, eqb, leb, ltb}
use lib.ListN.{length, take, drop, get_or, length-append, drop_of_length-le}
use lib.Seq.{length-take-le, take-length, take_all, take-append_seam}
use Rattle.std.specs.Prelude.{Option, Some, None, unwrap_or}
use Rattle.std.specs.List.{position_or_len}
use Rattle.std.proofs.lemmas.List.{take_more}
use Rattle.print.specs.Chosen.{lines_of}
use Rattle.print.specs.Printed.{top, place_after}
use Rattle.print.specs.Prints.{Prints}
use Rattle.print.specs.declared.Printout.{Printout}
use Rattle.print.proofs.Writing.{prints_then, prints_none, prints-same}
use Rattle.wire_samples.specs.declared.Wires.{Wires}
use Rattle.wire_samples.specs.declared.Fed.{Fed}
use Rattle.wire_samples.specs.Feed.{after_all, events_of, is_allowed, are_samples, Feed, consuming, feed_of, Answer, answered, answer_of, stored}
use Rattle.wire_samples.proofs.Joined.{after-joined, events-joined}
use Rattle.wire_traffic.specs.When.{InRanges}
use Rattle.wire_traffic.proofs.Ranges.{all-in-ranges}
use Rattle.wire_traffic.proofs.Rooms.{one_each, allowed, is-allowed, samples, with-room}
use Rattle.wire_text.specs.declared.Reading.{Reading}
use Rattle.wire_text.specs.Capture.{samples_in, event_line, event_lines, last_line}
use Rattle.wire_text.specs.Parts.{reading, is_over, first_line, samples_after, part_text, after_part}
use Rattle.wire_text.proofs.Samples.{at_front, are-samples-in, all_tested, no_more}

-- ---- how many samples

place-samples : (bs : List ℕ) → position_or_len (λ (x : ℕ). ltb 3 x) bs ≡ length (samples_in bs)
unfolding samples_in
place-samples [] = refl
place-samples (b ∷ bs) = rw (above (leb b 3) refl) (one (leb b 3) (place-samples bs))
  where
    above : (t : Bool) → leb b 3 ≡ t → ltb 3 b ≡ not t
    above true e = le-ltb 3 b (leb-true b 3 e)
    above false e = lt-ltb 3 b (leb-false b 3 e)

    one : (t : Bool) → position_or_len (λ (x : ℕ). ltb 3 x) bs ≡ length (samples_in bs) → cond (not (not t)) (1 + position_or_len (λ (x : ℕ). ltb 3 x) bs) 0 ≡ length (cond t (b ∷ samples_in bs) [])
    one true e = omega (arith, e)
    one false e = refl

-- where `position` found a byte that is none, or the number of bytes
pub position-samples :
    (bs : List ℕ) (r : Option ℕ) (n : ℕ)
    → r ≡ cond (ltb (position_or_len (λ (x : ℕ). ltb 3 x) bs) (length bs)) (Some (position_or_len (λ (x : ℕ). ltb 3 x) bs)) None
    → n ≡ length bs → unwrap_or r n ≡ length (samples_in bs)
position-samples bs r n e en = rw (e, place-samples bs) (go (dec_lt (length (samples_in bs)) (length bs)))
  where
    go : Dec (length (samples_in bs) < length bs) → unwrap_or (cond (ltb (length (samples_in bs)) (length bs)) (Some (length (samples_in bs))) None) n ≡ length (samples_in bs)
    go (yes l) = rw (lt-ltb (length (samples_in bs)) (length bs) l)
    go (no m) = rw (le-ltb (length (samples_in bs)) (length bs) (omega arith)) (omega (arith, no_more bs))

-- ---- a line for each event

pub lines-append : {A : Type 0} (text : A → List ℕ) (xs ys : List A) → lines_of text (xs ++ ys) ≡ lines_of text xs ++ lines_of text ys
lines-append text [] ys = refl
lines-append text (x ∷ xs) ys =
    ap (λ (l : List ℕ). text x ++ l) (lines-append text xs ys) ∙ sym (append_assoc (text x) (lines_of text xs) (lines_of text ys))

module _ (es : List ℕ) (i : ℕ) {p q : Printout} where
  -- the lines of the events before place i, and then that of the event there
  pub lines-next :
      {r : Printout} → i < length es → Prints p (lines_of event_line (take i es)) q → Prints q (event_line (get_or es i 0)) r
      → Prints p (lines_of event_line (take (i + 1) es)) r
  lines-next h a b =
      prints-same
      (ap (λ (l : List ℕ). lines_of event_line (take i es) ++ l) (sym (append-nil (event_line (get_or es i 0))))
      ∙ sym (lines-append event_line (take i es) (get_or es i 0 ∷ []))
      ∙ ap (lines_of event_line) (sym (take_more es i 0 h)))
      (prints_then a b)

  pub lines-all : length es ≤ i → Prints p (lines_of event_line (take i es)) q → Prints p (lines_of event_line es) q
  lines-all h a = prints-same (ap (lines_of event_line) (take_all i es h)) a

-- ---- samples that have room for their events: each tells one at most

-- all were fed: f is what the call hands back, and m the buffer after it
pub record AllFed (w : Wires) (ss : List ℕ) (f : Fed) (m : List ℕ) : Type 0 where
  pub wires : f.wires ≡ after_all w ss
  pub written : f.written ≤ length m
  pub events : take f.written m ≡ events_of w ss

module _ (w : Wires) (ss es : List ℕ) (pre : (is_allowed w ≡ true) × ((are_samples ss ≡ true) × (length ss ≤ length es))) where
  all_told : feed_of (length es) w ss ≡ consuming (length ss) w ss
  all_told = with-room (length es) w ss (allowed w pre.0) (samples ss pre.1.0) (omega (arith, one_each w ss, pre.1.1))

  pub all-fed :
      (f : Fed) (m : List ℕ) → (answered f ≡ answer_of (feed_of (length es) w ss)) × (m ≡ stored (feed_of (length es) w ss).events es) → AllFed w ss f m
  all-fed f m fed =
      let whole : take (length ss) ss ≡ ss = take-length ss in
      let events : (feed_of (length es) w ss).events ≡ events_of w ss = ap (λ (g : Feed). g.events) all_told ∙ ap (events_of w) whole in
      let written : f.written ≡ length (events_of w ss) = ap (λ (g : Answer). g.written) fed.0 ∙ ap length events in
      let buffer : m ≡ stored (events_of w ss) es = fed.1 ∙ ap (λ (l : List ℕ). stored l es) events in
      record {
        wires = ap (λ (g : Answer). g.wires) fed.0 ∙ ap (λ (g : Feed). g.wires) all_told ∙ ap (after_all w) whole;
        written = omega (arith, written, ap length buffer, length-append (events_of w ss) (drop (length (events_of w ss)) es));
        events = rw (written, buffer) (take-append_seam (events_of w ss) (drop (length (events_of w ss)) es));
      }

-- ---- some samples after the other

-- what the type of the value says, beside the test
pub in-ranges : (w : Wires) → is_allowed w ≡ true → w.value < 2 ^ 8 → InRanges w
in-ranges w a v = let both = allowed w a in record { last = both.last; bits = both.bits; value = omega arith }

pub ranges-allow : {w : Wires} → InRanges w → is_allowed w ≡ true
ranges-allow {w} r = is-allowed w (record { last = r.last; bits = r.bits })

pub ranges-kept : (w : Wires) (ss : List ℕ) → InRanges w → are_samples ss ≡ true → InRanges (after_all w ss)
ranges-kept w ss r good = all-in-ranges w r ss (samples ss good)

-- some of them, and the rest
good-both : (xs ys : List ℕ) → are_samples (xs ++ ys) ≡ true → (are_samples xs ≡ true) × (are_samples ys ≡ true)
unfolding are_samples
good-both [] ys h = (refl, h)
good-both (x ∷ xs) ys h = go (leb x 3) h (good-both xs ys)
  where
    go :
        (t : Bool) → t && are_samples (xs ++ ys) ≡ true → (are_samples (xs ++ ys) ≡ true → (are_samples xs ≡ true) × (are_samples ys ≡ true))
        → (t && are_samples xs ≡ true) × (are_samples ys ≡ true)
    go true h rest = rest h
    go false h rest = absurd (subst T (sym h) tt)

lines_then : (w : Wires) (xs ys : List ℕ) → event_lines w xs ++ event_lines (after_all w xs) ys ≡ event_lines w (xs ++ ys)
lines_then w xs ys =
    sym (lines-append event_line (events_of w xs) (events_of (after_all w xs) ys)) ∙ ap (lines_of event_line) (sym (events-joined w xs ys))

-- the loop over them: what was told, and what is left to tell
module _ (w₀ : Wires) (ss : List ℕ) (p₀ : Printout) where
  pub record ToldSoFar (rest : List ℕ) (w : Wires) (p : Printout) : Type 0 where
    pub ranges : InRanges w
    pub good : are_samples rest ≡ true
    pub after : after_all w rest ≡ after_all w₀ ss
    pub told : List ℕ
    pub printed : Prints p₀ told p
    pub lines : told ++ event_lines w rest ≡ event_lines w₀ ss

  pub none_told : InRanges w₀ → are_samples ss ≡ true → length p₀.out.now ≤ top → (rest : List ℕ) → rest ≡ ss → ToldSoFar rest w₀ p₀
  none_told r good sized rest e =
      rw e (record { ranges = r; good = good; after = refl; told = []; printed = prints_none p₀ sized; lines = refl })

  module _ {rest : List ℕ} {w : Wires} {p : Printout} (s : ToldSoFar rest w p) where
    pub some_good : (xs ys : List ℕ) → rest ≡ xs ++ ys → are_samples xs ≡ true
    some_good xs ys e = (good-both xs ys (ap are_samples (sym e) ∙ s.good)).0

    pub some-told :
        (xs ys : List ℕ) → rest ≡ xs ++ ys → {w' : Wires} {p' : Printout} → w' ≡ after_all w xs → Prints p (event_lines w xs) p'
        → ToldSoFar ys w' p'
    some-told xs ys e {w'} after told =
        record {
          ranges = rw after (ranges-kept w xs s.ranges (some_good xs ys e));
          good = (good-both xs ys (ap are_samples (sym e) ∙ s.good)).1;
          after = rw after (sym (after-joined w xs ys)) ∙ ap (after_all w) (sym e) ∙ s.after;
          told = s.told ++ event_lines w xs;
          printed = prints_then s.printed told;
          lines =
              append_assoc s.told (event_lines w xs) (event_lines w' ys)
              ∙ ap (λ (l : List ℕ). s.told ++ l) (ap (λ (v : Wires). event_lines w xs ++ event_lines v ys) after ∙ lines_then w xs ys ∙ ap (event_lines w) (sym e))
              ∙ s.lines;
        }

    module _ (past : length rest ≡ 0) where
      none : rest ≡ []
      none = let e : length rest ≤ 0 = omega arith in drop_of_length-le rest e

      pub all-after : w ≡ after_all w₀ ss
      unfolding after_all
      all-after = ap (after_all w) (sym none) ∙ s.after

      pub all-printed : Prints p₀ (event_lines w₀ ss) p
      unfolding events_of
      all-printed = prints-same (sym (append-nil s.told) ∙ ap (λ (l : List ℕ). s.told ++ event_lines w l) (sym none) ∙ s.lines) s.printed

-- ---- a part

-- the wires are those that samples leave
pub going-allowed : (r : Reading) (t : Bool) → t ≡ is_over r → t ≡ false → is_allowed r.wires ≡ true
unfolding is_over
going-allowed r t e h = go r.refused (is_allowed r.wires) (sym e ∙ h)
  where
    go : (x y : Bool) → x || not y ≡ false → y ≡ true
    go false true q = refl
    go false false q = absurd (subst T q tt)
    go true y q = absurd (subst T q tt)

module _ (r : Reading) (bs : List ℕ) where
  pub part-over :
      (t : Bool) → t ≡ is_over r → t ≡ true → (p : Printout) → length p.out.now ≤ top → (r ≡ after_part r bs) × Prints p (part_text r bs) p
  unfolding after_part part_text
  part-over t e h p sized = rw (sym e ∙ h) (refl, prints_none p sized)

  module _ (t : Bool) (e : t ≡ is_over r) (going : t ≡ false) (n k : ℕ) (count : n ≡ length (samples_in bs)) (place : k ≡ place_after r.samples n) where
    front : take n bs ≡ samples_in bs
    front = ap (λ (x : ℕ). take x bs) count ∙ at_front bs

    pub front-count : n ≡ length (take n bs)
    front-count = sym (length-take-le n bs (omega (arith, count, no_more bs)))

    pub front-good : are_samples (take n bs) ≡ true
    front-good = ap are_samples front ∙ are-samples-in bs

    tested : eqb n (length bs) ≡ are_samples bs
    tested = ap (λ (x : ℕ). eqb x (length bs)) count ∙ all_tested bs

    last : last_line (eqb n (length bs)) k ≡ last_line (are_samples bs) (samples_after r bs)
    last = rw (tested, place, count)

    pub part-after :
        (w : Wires) → w ≡ after_all r.wires (take n bs) → reading r.pins true w k (not (eqb n (length bs))) ≡ after_part r bs
    unfolding after_part
    part-after w after = rw (sym e ∙ going, after, front, tested, place, count)

    pub part-printed :
        {p q s u : Printout} → Prints p (first_line r) q → Prints q (event_lines r.wires (take n bs)) s
        → Prints s (last_line (eqb n (length bs)) k) u → Prints p (part_text r bs) u
    unfolding part_text
    part-printed a b c =
        rw (sym e ∙ going) (prints_then a (prints_then (prints-same (ap (event_lines r.wires) front) b) (prints-same last c)))
