-- Ways through the code, over plain variables: one answer after the other.
use mathlib.Core.Bool.{Bool, true, false, cond, not, ◌&&◌, and-false}
use mathlib.Core.List.{List, [], ◌∷◌, ◌++◌, append_assoc, append-nil}
use mathlib.Core.Path.{◌≡◌, refl, sym, ap, ◌∙◌, subst}
use Prim.Native.Nat.{ℕ, ◌+◌, ◌<◌, ◌≤◌}
use native.Mathlib.Omega.{arith}
use borrow.Author.Tests.{ltb-false, not-true, lt-ltb, le-ltb}
use lib.Dec.{T, ltb}
use lib.ListN.{length, take}
use Rattle.std.specs.Prelude.{Option, Some, None, Result, Ok, Err, is_err, min}
use Rattle.std.specs.Result.{result_unwrap_or}
use Rattle.std.specs.declared.io.Error.{Error}
use Rattle.print.specs.declared.Printout.{Printout}
use Rattle.program_io.specs.Answers.{Answer, answer_of, count_of, bytes_of, has_failed, text_of, last_failure, most_calls}
use Rattle.wire_samples.specs.declared.Wires.{Wires}
use Rattle.wire_samples.specs.Sample.{at_start}
use Rattle.wire_samples.specs.Feed.{after_all, are_samples}
use Rattle.wire_text.specs.declared.Reading.{Reading}
use Rattle.wire_text.specs.Capture.{samples_in}
use Rattle.wire_text.specs.Parts.{start_of, is_over, after_part, after_parts, all_parts}
use Rattle.wire_text.proofs.Laws.{wires-in-parts, over-in-parts, rest-untold}
use Rattle.wire_file.specs.declared.Turn.{Turn}
use Rattle.wire_file.specs.declared.Turn.TheVariants.{More, Last}
use Rattle.wire_file.specs.Answers.{after_answer, Turned, turned, taken_in}
use Rattle.wire_file.specs.Some.{TurnOfSome, Enough, none_given, refused_for_good, no_more_calls, CaptureOfSome}

-- ---- one answer

none-counted : (a : Answer) → has_failed a ≡ true → count_of a ≡ 0
none-counted a h = go a.got h
  where
    go : (got : Result ℕ Error) → is_err got ≡ true → min (result_unwrap_or got 0) (length a.buffer) ≡ 0
    go (Ok n) h = absurd (subst T (sym h) tt)
    go (Err e) h = omega arith

pub failed-turn :
    (got : Result ℕ Error) (buffer : List ℕ) (r : Reading) (e : Error) → got ≡ Err e → turned (Last r (Some e)) ≡ taken_in (answer_of got buffer) r
unfolding taken_in
failed-turn got buffer r e is = let none : min 0 (length buffer) ≡ 0 = omega arith in rw (is, none)

-- the read gave these bytes
module _
    (got : Result ℕ Error) (buffer : List ℕ) (r : Reading) (k : ℕ) (is : got ≡ Ok k) (n : ℕ) (en : n ≡ count_of (answer_of got buffer)) (after : Reading)
    (ea : after ≡ after_part r (take n buffer)) (over : Bool) (eo : over ≡ is_over after)
  where
    turn_of : Bool → Turned
    turn_of more = record { after = after; more = more; failed = None }

    bytes-taken : turn_of (ltb 0 n && not over) ≡ taken_in (answer_of got buffer) r
    unfolding taken_in turn_of
    bytes-taken = rw (eo, ea, en, is) refl

    pub more-turn : 0 < n → over ≡ false → turned (More after) ≡ taken_in (answer_of got buffer) r
    unfolding turn_of
    more-turn some going = ap turn_of (sym (rw (lt-ltb 0 n some, going) refl)) ∙ bytes-taken

    pub over-turn : over ≡ true → (e : Option Error) → e ≡ None → turned (Last after e) ≡ taken_in (answer_of got buffer) r
    unfolding turn_of
    over-turn h e none = rw none (ap turn_of (sym (rw h (and-false (ltb 0 n)))) ∙ bytes-taken)

    pub end-turn : n ≤ 0 → (e : Option Error) → e ≡ None → turned (Last after e) ≡ taken_in (answer_of got buffer) r
    unfolding turn_of
    end-turn h e none = rw none (ap turn_of (sym (rw (le-ltb 0 n h) refl)) ∙ bytes-taken)

-- ---- the loop

-- what has been read in so many turns is what some answers gave: a part for each
pub record ReadSoFar (pins : ℕ) (r : Reading) (turns : ℕ) : Type 0 where
  pub answers : List Answer
  pub parts : List (List ℕ)
  pub are-given : all_parts parts ≡ text_of answers
  pub is_read : r ≡ after_parts (start_of pins) parts
  pub none_failed : None ≡ last_failure answers
  pub are-counted : length answers ≡ turns

pub begun : (pins : ℕ) (r : Reading) → r ≡ start_of pins → ReadSoFar pins r 0
begun pins r e = record { answers = []; parts = []; are-given = refl; is_read = e; none_failed = refl; are-counted = refl }

-- one part more
after_one : (r : Reading) (ps : List (List ℕ)) (p : List ℕ) → after_parts r (ps ++ p ∷ []) ≡ after_part (after_parts r ps) p
after_one r [] p = refl
after_one r (q ∷ ps) p = after_one (after_part r q) ps p

all_one : (ps : List (List ℕ)) (p : List ℕ) → all_parts (ps ++ p ∷ []) ≡ all_parts ps ++ p
all_one [] p = append-nil p
all_one (q ∷ ps) p = ap (λ (l : List ℕ). q ++ l) (all_one ps p) ∙ sym (append_assoc q (all_parts ps) p)

parts_then : List (List ℕ) → Answer → List (List ℕ)
parts_then ps a = cond (has_failed a) ps (ps ++ bytes_of a ∷ [])

module _ (a : Answer) (ps : List (List ℕ)) where
  given-then : all_parts (parts_then ps a) ≡ all_parts ps ++ bytes_of a
  unfolding parts_then
  given-then = go (has_failed a) refl
    where
      go : (t : Bool) → has_failed a ≡ t → all_parts (cond t ps (ps ++ bytes_of a ∷ [])) ≡ all_parts ps ++ bytes_of a
      go true e = sym (rw (none-counted a e) (append-nil (all_parts ps)))
      go false e = all_one ps (bytes_of a)

  read-then : (r q : Reading) → r ≡ after_parts q ps → after_answer a r ≡ after_parts q (parts_then ps a)
  unfolding parts_then
  read-then r q h = go (has_failed a)
    where
      go : (t : Bool) → cond t r (after_part r (bytes_of a)) ≡ after_parts q (cond t ps (ps ++ bytes_of a ∷ []))
      go true = h
      go false = rw h (sym (after_one q ps (bytes_of a)))

-- there is no more: there was no byte, or one that is no sample
enough :
    (pins : ℕ) (a : Answer) (before : List Answer) (some over : Bool) → ltb 0 (count_of a) ≡ some → over ≡ not (are_samples (text_of (a ∷ before)))
    → (some && not over) ≡ false → Enough pins (a ∷ before)
enough pins a before false over es eo h = none_given a before (let none = ltb-false 0 (count_of a) es in omega (arith, none))
enough pins a before true true es eo h =
    refused_for_good (a ∷ before) (λ rest. rest-untold pins (text_of (a ∷ before)) rest (not-true _ (sym eo)))
enough pins a before true false es eo h = absurd (subst T h tt)

unclear_in :
    (pins : ℕ) (r : Reading) (parts : List (List ℕ)) (bytes : List ℕ) → r ≡ after_parts (start_of pins) parts → all_parts parts ≡ bytes
    → r.wires.unclear ≡ (after_all at_start (samples_in bytes)).unclear
unclear_in pins r parts bytes is_read are-given =
    ap (λ (q : Reading). q.wires.unclear) is_read
    ∙ ap (λ (w : Wires). w.unclear) (wires-in-parts pins parts)
    ∙ ap (λ (l : List ℕ). (after_all at_start (samples_in l)).unclear) are-given

module _ {pins : ℕ} {r : Reading} {turns : ℕ} (so_far : ReadSoFar pins r turns) where
  module _ (t : Turn) {p q : Printout} (turn : TurnOfSome t p q r) where
    answers : List Answer
    answers = turn.answer ∷ so_far.answers

    parts : List (List ℕ)
    parts = parts_then so_far.parts turn.answer

    given : all_parts parts ≡ text_of (turn.answer ∷ so_far.answers)
    unfolding parts
    given = given-then turn.answer so_far.parts ∙ ap (λ (l : List ℕ). l ++ bytes_of turn.answer) so_far.are-given

    read : after_answer turn.answer r ≡ after_parts (start_of pins) parts
    unfolding parts
    read = read-then turn.answer so_far.parts r (start_of pins) so_far.is_read

    after : (turned t).after ≡ after_parts (start_of pins) parts
    unfolding taken_in
    after = ap (λ (u : Turned). u.after) turn.is_taken_in ∙ read

    over : is_over (after_answer turn.answer r) ≡ not (are_samples (text_of (turn.answer ∷ so_far.answers)))
    over = ap is_over read ∙ over-in-parts pins parts ∙ ap (λ (l : List ℕ). not (are_samples l)) given

    -- nothing more is read
    pub last-read :
        (printed : Bool) → (printed ≡ true → (turned t).more ≡ false)
        → CaptureOfSome (record { unclear = (turned t).after.wires.unclear; failed = (turned t).failed; printed = printed }) pins
    unfolding taken_in
    last-read printed why =
        record {
          answers = turn.answer ∷ so_far.answers;
          is_unclear = unclear_in pins (turned t).after parts (text_of (turn.answer ∷ so_far.answers)) after given;
          is_failed = ap (λ (u : Turned). u.failed) turn.is_taken_in;
          is_enough =
              λ h. enough pins turn.answer so_far.answers _ _ refl over (sym (ap (λ (u : Turned). u.more) turn.is_taken_in) ∙ why h);
        }

  pub turn-read : (next : Reading) {p q : Printout} → TurnOfSome (More next) p q r → ReadSoFar pins next (turns + 1)
  unfolding taken_in
  turn-read next turn =
      record {
        answers = turn.answer ∷ so_far.answers;
        parts = parts (More next) turn;
        are-given = given (More next) turn;
        is_read = after (More next) turn;
        none_failed = ap (λ (u : Turned). u.failed) turn.is_taken_in;
        are-counted = omega (arith, so_far.are-counted);
      }

  -- after as many calls as are made at most
  pub all_read : turns ≡ most_calls → CaptureOfSome (record { unclear = r.wires.unclear; failed = None; printed = true }) pins
  all_read many =
      record {
        answers = so_far.answers;
        is_unclear = unclear_in pins r so_far.parts (text_of so_far.answers) so_far.is_read so_far.are-given;
        is_failed = so_far.none_failed;
        is_enough = λ h. no_more_calls so_far.answers (so_far.are-counted ∙ many);
      }
