-- Ways through the code, over plain variables: one answer after the other.
use mathlib.Core.Bool.{Bool, true, false, not, ◌&&◌}
use mathlib.Core.List.{List, [], ◌∷◌, ◌++◌}
use mathlib.Core.Path.{◌≡◌, refl, sym, ap, subst, ◌∙◌}
use Prim.Native.Nat.{ℕ, ◌+◌}
use native.Mathlib.Omega.{arith}
use borrow.Author.Tests.{ltb-false}
use lib.Dec.{T, ltb}
use lib.ListN.{length}
use Rattle.std.specs.Prelude.{Option, None, Result, Ok, Err}
use Rattle.std.specs.declared.io.Error.{Error}
use Rattle.refusals.specs.declared.Refusal.{Refusal}
use Rattle.refusals.specs.Numbers.{number, numbered}
use Rattle.program_io.specs.Answers.{Answer, count_of, bytes_of, text_of, last_failure, most_calls}
use Rattle.capture.specs.declared.Capture.{Capture}
use Rattle.capture.specs.declared.End.{End}
use Rattle.capture.specs.Feeding.{Playing, kept, start_of, PartFed, fed, fed_by, feed_of, then_fed, is_over, finish_of, finish_fed, meaning}
use Rattle.capture.specs.Replay.{replay_of}
use Rattle.capture.proofs.Feeds.{fed_result, text-replayed, fed-end}
use Rattle.capture.proofs.Laws.{refused-finish, refused-over, cut-anywhere, rest-unread}
use Rattle.capture_file.specs.declared.Turn.{Turn}
use Rattle.capture_file.specs.declared.Turn.TheVariants.{More, Last}
use Rattle.capture_file.specs.Answers.{Turned, turned, taken_in}
use Rattle.capture_file.specs.Played.{TurnOfSome, Enough, none_given, refused_for_good, no_more_calls, ReplayOfSome}

-- ---- the loop

-- a capture that may be fed on is what some answers gave, none of which failed
pub record FedSoFar (m₀ w₀ : List ℕ) (c : Capture) (m w : List ℕ) (turns : ℕ) : Type 0 where
  pub answers : List Answer
  pub is-fed : fed 0 c m w ≡ feed_of (text_of answers) (kept start_of m₀ w₀)
  pub none_failed : None ≡ last_failure answers
  pub are-counted : length answers ≡ turns

-- no byte yet: the memories have been tested
pub begun :
    (m₀ w₀ m w : List ℕ) (s c : Capture) → s ≡ start_of → fed 0 c m w ≡ feed_of [] (kept s m₀ w₀) → FedSoFar m₀ w₀ c m w 0
begun m₀ w₀ m w s c es ef =
    record { answers = []; is-fed = ef ∙ ap (λ (d : Capture). feed_of [] (kept d m₀ w₀)) es; none_failed = refl; are-counted = refl }

pub begun-answers :
    (m₀ w₀ m w : List ℕ) (s c : Capture) (es : s ≡ start_of) (ef : fed 0 c m w ≡ feed_of [] (kept s m₀ w₀)) → (begun m₀ w₀ m w s c es ef).answers ≡ []
unfolding begun
begun-answers m₀ w₀ m w s c es ef = refl

-- there is no more: there was no byte, or the capture is refused
enough :
    (a : Answer) (before : List Answer) (m w : List ℕ) (some over : Bool) → ltb 0 (count_of a) ≡ some
    → is_over (feed_of (text_of (a ∷ before)) (kept start_of m w)) ≡ over → (some && not over) ≡ false → Enough m w (a ∷ before)
enough a before m w false over es eo h = none_given a before (let none = ltb-false 0 (count_of a) es in omega (arith, none))
enough a before m w true true es eo h = refused_for_good (a ∷ before) (λ rest. rest-unread (text_of (a ∷ before)) rest m w eo)
enough a before m w true false es eo h = absurd (subst T h tt)

-- the bytes of one answer more
text-taken : (c : Capture) (m w xs ys : List ℕ) (p : Playing) → fed 0 c m w ≡ feed_of xs p → feed_of ys (kept c m w) ≡ feed_of (xs ++ ys) p
text-taken c m w xs ys p e = ap (λ (f : PartFed). then_fed f ys) e ∙ sym (cut-anywhere xs ys p)

-- what was fed comes to the replay of it
finished :
    (f : Result Capture Refusal) (c : Capture) (m w text m₀ w₀ : List ℕ) → fed_by f c m w ≡ feed_of text (kept start_of m₀ w₀)
    → meaning (finish_fed f) m w ≡ replay_of text m₀ w₀
finished (Ok d) c m w text m₀ w₀ h =
    fed-end text (kept start_of m₀ w₀) 0 d m w h ∙ ap fed_result h ∙ text-replayed text m₀ w₀
finished (Err r) c m w text m₀ w₀ h =
    ap (λ (e : Result End ℕ). meaning e m w) (refused-finish r c)
    ∙ fed-end text (kept start_of m₀ w₀) (number r) c m w h
    ∙ ap fed_result h
    ∙ text-replayed text m₀ w₀

-- refused before the first byte
pub begun-refused :
    (m₀ w₀ m w : List ℕ) (s : Capture) (r : Refusal) → s ≡ start_of → fed (number r) s m w ≡ feed_of [] (kept s m₀ w₀)
    → ReplayOfSome (record { end = Err r; failed = None }) m w m₀ w₀
begun-refused m₀ w₀ m w s r es ef =
    let here : fed (number r) s m w ≡ feed_of [] (kept start_of m₀ w₀) = ef ∙ ap (λ (d : Capture). feed_of [] (kept d m₀ w₀)) es in
    record {
      answers = [];
      is_replay = finished (Err r) s m w [] m₀ w₀ here;
      is_failed = refl;
      is_enough = refused_for_good [] (λ rest. rest-unread [] rest m₀ w₀ (ap is_over (sym here) ∙ sym (refused-over r s)));
    }

pub begun-refused-answers :
    (m₀ w₀ m w : List ℕ) (s : Capture) (r : Refusal) (es : s ≡ start_of) (ef : fed (number r) s m w ≡ feed_of [] (kept s m₀ w₀))
    → (begun-refused m₀ w₀ m w s r es ef).answers ≡ []
unfolding begun-refused
begun-refused-answers m₀ w₀ m w s r es ef = refl

module _ {m₀ w₀ m w : List ℕ} {c : Capture} {turns : ℕ} (so_far : FedSoFar m₀ w₀ c m w turns) where
  -- the bytes of an answer more
  more-fed :
      (t : Turn) (m' w' : List ℕ) (turn : TurnOfSome t c m' w' (kept c m w))
      → (turned t c m' w').after ≡ feed_of (text_of (turn.answer ∷ so_far.answers)) (kept start_of m₀ w₀)
  unfolding taken_in
  more-fed t m' w' turn =
      ap (λ (u : Turned). u.after) turn.is_taken_in
      ∙ text-taken c m w (text_of so_far.answers) (bytes_of turn.answer) (kept start_of m₀ w₀) so_far.is-fed

  pub turn-fed : {m' w' : List ℕ} (d : Capture) → TurnOfSome (More d) c m' w' (kept c m w) → FedSoFar m₀ w₀ d m' w' (turns + 1)
  unfolding taken_in
  turn-fed {m'} {w'} d turn =
      record {
        answers = turn.answer ∷ so_far.answers;
        is-fed = more-fed (More d) m' w' turn;
        none_failed = ap (λ (u : Turned). u.failed) turn.is_taken_in;
        are-counted = omega (arith, so_far.are-counted);
      }

  pub turn-answers :
      {m' w' : List ℕ} (d : Capture) (turn : TurnOfSome (More d) c m' w' (kept c m w)) → (turn-fed d turn).answers ≡ turn.answer ∷ so_far.answers
  unfolding turn-fed
  turn-answers d turn = refl

  -- and no more
  pub last-fed :
      {m' w' : List ℕ} (f : Result Capture Refusal) (e : Option Error) (end : Result End Refusal) → TurnOfSome (Last f e) c m' w' (kept c m w)
      → numbered end ≡ finish_fed f → ReplayOfSome (record { end = end; failed = e }) m' w' m₀ w₀
  unfolding taken_in
  last-fed {m'} {w'} f e end turn is =
      let now = more-fed (Last f e) m' w' turn in
      record {
        answers = turn.answer ∷ so_far.answers;
        is_replay = ap (λ (n : Result End ℕ). meaning n m' w') is ∙ finished f c m' w' (text_of (turn.answer ∷ so_far.answers)) m₀ w₀ now;
        is_failed = ap (λ (u : Turned). u.failed) turn.is_taken_in;
        is_enough =
            enough turn.answer so_far.answers m₀ w₀ _ _ refl (ap is_over (sym now ∙ ap (λ (u : Turned). u.after) turn.is_taken_in))
            (sym (ap (λ (u : Turned). u.more) turn.is_taken_in));
      }

  pub last-answers :
      {m' w' : List ℕ} (f : Result Capture Refusal) (e : Option Error) (end : Result End Refusal) (turn : TurnOfSome (Last f e) c m' w' (kept c m w))
      (is : numbered end ≡ finish_fed f) → (last-fed f e end turn is).answers ≡ turn.answer ∷ so_far.answers
  unfolding last-fed
  last-answers f e end turn is = refl

  -- what was fed so far comes to the replay of it
  pub so-far-replayed : (end : Result End Refusal) → numbered end ≡ finish_of 0 c → meaning (numbered end) m w ≡ replay_of (text_of so_far.answers) m₀ w₀
  so-far-replayed end is = ap (λ (n : Result End ℕ). meaning n m w) is ∙ finished (Ok c) c m w (text_of so_far.answers) m₀ w₀ so_far.is-fed

  -- after as many calls as are made at most
  pub all-fed : (end : Result End Refusal) → numbered end ≡ finish_of 0 c → turns ≡ most_calls → ReplayOfSome (record { end = end; failed = None }) m w m₀ w₀
  all-fed end is many =
      record {
        answers = so_far.answers;
        is_replay = so-far-replayed end is;
        is_failed = so_far.none_failed;
        is_enough = no_more_calls so_far.answers (so_far.are-counted ∙ many);
      }

  pub all-answers :
      (end : Result End Refusal) (is : numbered end ≡ finish_of 0 c) (many : turns ≡ most_calls) → (all-fed end is many).answers ≡ so_far.answers
  unfolding all-fed
  all-answers end is many = refl
