-- Ways through the code, over plain variables: one answer after the other, as in `capture_file`, and the tally beside it.
use mathlib.Core.Bool.{Bool, true, false}
use mathlib.Core.List.{List, [], ◌∷◌}
use mathlib.Core.Path.{◌≡◌, sym, ap, subst, ◌∙◌}
use Prim.Native.Nat.{ℕ, ◌+◌}
use lib.Dec.{T}
use Rattle.std.specs.Prelude.{Option, None, Result, Err}
use Rattle.std.specs.declared.io.Error.{Error}
use Rattle.refusals.specs.declared.Refusal.{Refusal}
use Rattle.refusals.specs.Numbers.{number, numbered}
use Rattle.print.specs.declared.Printout.{Printout}
use Rattle.program_io.specs.Answers.{Answer, bytes_of, text_of, most_calls}
use Rattle.capture.specs.declared.Capture.{Capture}
use Rattle.capture.specs.declared.End.{End}
use Rattle.capture.specs.Feeding.{Playing, kept, start_of, PartFed, fed, feed_of, finish_of, finish_fed}
use Rattle.capture_file.specs.declared.Turn.{Turn}
use Rattle.capture_file.specs.declared.Turn.TheVariants.{More, Last}
use Rattle.capture_file.proofs.CodeWays.{FedSoFar, begun, begun-answers, begun-refused, begun-refused-answers, turn-fed, turn-answers, last-fed, last-answers, so-far-replayed, all-fed, all-answers}
use Rattle.capture_trace.specs.declared.tally.Tally.{Tally}
use Rattle.capture_trace.specs.Done.{DoneEvent, done_in_part, done_of}
use Rattle.capture_trace.specs.Follow.{none_tallied, tally, tallied_over}
use Rattle.capture_trace.specs.Told.{is_not_acknowledged, how_many}
use Rattle.chip.specs.Promised.{is_acknowledged}
use Rattle.capture_trace.proofs.CodeWays.{tallied-append}
use Rattle.capture_trace.proofs.Laws.{cut-anywhere, tally-exact}
use Rattle.capture_trace.proofs.Parts.{none_done, whole-done}
use Rattle.trace_file.specs.declared.Step.{Step}
use Rattle.trace_file.specs.Some.{StepOfSome, FollowOfSome}

-- the tally over the events of what some answers gave
abbrev pub tally_of : List ℕ → List ℕ → List Answer → Tally
tally_of m₀ w₀ answers = tallied_over (done_in_part (text_of answers) (kept start_of m₀ w₀)) none_tallied

-- it counts the bytes that were acknowledged, and those that were not
counts :
    (m₀ w₀ : List ℕ) (answers : List Answer) (t : Tally) → t ≡ tally_of m₀ w₀ answers
    → t ≡ tally (how_many is_acknowledged (done_of (text_of answers) m₀ w₀)) (how_many is_not_acknowledged (done_of (text_of answers) m₀ w₀))
counts m₀ w₀ answers t e =
    e ∙ ap (λ (ds : List DoneEvent). tallied_over ds none_tallied) (whole-done (text_of answers) m₀ w₀) ∙ tally-exact (text_of answers) m₀ w₀

-- no byte, nothing tallied
none-yet : (m₀ w₀ : List ℕ) (t : Tally) → t ≡ none_tallied → t ≡ tally_of m₀ w₀ []
none-yet m₀ w₀ t e = e ∙ ap (λ (ds : List DoneEvent). tallied_over ds none_tallied) (sym (none_done (kept start_of m₀ w₀)))

-- a capture that may be fed on is what some answers gave, and the tally is that of its events
pub record FollowedSoFar (m₀ w₀ : List ℕ) (c : Capture) (t : Tally) (m w : List ℕ) (turns : ℕ) : Type 0 where
  pub is-fed : FedSoFar m₀ w₀ c m w turns
  pub is_tallied : t ≡ tally_of m₀ w₀ is-fed.answers

-- no byte yet
pub begun-followed :
    (m₀ w₀ m w : List ℕ) (s c : Capture) (t : Tally) → s ≡ start_of → fed 0 c m w ≡ feed_of [] (kept s m₀ w₀) → t ≡ none_tallied
    → FollowedSoFar m₀ w₀ c t m w 0
begun-followed m₀ w₀ m w s c t es ef et =
    record {
      is-fed = begun m₀ w₀ m w s c es ef;
      is_tallied = none-yet m₀ w₀ t et ∙ ap (tally_of m₀ w₀) (sym (begun-answers m₀ w₀ m w s c es ef));
    }

-- refused before the first byte
pub refused-followed :
    (m₀ w₀ m w : List ℕ) (s : Capture) (r : Refusal) (t : Tally) → s ≡ start_of → fed (number r) s m w ≡ feed_of [] (kept s m₀ w₀) → t ≡ none_tallied
    → FollowOfSome (record { end = Err r; tally = t; failed = None; printed = true }) m w m₀ w₀
refused-followed m₀ w₀ m w s r t es ef et =
    let all = begun-refused m₀ w₀ m w s r es ef in
    record {
      answers = all.answers;
      is_replay = all.is_replay;
      is_failed = all.is_failed;
      is_enough = λ h. all.is_enough;
      is_tally =
          counts m₀ w₀ all.answers t (none-yet m₀ w₀ t et ∙ ap (tally_of m₀ w₀) (sym (begun-refused-answers m₀ w₀ m w s r es ef)));
    }

-- a turn of a known kind
pub known-turn :
    {told : Bool} {c : Capture} {t : Tally} {o q : Printout} {m w : List ℕ} {before : Playing} (s : Step) (known : Turn) → s.turn ≡ known
    → StepOfSome s told c t o m w q before → StepOfSome (record { turn = known; tally = s.tally }) told c t o m w q before
known-turn {told} {c} {t} {o} {q} {m} {w} {before} s known e h =
    subst (λ (x : Turn). StepOfSome (record { turn = x; tally = s.tally }) told c t o m w q before) e h

module _ {m₀ w₀ m w : List ℕ} {c : Capture} {t : Tally} {turns : ℕ} (so_far : FollowedSoFar m₀ w₀ c t m w turns) where
  -- the bytes of an answer more
  tallied-on :
      {told : Bool} {o q : Printout} {m' w' : List ℕ} (s : Step) (step : StepOfSome s told c t o m' w' q (kept c m w)) (answers : List Answer)
      → answers ≡ step.is_turn.answer ∷ so_far.is-fed.answers → s.tally ≡ tally_of m₀ w₀ answers
  tallied-on s step answers e =
      step.is_tallied
      ∙ ap (λ (p : Playing). tallied_over (done_in_part (bytes_of a) p) t) stands
      ∙ ap (tallied_over (done_in_part (bytes_of a) (feed_of text start).after)) so_far.is_tallied
      ∙ sym (tallied-append (done_in_part text start) (done_in_part (bytes_of a) (feed_of text start).after) none_tallied)
      ∙ ap (λ (ds : List DoneEvent). tallied_over ds none_tallied) (sym (cut-anywhere text (bytes_of a) start))
      ∙ ap (tally_of m₀ w₀) (sym e)
    where
      a : Answer
      a = step.is_turn.answer

      text : List ℕ
      text = text_of so_far.is-fed.answers

      start : Playing
      start = kept start_of m₀ w₀

      stands : kept c m w ≡ (feed_of text start).after
      stands = ap (λ (g : PartFed). g.after) so_far.is-fed.is-fed

  pub turn-followed :
      {told : Bool} {o q : Printout} {m' w' : List ℕ} (d : Capture) (u : Tally)
      → StepOfSome (record { turn = More d; tally = u }) told c t o m' w' q (kept c m w) → FollowedSoFar m₀ w₀ d u m' w' (turns + 1)
  turn-followed d u step =
      record {
        is-fed = turn-fed so_far.is-fed d step.is_turn;
        is_tallied = tallied-on (record { turn = More d; tally = u }) step _ (turn-answers so_far.is-fed d step.is_turn);
      }

  pub last-followed :
      {told : Bool} {o q : Printout} {m' w' : List ℕ} (f : Result Capture Refusal) (e : Option Error) (u : Tally) (end : Result End Refusal) (printed : Bool)
      → StepOfSome (record { turn = Last f e; tally = u }) told c t o m' w' q (kept c m w) → numbered end ≡ finish_fed f
      → FollowOfSome (record { end = end; tally = u; failed = e; printed = printed }) m' w' m₀ w₀
  last-followed f e u end printed step is =
      let all = last-fed so_far.is-fed f e end step.is_turn is in
      record {
        answers = all.answers;
        is_replay = all.is_replay;
        is_failed = all.is_failed;
        is_enough = λ h. all.is_enough;
        is_tally =
            counts m₀ w₀ all.answers u
            (tallied-on (record { turn = Last f e; tally = u }) step _ (last-answers so_far.is-fed f e end step.is_turn is));
      }

  -- stopped where the lines could not be put
  pub stopped-followed :
      (end : Result End Refusal) (printed : Bool) → numbered end ≡ finish_of 0 c → printed ≡ false
      → FollowOfSome (record { end = end; tally = t; failed = None; printed = printed }) m w m₀ w₀
  stopped-followed end printed is not =
      record {
        answers = so_far.is-fed.answers;
        is_replay = so-far-replayed so_far.is-fed end is;
        is_failed = so_far.is-fed.none_failed;
        is_enough = λ h. absurd (subst T (sym h ∙ not) tt);
        is_tally = counts m₀ w₀ so_far.is-fed.answers t so_far.is_tallied;
      }

  pub all-followed :
      (end : Result End Refusal) → numbered end ≡ finish_of 0 c → turns ≡ most_calls
      → FollowOfSome (record { end = end; tally = t; failed = None; printed = true }) m w m₀ w₀
  all-followed end is many =
      let all = all-fed so_far.is-fed end is many in
      record {
        answers = all.answers;
        is_replay = all.is_replay;
        is_failed = all.is_failed;
        is_enough = λ h. all.is_enough;
        is_tally = counts m₀ w₀ all.answers t (so_far.is_tallied ∙ ap (tally_of m₀ w₀) (sym (all-answers so_far.is-fed end is many)));
      }
