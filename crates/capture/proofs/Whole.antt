-- Bytes fed one by one come to what the whole text says, line by line.
use mathlib.Core.Path.{◌≡◌, refl, ap, ◌∙◌}
use mathlib.Core.Bool.{Bool, true, false, cond}
use mathlib.Core.List.{List, [], ◌∷◌, ◌++◌, append-nil}
use Prim.Native.Nat.{ℕ, zero, suc, ◌+◌, ◌<◌}
use native.Mathlib.Nat.{add-zero}
use native.Mathlib.Omega.{arith}
use borrow.Author.Tests.{leb-true}
use lib.Dec.{eqb, ltb}
use Rattle.std.specs.Prelude.{Ok}
use lib.ListN.{length, get_or}
use lib.Seq.{append_snoc}
use Rattle.registers.specs.State.{State}
use Rattle.std.specs.Prelude.{Option, Some, None}
use Rattle.text.specs.Decimal.{number_of}
use Rattle.text.specs.Text.{split, on_first}
use Rattle.text.proofs.Splitting.{split-some}
use Rattle.chip.specs.Promised.{Fit, Outcome, run_of}
use Rattle.chip.specs.RunOn.{more_done}
use Rattle.chip.specs.Runs.{onward}
use Rattle.chip.proofs.Laws.{run-stays-fit}
use Rattle.chip.proofs.RunOn.{run_none, run-then, run-counts}
use Rattle.capture_lines.specs.declared.LineSoFar.{LineSoFar}
use Rattle.capture_lines.specs.declared.LineSoFar.TheVariants.{First, Pins, Empty, BadFirst, Bad}
use Rattle.capture_lines.specs.Line.{newline, word}
use Rattle.capture_lines.specs.SoFar.{is_pins, with_byte, with_bytes, pins_in, of_number, event_line}
use Rattle.capture_lines.proofs.Digits.{event-line-kept}
use Rattle.capture_lines.proofs.Laws.{first-line}
use Rattle.capture_lines.proofs.Pins.{with-bytes-one}
use Rattle.capture.specs.Feeding.{Playing, playing, line_after, played, ended_line, line_allowed, bytes_fed, end_of, meaning}
use Rattle.capture.specs.Reading.{EventsRead, events_of, with_event}
use Rattle.capture.specs.Replay.{Replay, refused_at, started, ended_by, replay_by, with_pins, replay_lines}
use Rattle.capture.specs.Where.{Lent}
use Rattle.capture.proofs.Refusals.{started-fit, with-bytes-allowed}

-- what it comes to if nothing more is fed
abbrev pub result_of : Playing → Replay
result_of p = meaning (Ok (end_of p.line p.state.chip p.state.count)) p.state.memory p.state.writers

-- what the lines say is played, n events being done
abbrev pub play_from : ℕ → EventsRead → State → Replay
play_from n l s = replay_by (more_done n (run_of l.events s)) l.all-good

-- ---- a refused capture stays as it is

either : (t : Bool) (p : Playing) → cond t p p ≡ p
either true p = refl
either false p = refl

pub stuck : (xs : List ℕ) (s : State) → bytes_fed xs (playing Bad s) ≡ playing Bad s
unfolding bytes_fed ended_line with_byte
stuck [] s = refl
stuck (b ∷ xs) s = ap (λ (p : Playing). bytes_fed xs p) (either (eqb b newline) (playing Bad s)) ∙ stuck xs s

pub stuck-first : (xs : List ℕ) (s : State) → bytes_fed xs (playing BadFirst s) ≡ playing BadFirst s
unfolding bytes_fed ended_line with_byte
stuck-first [] s = refl
stuck-first (b ∷ xs) s = ap (λ (p : Playing). bytes_fed xs p) (either (eqb b newline) (playing BadFirst s)) ∙ stuck-first xs s

-- at the line after the events that are counted
bad-line : (xs : List ℕ) (s : State) → result_of (bytes_fed xs (playing Bad s)) ≡ refused_at (s.count + 2) s
unfolding meaning
bad-line xs s = ap result_of (stuck xs s)

bad-first : (xs : List ℕ) (s : State) → result_of (bytes_fed xs (playing BadFirst s)) ≡ refused_at 1 (started 0 s.memory s.writers)
unfolding meaning
bad-first xs s = ap result_of (stuck-first xs s)

-- ---- event lines

-- the bytes p of a line that is begun stand before those of the first piece
abbrev pub onto : List ℕ → List (List ℕ) → List (List ℕ)
onto p [] = p ∷ []
onto p (q ∷ qs) = (p ++ q) ∷ qs

-- no event is left
pub none_left : (n : ℕ) (t : Bool) (s : State) → Fit s → replay_by (more_done n (run_of [] s)) t ≡ ended_by 0 t n s
none_left n t s fit = rw (run_none s fit, add-zero)

-- a newline behind a line, whatever the lines behind it come to
module _ (bs : List ℕ) (rest : EventsRead)
    (h : (s : State) → Fit s → result_of (bytes_fed bs (playing Empty s)) ≡ play_from s.count rest s) (s : State) (fit : Fit s) where
  -- o is what the event leaves
  outcome-ended :
      (o : Outcome) → Fit o.state → o.state.count ≡ s.count + o.done → (k : ℕ) → o.refusal ≡ k
      → result_of (bytes_fed bs (playing (line_after k) o.state))
      ≡ replay_by (more_done s.count (onward k o (more_done o.done (run_of rest.events o.state)))) rest.all-good
  outcome-ended o fit' counted zero q =
      let r : Outcome = run_of rest.events o.state in
      h o.state fit'
      ∙ ap (λ (n : ℕ). ended_by r.refusal rest.all-good n r.state) (omega (arith, counted))
  outcome-ended o fit' counted (suc k) q = bad-line bs o.state ∙ rw (q, counted)

  event-ended : (e : ℕ) → result_of (bytes_fed bs (played (run_of (e ∷ []) s))) ≡ play_from s.count (with_event (Some e) rest) s
  event-ended e =
      outcome-ended (run_of (e ∷ []) s) (run-stays-fit (e ∷ []) s fit) (run-counts (e ∷ []) s) (run_of (e ∷ []) s).refusal refl
      ∙ rw (run-then (e ∷ []) rest.events s)

  line-ended : (p : List ℕ) → result_of (bytes_fed bs (ended_line (event_line p) s)) ≡ play_from s.count (with_event (number_of p) rest) s
  unfolding ended_line number_of
  line-ended [] = bad-line bs s ∙ rw (none_left s.count false s fit)
  line-ended (x ∷ p) = go (number_of (x ∷ p))
    where
      go : (v : Option ℕ) → result_of (bytes_fed bs (ended_line (of_number v) s)) ≡ play_from s.count (with_event v rest) s
      go None = bad-line bs s ∙ rw (none_left s.count false s fit)
      go (Some e) = event-ended e

-- no newline follows
line-left : (p : List ℕ) (s : State) → Fit s → result_of (playing (event_line p) s) ≡ play_from s.count (events_of ((p ++ []) ∷ [])) s
unfolding meaning
line-left [] s fit = rw (none_left s.count true s fit)
line-left (x ∷ p) s fit = go (number_of (x ∷ p)) ∙ rw (none_left s.count false s fit)
  where
    go : (v : Option ℕ) → result_of (playing (of_number v) s) ≡ refused_at (s.count + 2) s
    go None = refl
    go (Some e) = refl

events-fed :
    (xs p : List ℕ) (s : State) → Fit s
    → result_of (bytes_fed xs (playing (event_line p) s)) ≡ play_from s.count (events_of (onto p (split newline xs))) s
unfolding bytes_fed
events-fed [] p s fit = line-left p s fit
events-fed (b ∷ bs) p s fit = go (eqb b newline) (split newline bs) (split-some newline bs) (λ q t f. events-fed bs q t f)
  where
    go :
        (t : Bool) (qs : List (List ℕ)) → 0 < length qs
        → ((q : List ℕ) (s' : State) → Fit s'
        → result_of (bytes_fed bs (playing (event_line q) s')) ≡ play_from s'.count (events_of (onto q qs)) s')
        → result_of (bytes_fed bs (cond t (ended_line (event_line p) s) (playing (with_byte (event_line p) b) s)))
        ≡ play_from s.count (events_of (onto p (cond t ([] ∷ qs) (on_first b qs)))) s
    go t [] l h = absurd (omega arith)
    go true (q ∷ qs) l h = rw (append-nil p) (line-ended bs (events_of (q ∷ qs)) (λ s' f. h [] s' f) s fit p)
    go false (q ∷ qs) l h =
        rw (event-line-kept p b)
        (h (p ++ b ∷ []) s fit ∙ ap (λ (l : List ℕ). play_from s.count (events_of (l ∷ qs)) s) (append_snoc p b q))

-- ---- the first line

-- it stays the first until its newline
pub data IsFirst : LineSoFar → Type 0 where
  first : {k : ℕ} → IsFirst (First k)
  pins : {p : ℕ} → IsFirst (Pins p)
  bad : IsFirst BadFirst

either_first : (t : Bool) (k l : LineSoFar) → IsFirst k → IsFirst l → IsFirst (cond t k l)
either_first true k l i j = i
either_first false k l i j = j

joined-first : {l : LineSoFar} (b : ℕ) → IsFirst l → IsFirst (with_byte l b)
unfolding with_byte
joined-first b (first {k}) = either_first (ltb k 5) _ _ (either_first (eqb b (get_or word k 0)) _ _ first bad) (either_first (is_pins b) _ _ pins bad)
joined-first b pins = bad
joined-first b bad = bad

pub all_first : (p : List ℕ) {l : LineSoFar} → IsFirst l → IsFirst (with_bytes l p)
all_first [] i = i
all_first (b ∷ p) i = all_first p (joined-first b i)

-- until then only the memories of what is kept count
module _ (s : State) (lent : Lent s.memory s.writers) where
  abbrev m : List ℕ
  m = s.memory

  abbrev w : List ℕ
  w = s.writers

  -- the first line without a newline, and with one
  first_left : {l : LineSoFar} → IsFirst l → result_of (playing l s) ≡ refused_at 1 (started 0 m w)
  unfolding meaning
  first_left first = refl
  first_left pins = refl
  first_left bad = refl

  first_ended :
      {l : LineSoFar} (bs q : List ℕ) (qs : List (List ℕ)) → IsFirst l → line_allowed l ≡ true → split newline bs ≡ q ∷ qs
      → result_of (bytes_fed bs (ended_line l s)) ≡ with_pins (pins_in l) (events_of (q ∷ qs)) m w
  unfolding ended_line
  first_ended bs q qs first a e = bad-first bs s
  first_ended bs q qs (pins {p}) a e =
      events-fed bs [] (started p m w) (started-fit p m w (leb-true p 3 a) lent) ∙ rw e (from_zero (run_of (events_of (q ∷ qs)).events (started p m w)))
    where
      from_zero : (o : Outcome) → replay_by (more_done 0 o) (events_of (q ∷ qs)).all-good ≡ replay_by o (events_of (q ∷ qs)).all-good
      from_zero o = ap (λ (n : ℕ). ended_by o.refusal (events_of (q ∷ qs)).all-good n o.state) (omega arith)
  first_ended bs q qs bad a e = bad-first bs s

  first-fed :
      (xs p : List ℕ) → result_of (bytes_fed xs (playing (with_bytes (First 0) p) s)) ≡ replay_lines (onto p (split newline xs)) m w
  unfolding bytes_fed
  first-fed [] p = first_left (all_first p first)
  first-fed (b ∷ bs) p = go (eqb b newline) (split newline bs) refl (split-some newline bs) (λ q. first-fed bs q)
    where
      go :
          (t : Bool) (qs : List (List ℕ)) → split newline bs ≡ qs → 0 < length qs
          → ((q : List ℕ) → result_of (bytes_fed bs (playing (with_bytes (First 0) q) s)) ≡ replay_lines (onto q qs) m w)
          → result_of
          (bytes_fed bs
          (cond t (ended_line (with_bytes (First 0) p) s) (playing (with_byte (with_bytes (First 0) p) b) s)))
          ≡ replay_lines (onto p (cond t ([] ∷ qs) (on_first b qs))) m w
      go t [] e l h = absurd (omega arith)
      go true (q ∷ qs) e l h =
          first_ended bs q qs (all_first p first) (with-bytes-allowed (First 0) p refl) e ∙ rw (first-line p, append-nil p)
      go false (q ∷ qs) e l h =
          rw (← with-bytes-one (First 0) p b) (h (p ++ b ∷ []) ∙ ap (λ (l : List ℕ). replay_lines (l ∷ qs) m w) (append_snoc p b q))

  pub text-fed : (text : List ℕ) → result_of (bytes_fed text (playing (First 0) s)) ≡ replay_lines (split newline text) m w
  text-fed text = first-fed text [] ∙ go (split newline text) (split-some newline text)
    where
      go : (qs : List (List ℕ)) → 0 < length qs → replay_lines (onto [] qs) m w ≡ replay_lines qs m w
      go [] l = absurd (omega arith)
      go (q ∷ qs) l = refl
