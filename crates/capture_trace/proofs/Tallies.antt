-- The tally of a capture is a count over its events: no number reaches the end of a machine word, since the count would first.
use mathlib.Core.Bool.{Bool, cond}
use mathlib.Core.List.{List, [], ◌∷◌}
use mathlib.Core.Path.{◌≡◌, refl, ap, ◌∙◌}
use Prim.Native.Nat.{ℕ, zero, suc, ◌+◌, ◌-◌, ◌^◌, ◌<◌, ◌≤◌}
use native.Mathlib.Omega.{arith}
use borrow.Author.Tests.{lt-ltb}
use lib.ListN.{length}
use Rattle.registers.specs.State.{State}
use Rattle.chip.specs.Promised.{Answer, Refused, Nothing, Acknowledged, NotAcknowledged, Command, Read, refusal_of, step_of}
use Rattle.engine.specs.Event.{is_acknowledged}
use Rattle.chip.proofs.Laws.{count_law}
use Rattle.chip.proofs.Refusals.{accepted-when}
use Rattle.capture_trace.specs.Done.{DoneEvent, done_event, done_unless, done_events}
use Rattle.capture_trace.specs.Follow.{answer_to, tally, none_tallied, one_more, tallied, tallied_over}
use Rattle.capture_trace.specs.Told.{is_not_acknowledged, how_many}

one_more_lem : (n : ℕ) → n < 2 ^ 64 - 1 → one_more n ≡ n + 1
one_more_lem n h = rw (lt-ltb n (2 ^ 64 - 1) h)

same-tally : {n m j k : ℕ} → n ≡ j → m ≡ k → tally n m ≡ tally j k
same-tally p q = rw (p, q)

-- 1 where the answer is one of these
abbrev one : (Answer → Bool) → Answer → ℕ
one is a = cond (is a) 1 0

tallied-one :
    (a : Answer) (n m : ℕ) → n < 2 ^ 64 - 1 → m < 2 ^ 64 - 1 → tallied a (tally n m) ≡ tally (n + one is_acknowledged a) (m + one is_not_acknowledged a)
unfolding tallied is_acknowledged
tallied-one (Refused k) n m hn hm = same-tally (omega arith) (omega arith)
tallied-one Nothing n m hn hm = same-tally (omega arith) (omega arith)
tallied-one Acknowledged n m hn hm = same-tally (one_more_lem n hn) (omega arith)
tallied-one NotAcknowledged n m hn hm = same-tally (omega arith) (one_more_lem m hm)
tallied-one (Command c) n m hn hm = same-tally (one_more_lem n hn) (omega arith)
tallied-one (Read b) n m hn hm = same-tally (omega arith) (omega arith)

-- an answer is not both
one_at_most : (a : Answer) → one is_acknowledged a + one is_not_acknowledged a ≤ 1
unfolding is_acknowledged
one_at_most (Refused k) = omega arith
one_at_most Nothing = omega arith
one_at_most Acknowledged = omega arith
one_at_most NotAcknowledged = omega arith
one_at_most (Command c) = omega arith
one_at_most (Read b) = omega arith

tallied-all :
    (ds : List DoneEvent) (n m : ℕ) → n + m + length ds ≤ 2 ^ 64 - 1
    → tallied_over ds (tally n m) ≡ tally (n + how_many is_acknowledged ds) (m + how_many is_not_acknowledged ds)
tallied-all [] n m h = same-tally (omega arith) (omega arith)
tallied-all (d ∷ ds) n m h =
    let a : Answer = answer_to d in
    ap (tallied_over ds) (tallied-one a n m (omega arith) (omega arith))
    ∙ tallied-all ds (n + one is_acknowledged a) (m + one is_not_acknowledged a) (omega (arith, one_at_most a))
    ∙ same-tally (omega arith) (omega arith)

-- as many events as there is room for in the count
room : (es : List ℕ) (s : State) → s.count ≤ 2 ^ 64 - 1 → s.count + length (done_events es s) ≤ 2 ^ 64 - 1
unfolding done_events
room [] s h = omega arith
room (e ∷ es) s h = go (refusal_of e s) refl (λ r. room es (step_of e s).state r)
  where
    next : State
    next = (step_of e s).state

    go :
        (k : ℕ) → refusal_of e s ≡ k → (next.count ≤ 2 ^ 64 - 1 → next.count + length (done_events es next) ≤ 2 ^ 64 - 1)
        → s.count + length (done_unless k (done_event e s ∷ done_events es (step_of e s).state)) ≤ 2 ^ 64 - 1
    go zero q rest =
        let below : s.count < 2 ^ 64 - 1 = omega (arith, (accepted-when e s q).room) in
        omega (arith, rest (omega (arith, count_law e s q)), count_law e s q)
    go (suc k) q rest = omega arith

-- so from a count of 0 on the tally counts them
pub tally-counts :
    (es : List ℕ) (s : State) → s.count ≡ 0
    → tallied_over (done_events es s) none_tallied ≡ tally (how_many is_acknowledged (done_events es s)) (how_many is_not_acknowledged (done_events es s))
tally-counts es s none =
    tallied-all (done_events es s) 0 0 (omega (arith, room es s (omega (arith, none)), none)) ∙ same-tally (omega arith) (omega arith)
