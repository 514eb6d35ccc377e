-- Traffic goes onto clean wires and comes back: no event is lost and none invented. What is promised of it, in one place; the work stands in the
-- files beside this one.
use mathlib.Core.Bool.{true, false}
use mathlib.Core.List.{List, [], ◌∷◌}
use mathlib.Core.Logic.{◌⊎◌}
use mathlib.Core.Path.{◌≡◌, refl, ap, ◌∙◌}
use Prim.Native.Nat.{ℕ, ◌≤◌, ◌<◌}
use native.Mathlib.Omega.{arith}
use borrow.Author.Tests.{eq-eqb, le-leb}
use lib.ListN.{length}
use lib.Seq.{take-length}
use Rattle.wire_samples.specs.declared.Stage.{Stage}
use Rattle.wire_samples.specs.declared.Stage.TheVariants.{Outside}
use Rattle.wire_samples.specs.declared.Wires.{Wires}
use Rattle.wire_samples.specs.Sample.{wires, at_start}
use Rattle.wire_samples.specs.Feed.{after_all, events_of, are_samples, feed_of}
use Rattle.wire_traffic.specs.Calls.{Call, Course, course, after_calls}
use Rattle.wire_traffic.specs.Traffic.{Carried, start, stop, are_bytes, Lines, idle, held, level_of, samples_of, lines_after_all, events_by, stage_by}
use Rattle.wire_traffic.specs.Traffic.{can_be_told, carried_by, are_clean, stretched, clean_samples, clean_end, all_consumed}
use Rattle.wire_traffic.specs.When.{Allowed}
use Rattle.wire_traffic.proofs.Carries as Carries
use Rattle.wire_traffic.proofs.Clean as Clean
use Rattle.wire_traffic.proofs.Cuts as Cuts
use Rattle.wire_traffic.proofs.Events as Events
use Rattle.wire_traffic.proofs.Rooms as Rooms
use Rattle.wire_traffic.proofs.Runs.{Tell}
use Rattle.wire_traffic.proofs.Stretched as Stretched
use Rattle.wire_traffic.proofs.Told as Told

-- ---- clean wires

-- what carries traffic is clean, from all lines and for everything carried: the samples are 0 to 3, and from one to the next one line changes at most
pub traffic-clean : (l : Lines) (cs : List Carried) → are_clean (level_of l) (samples_of l cs) ≡ true
traffic-clean = Clean.traffic-clean

-- of clean samples, whatever they carry, none is counted as unclear
pub clean-uncounted : (w : Wires) (ss : List ℕ) → are_clean w.last ss ≡ true → (after_all w ss).unclear ≡ w.unclear
clean-uncounted = Clean.clean-uncounted

-- ---- how often the wires are sampled

module _ (w : Wires) (ns ss : List ℕ) where
  -- samples seen again any number of times, clean or not: the same events, and the same wires at the end
  pub stretched-events : events_of w (stretched w.last ns ss) ≡ events_of w ss
  stretched-events = (Stretched.stretched-tells ns ss w).events

  pub stretched-after : after_all w (stretched w.last ns ss) ≡ after_all w ss
  stretched-after = (Stretched.stretched-tells ns ss w).after

-- ---- what is carried is told

module _ (u : ℕ) (st : Stage) (l : Lines) (cs : List Carried) (bytes : are_bytes cs ≡ true) where
  -- at every stage, from all lines and after any number of unclear samples: its events, no more and no fewer
  pub carried-told : events_of (wires u (level_of l) st 0 0) (samples_of l cs) ≡ events_by st cs
  carried-told = (Carries.all-carried u st l cs bytes).events

  -- and at the end no bit is taken, and no unclear sample was counted
  pub carried-after : after_all (wires u (level_of l) st 0 0) (samples_of l cs) ≡ wires u (level_of (lines_after_all l cs)) (stage_by st cs) 0 0
  carried-after = (Carries.all-carried u st l cs bytes).after

  -- START or STOP within a byte of which at most seven bits are taken: these are dropped, and all goes on as if they had not come
  pub bits-dropped :
      (k v : ℕ) → k < 8 → (c : Carried) → (c ≡ start) ⊎ (c ≡ stop)
      → (events_of (wires u (level_of l) st k v) (samples_of l (c ∷ cs)) ≡ events_by st (c ∷ cs))
      × (after_all (wires u (level_of l) st k v) (samples_of l (c ∷ cs)) ≡ wires u (level_of (lines_after_all l (c ∷ cs))) (stage_by st (c ∷ cs)) 0 0)
  bits-dropped k v h c which = let told = Carries.bits-dropped u k v h st l c which cs bytes in (told.events, told.after)

-- ---- the round trip

-- whatever the samples, clean or not: what they tell can be told, so that what follows leaves no events out
pub told-can : (w : Wires) → w.value ≤ 255 → (ss : List ℕ) → can_be_told w.stage (events_of w ss) ≡ true
told-can = Told.told-can

-- such events are carried, and what carries them has a byte's value in every byte
pub carried-bytes : (st : Stage) (es : List ℕ) → can_be_told st es ≡ true → are_bytes (carried_by es) ≡ true
carried-bytes = Events.carried-bytes

pub carried-events : (st : Stage) (es : List ℕ) → can_be_told st es ≡ true → events_by st (carried_by es) ≡ es
carried-events = Events.carried-events

consumed :
    (room : ℕ) (w w' : Wires) (ss es : List ℕ) → Tell w ss es w' → Allowed w → are_samples ss ≡ true → length es ≤ room
    → feed_of room w ss ≡ all_consumed w' ss es
consumed room w w' ss es told a samples h =
    Rooms.with-room room w ss a (Rooms.samples ss samples) (rw told.events h)
    ∙ rw (take-length ss, told.events, told.after, eq-eqb (length ss) (length ss) refl) refl

level-bound : (l : Lines) → level_of l ≤ 3
level-bound idle = omega arith
level-bound (held true) = omega arith
level-bound (held false) = omega arith

-- a call with room, at any rate of sampling: every sample is consumed, and the events are those that are carried
pub carried-fed :
    (u : ℕ) (st : Stage) (l : Lines) (cs : List Carried) → are_bytes cs ≡ true → (room : ℕ) → length (events_by st cs) ≤ room → (ns : List ℕ)
    → feed_of room (wires u (level_of l) st 0 0) (stretched (level_of l) ns (samples_of l cs))
    ≡ all_consumed (wires u (level_of (lines_after_all l cs)) (stage_by st cs) 0 0) (stretched (level_of l) ns (samples_of l cs)) (events_by st cs)
carried-fed u st l cs bytes room h ns =
    let w : Wires = wires u (level_of l) st 0 0 in
    let clean = Stretched.stretched-clean ns (samples_of l cs) (level_of l) (le-leb (level_of l) 3 (level-bound l)) (traffic-clean l cs) in
    consumed room w _ _ _
    (record {
      events = stretched-events w ns (samples_of l cs) ∙ carried-told u st l cs bytes;
      after = stretched-after w ns (samples_of l cs) ∙ carried-after u st l cs bytes;
    })
    (record { last = level-bound l; bits = omega arith })
    (Clean.clean-samples (level_of l) _ clean) h

-- all events that can be told, from the start: put on clean wires and sampled at any rate they are given back, those and no others
pub round_trip :
    (es : List ℕ) → can_be_told Outside es ≡ true → (room : ℕ) → length es ≤ room → (ns : List ℕ)
    → feed_of room at_start (clean_samples es ns) ≡ all_consumed (clean_end es) (clean_samples es ns) es
round_trip es can room h ns =
    let same = carried-events Outside es can in
    carried-fed 0 Outside idle (carried_by es) (carried-bytes Outside es can) room (rw same h) ns
    ∙ ap (all_consumed (clean_end es) (clean_samples es ns)) same

-- the same in any calls, of any size and with buffers of any length, once no sample is left
pub round-trip-in-calls :
    (es : List ℕ) → can_be_told Outside es ≡ true → (ns : List ℕ) (calls : List Call)
    → (after_calls calls (course at_start (clean_samples es ns) [])).left ≡ [] → (after_calls calls (course at_start (clean_samples es ns) [])).events ≡ es
round-trip-in-calls es can ns calls none =
    ap (λ (k : Course). k.events) (Cuts.all_told calls at_start (clean_samples es ns) none)
    ∙ stretched-events at_start ns (samples_of idle (carried_by es))
    ∙ carried-told 0 Outside idle (carried_by es) (carried-bytes Outside es can)
    ∙ carried-events Outside es can

-- and what any samples tell, clean wires tell too
pub clean-tell-the-same : (ss : List ℕ) → events_of at_start (clean_samples (events_of at_start ss) []) ≡ events_of at_start ss
unfolding stretched
clean-tell-the-same ss =
    let es : List ℕ = events_of at_start ss in
    let can = told-can at_start (omega arith) ss in
    carried-told 0 Outside idle (carried_by es) (carried-bytes Outside es can) ∙ carried-events Outside es can
