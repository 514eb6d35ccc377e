-- Demand 2 on a bus: what holds of a chip alone over the events that it hears.
use mathlib.Core.Bool.{Bool, true, false, cond}
use mathlib.Core.List.{List, [], ◌∷◌, map}
use mathlib.Core.Logic.{inl, inr}
use mathlib.Core.Path.{◌≡◌, refl, sym, ap, ◌∙◌, subst}
use Prim.Native.Nat.{ℕ, zero, suc, ◌+◌, ◌<◌, suc-le-suc}
use native.Mathlib.Decide.{dec_lt}
use native.Mathlib.Nat.{le_of_suc-le-suc, not-suc-le-zero}
use native.Mathlib.Omega.{arith}
use lib.ListN.{get_or, length, length-map}
use Rattle.registers.specs.State.{State}
use Rattle.engine.specs.Run.{run_of}
use Rattle.engine.specs.Step.{refusal_of, step_of}
use Rattle.chip.specs.LastWriter.{before, PlaceAfter}
use Rattle.chip.specs.Plays.{played}
use Rattle.chip.proofs.Laws.{run-steps, last-writer}
use Rattle.bus.specs.Bus.{Bus}
use Rattle.bus.specs.LastWriter.{AcceptedAt, PlaceOnBus}
use Rattle.bus.specs.Streams.{Sent, sent, refusal_at, stepped, bus_played, accepted_of, unless_refusal, is_for_others, heard_as, heard_of, device_with, is_on, chip_on}
use Rattle.bus.proofs.Alone.{counts-stepped, refused-stepped, stays_on, picked-step, own-way, own-way-accepted}
use Rattle.bus.proofs.Picks.{OnBus, by_pins, with-pins}

-- ---- a chip alone that refuses nothing

all-before : (es : List ℕ) (s : State) → before es (length es) s ≡ played es s
all-before [] s = refl
all-before (e ∷ es) s = all-before es (step_of e s).state

module _ (es : List ℕ) (s : State) (accepts : (i : ℕ) → i < length es → refusal_of (get_or es i 0) (before es i s) ≡ 0) where
  all_done : (run_of es s).done ≡ length es
  all_done = go (dec_lt (run_of es s).done (length es))
    where
      go : Dec ((run_of es s).done < length es) → (run_of es s).done ≡ length es
      go (yes l) = absurd ((run-steps es s).refused l ((run-steps es s).stopped l ∙ accepts (run_of es s).done l))
      go (no n) = omega (arith, (run-steps es s).no_more)

  all-played : (run_of es s).state ≡ played es s
  all-played = (run-steps es s).ends ∙ ap (λ (i : ℕ). before es i s) all_done ∙ all-before es s

  -- demand 2 over all of the events
  place_after : (k : ℕ) → PlaceAfter es (length es) s (played es s) k
  place_after k =
      subst (λ (t : State). PlaceAfter es (length es) s t k) all-played
      (subst (λ (n : ℕ). PlaceAfter es n s (run_of es s).state k) all_done (last-writer es s k))

-- ---- on the bus

-- a byte is heard as it is sent
byte-as-sent : (p : ℕ) (x : Sent) → heard_as p x < 256 → heard_as p x ≡ x.event
byte-as-sent p x l = go (is_for_others p x) l
  where
    go : (t : Bool) → cond t 258 x.event < 256 → cond t 258 x.event ≡ x.event
    go true l = absurd (omega arith)
    go false l = refl

sent-at : (p : ℕ) (xs : List Sent) (i : ℕ) → get_or (map (heard_as p) xs) i 0 < 256 → get_or (map (heard_as p) xs) i 0 ≡ (get_or xs i (sent 0 0)).event
sent-at p [] i l = refl
sent-at p (x ∷ xs) zero l = byte-as-sent p x l
sent-at p (x ∷ xs) (suc i) l = sent-at p xs i l

-- every accepted event is one of the stream
pub accepted-at : (p : ℕ) (xs : List Sent) (b : Bus) → is_on p b.devices ≡ true → (i : ℕ) → i < length (accepted_of xs b) → AcceptedAt p xs b i
accepted-at p [] b on i l = absurd (not-suc-le-zero l)
accepted-at p (x ∷ xs) b on i l = go (refusal_at x b) refl i l (accepted-at p xs (stepped x b) (stays_on (OnBus p) (device_with p) (by_pins p) x b on))
  where
    rest : List Sent
    rest = accepted_of xs (stepped x b)

    among : (r i : ℕ) → refusal_at x b ≡ r → get_or (unless_refusal r x rest) i (sent 0 0) ≡ get_or (accepted_of (x ∷ xs) b) i (sent 0 0)
    among r i h = ap (λ (n : ℕ). get_or (unless_refusal n x rest) i (sent 0 0)) (sym h)

    -- the chip that hears the accepted events, when the i-th of them comes
    standing : (r i : ℕ) → refusal_at x b ≡ r → before (heard_of p (x ∷ xs) b) i (chip_on p b) ≡ before (map (heard_as p) (unless_refusal r x rest)) i (chip_on p b)
    standing r i h = ap (λ (n : ℕ). before (map (heard_as p) (unless_refusal n x rest)) i (chip_on p b)) h

    later :
        (i j : ℕ) → get_or rest j (sent 0 0) ≡ get_or (accepted_of (x ∷ xs) b) i (sent 0 0) → (stepped x b).count + j ≡ b.count + i
        → before (heard_of p (x ∷ xs) b) i (chip_on p b) ≡ before (map (heard_as p) rest) j (chip_on p (stepped x b))
        → AcceptedAt p xs (stepped x b) j → AcceptedAt p (x ∷ xs) b i
    later i j e c u a =
        record {
          place = suc a.place;
          in_stream = suc-le-suc a.in_stream;
          same_event = a.same_event ∙ e;
          is-accepted = a.is-accepted;
          count = a.count ∙ c;
          upon = u ∙ a.upon;
        }

    go :
        (r : ℕ) → refusal_at x b ≡ r → (i : ℕ) → i < length (unless_refusal r x rest) → ((j : ℕ) → j < length rest → AcceptedAt p xs (stepped x b) j)
        → AcceptedAt p (x ∷ xs) b i
    go zero h zero l at =
        record { place = zero; in_stream = omega arith; same_event = among zero zero h; is-accepted = h; count = omega arith; upon = standing zero zero h }
    go zero h (suc i) l at =
        later (suc i) i (among zero (suc i) h) (omega (arith, counts-stepped x b h))
        (standing zero (suc i) h
        ∙ ap (before (map (heard_as p) rest) i) (picked-step (OnBus p) (device_with p) (by_pins p) x b on h p (with-pins p b.devices on)))
        (at i (le_of_suc-le-suc l))
    go (suc r) h i l at =
        later i i (among (suc r) i h) (ap (λ (a : Bus). a.count + i) (refused-stepped x b r h))
        (standing (suc r) i h ∙ ap (λ (a : Bus). before (map (heard_as p) rest) i (chip_on p a)) (sym (refused-stepped x b r h)))
        (at i l)

-- demand 2 on a bus: after any stream, for pins that a device has and every place
pub last-writer-on-bus : (p : ℕ) (xs : List Sent) (b : Bus) → is_on p b.devices ≡ true → (k : ℕ) → PlaceOnBus p xs b k
last-writer-on-bus p xs b on k =
    go
    (subst (λ (t : State). PlaceAfter es (length (accepted_of xs b)) (chip_on p b) t k) (sym (own-way p xs b on))
    (subst (λ (n : ℕ). PlaceAfter es n (chip_on p b) (played es (chip_on p b)) k) (length-map (accepted_of xs b) (heard_as p))
    (place_after es (chip_on p b) (own-way-accepted p xs b on) k)))
  where
    es : List ℕ
    es = heard_of p xs b

    go : PlaceAfter es (length (accepted_of xs b)) (chip_on p b) (chip_on p (bus_played xs b)) k → PlaceOnBus p xs b k
    go (inl u) = inl u
    go (inr w) =
        inr
        (record {
          written = w;
          as_sent = sent-at p (accepted_of xs b) w.last.event w.last.is_stored.is-byte;
          in_stream = accepted-at p xs b on w.last.event w.last.is_done;
        })
