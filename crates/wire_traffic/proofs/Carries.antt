-- The samples that carry something tell its events, at every stage and from all lines.
use mathlib.Core.Bool.{Bool, true, false, cond}
use mathlib.Core.List.{List, [], ◌∷◌}
use mathlib.Core.Logic.{◌⊎◌, inl, inr}
use mathlib.Core.Path.{◌≡◌, refl, ◌∙◌}
use Prim.Native.Nat.{ℕ, ◌+◌, ◌/◌, ◌%◌, ◌≤◌, ◌<◌}
use native.Mathlib.Omega.{arith}
use borrow.Author.Tests.{lt-ltb, eqb-true, eqb-false, eq-eqb, ltb-true}
use lib.ListN.{length}
use Rattle.text.proofs.Numbers.{and_both}
use Rattle.wire_samples.specs.declared.Stage.{Stage}
use Rattle.wire_samples.specs.declared.Stage.TheVariants.{Outside, Waiting, First, Writing, Reading}
use Rattle.wire_samples.specs.declared.Wires.{Wires}
use Rattle.wire_samples.specs.Signal.{signal_of}
use Rattle.wire_samples.specs.Sample.{wires, in_message, with_bit, direction_of, stage_after, event_of, on_stop, on_bit, on_signal, sample_of}
use Rattle.wire_samples.specs.Feed.{after_all, events_of}
use Rattle.wire_traffic.specs.Traffic.{Carried, start, stop, byte, is_byte, are_bytes, Lines, idle, held, low, high, level_of}
use Rattle.wire_traffic.specs.Traffic.{bit_samples, bits_samples, is_odd, bits_of, byte_samples, samples_for, lines_after, samples_of, lines_after_all}
use Rattle.wire_traffic.specs.Traffic.{events_for, stage_on_byte, stage_for, events_by, stage_by}
use Rattle.wire_traffic.proofs.Runs.{Tell, tell-on}

-- ---- one sample

module _ (u : ℕ) (st : Stage) (k v : ℕ) where
  -- the data line moves while the clock is low
  moves : (d b : Bool) → Tell (wires u (low d) st k v) (low b ∷ []) [] (wires u (low b) st k v)
  unfolding after_all events_of sample_of on_signal signal_of
  moves true true = record { events = refl; after = refl }
  moves true false = record { events = refl; after = refl }
  moves false true = record { events = refl; after = refl }
  moves false false = record { events = refl; after = refl }

  clock-falls : (b : Bool) → Tell (wires u (high b) st k v) (low b ∷ []) [] (wires u (low b) st k v)
  unfolding after_all events_of sample_of on_signal signal_of
  clock-falls true = record { events = refl; after = refl }
  clock-falls false = record { events = refl; after = refl }

  outside-rises : in_message st ≡ false → (b : Bool) → Tell (wires u (low b) st k v) (high b ∷ []) [] (wires u (high b) st k v)
  unfolding after_all events_of sample_of on_signal on_bit signal_of
  outside-rises m true = record { events = rw m; after = rw m }
  outside-rises m false = record { events = rw m; after = rw m }

  clock-rises :
      in_message st ≡ true → k < 8 → (b : Bool) → Tell (wires u (low b) st k v) (high b ∷ []) [] (wires u (high b) st (k + 1) (with_bit v b))
  unfolding after_all events_of sample_of on_signal on_bit signal_of
  clock-rises m h true = record { events = rw (m, lt-ltb k 8 h); after = rw (m, lt-ltb k 8 h) }
  clock-rises m h false = record { events = rw (m, lt-ltb k 8 h); after = rw (m, lt-ltb k 8 h) }

ninth-rises :
    (u : ℕ) (st : Stage) (v : ℕ) → in_message st ≡ true → (b : Bool)
    → Tell (wires u (low b) st 8 v) (high b ∷ []) (event_of st v b ∷ []) (wires u (high b) (stage_after st v) 0 0)
unfolding after_all events_of sample_of on_signal on_bit signal_of
ninth-rises u st v m true = record { events = rw m; after = rw m }
ninth-rises u st v m false = record { events = rw m; after = rw m }

-- ---- the stage after a byte

direction : (v : ℕ) → direction_of v ≡ cond (is_odd v) Reading Writing
direction v = go (is_odd v) refl
  where
    go : (t : Bool) → is_odd v ≡ t → direction_of v ≡ cond t Reading Writing
    go true q = rw (eqb-true (v % 2) 1 q)
    go false q = let even : v % 2 ≡ 1 → ⊥ = eqb-false (v % 2) 1 q in rw (eq-eqb (v % 2) 0 (omega arith))

pub stage-after : (st : Stage) (v : ℕ) → stage_after st v ≡ stage_on_byte st v
stage-after Outside v = refl
stage-after Waiting v = refl
stage-after First v = direction v
stage-after Writing v = refl
stage-after Reading v = refl

-- ---- bits

-- what some bits come to: how many are taken, their value, and the data line after them
abbrev taken : ℕ → List Bool → ℕ
taken k [] = k
taken k (b ∷ bs) = taken (k + 1) bs

abbrev with_bits : ℕ → List Bool → ℕ
with_bits v [] = v
with_bits v (b ∷ bs) = with_bits (with_bit v b) bs

abbrev last_of : Bool → List Bool → Bool
last_of d [] = d
last_of d (b ∷ bs) = last_of b bs

module _ (u : ℕ) (st : Stage) (m : in_message st ≡ true) where
  one_bit : (k v : ℕ) → k < 8 → (d b : Bool) → Tell (wires u (low d) st k v) (bit_samples b) [] (wires u (low b) st (k + 1) (with_bit v b))
  one_bit k v h d b = tell-on (moves u st k v d b) (tell-on (clock-rises u st k v m h b) (clock-falls u st (k + 1) (with_bit v b) b))

  -- no more than eight
  some_bits :
      (bs : List Bool) (k v : ℕ) (d : Bool) → length bs + k ≤ 8
      → Tell (wires u (low d) st k v) (bits_samples bs) [] (wires u (low (last_of d bs)) st (taken k bs) (with_bits v bs))
  unfolding after_all events_of bits_samples
  some_bits [] k v d h = record { events = refl; after = refl }
  some_bits (b ∷ bs) k v d h = tell-on (one_bit k v (omega arith) d b) (some_bits bs (k + 1) (with_bit v b) b (omega arith))

  ninth-bit : (v : ℕ) (d b : Bool) → Tell (wires u (low d) st 8 v) (bit_samples b) (event_of st v b ∷ []) (wires u (low b) (stage_after st v) 0 0)
  ninth-bit v d b = tell-on (moves u st 8 v d b) (tell-on (ninth-rises u st v m b) (clock-falls u (stage_after st v) 0 0 b))

module _ (u : ℕ) (st : Stage) (m : in_message st ≡ false) where
  outside-bit : (k v : ℕ) (d b : Bool) → Tell (wires u (low d) st k v) (bit_samples b) [] (wires u (low b) st k v)
  outside-bit k v d b = tell-on (moves u st k v d b) (tell-on (outside-rises u st k v m b) (clock-falls u st k v b))

  outside-bits : (bs : List Bool) (k v : ℕ) (d : Bool) → Tell (wires u (low d) st k v) (bits_samples bs) [] (wires u (low (last_of d bs)) st k v)
  unfolding after_all events_of bits_samples
  outside-bits [] k v d = record { events = refl; after = refl }
  outside-bits (b ∷ bs) k v d = tell-on (outside-bit k v d b) (outside-bits bs k v b)

half-and-bit : {a : ℕ} (v : ℕ) → v < 256 → a ≡ v / 2 → with_bit a (is_odd v) ≡ v
half-and-bit {a} v h e = go (is_odd v) refl
  where
    go : (t : Bool) → is_odd v ≡ t → with_bit a t ≡ v
    go true q = omega (arith, eqb-true (v % 2) 1 q)
    go false q = let even : v % 2 ≡ 1 → ⊥ = eqb-false (v % 2) 1 q in omega arith

-- the bits of a byte give it back
value-back : (v : ℕ) → v < 256 → with_bits 0 (bits_of v) ≡ v
value-back v h =
    let bit₇ = half-and-bit {a = 0} (v / 128) (omega arith) (omega arith) in
    let bit₆ = half-and-bit (v / 64) (omega arith) (bit₇ ∙ omega arith) in
    let bit₅ = half-and-bit (v / 32) (omega arith) (bit₆ ∙ omega arith) in
    let bit₄ = half-and-bit (v / 16) (omega arith) (bit₅ ∙ omega arith) in
    let bit₃ = half-and-bit (v / 8) (omega arith) (bit₄ ∙ omega arith) in
    let bit₂ = half-and-bit (v / 4) (omega arith) (bit₃ ∙ omega arith) in
    half-and-bit v h (half-and-bit (v / 2) (omega arith) (bit₂ ∙ omega arith))

-- ---- START, STOP and a byte

-- from wires where k bits are taken: the samples tell its events, and after them the lines and the stage are those after it
abbrev TellsOne : ℕ → Stage → Lines → ℕ → ℕ → Carried → Type 0
TellsOne u st l k v c =
    Tell (wires u (level_of l) st k v) (samples_for l c) (events_for st c) (wires u (level_of (lines_after c)) (stage_for st c) 0 0)

abbrev pub TellsAll : ℕ → Stage → Lines → ℕ → ℕ → List Carried → Type 0
TellsAll u st l k v cs =
    Tell (wires u (level_of l) st k v) (samples_of l cs) (events_by st cs) (wires u (level_of (lines_after_all l cs)) (stage_by st cs) 0 0)

module _ (u : ℕ) where
  start_falls : (st : Stage) (k v : ℕ) → Tell (wires u 3 st k v) (2 ∷ 0 ∷ []) (256 ∷ []) (wires u 0 First 0 0)
  unfolding after_all events_of sample_of on_signal signal_of
  start_falls st k v = record { events = refl; after = refl }

  stop-rises : (st : Stage) (k v : ℕ) → Tell (wires u 2 st k v) (3 ∷ []) (events_for st stop) (wires u 3 (stage_for st stop) 0 0)
  unfolding after_all events_of sample_of on_signal on_stop signal_of events_for stage_for
  stop-rises Outside k v = record { events = refl; after = refl }
  stop-rises Waiting k v = record { events = refl; after = refl }
  stop-rises First k v = record { events = refl; after = refl }
  stop-rises Writing k v = record { events = refl; after = refl }
  stop-rises Reading k v = record { events = refl; after = refl }

  module _ (st : Stage) (k v : ℕ) (h : k < 8) where
    -- a clock rise first, whose bit, if it is one, is dropped by what follows
    after-rise :
        (b : Bool) {ss es : List ℕ} {w' : Wires} → ((k v : ℕ) → Tell (wires u (high b) st k v) ss es w')
        → Tell (wires u (low b) st k v) (high b ∷ ss) es w'
    after-rise b {ss} {es} {w'} next = go (in_message st) refl
      where
        go : (t : Bool) → in_message st ≡ t → Tell (wires u (low b) st k v) (high b ∷ ss) es w'
        go true m = tell-on (clock-rises u st k v m h b) (next (k + 1) (with_bit v b))
        go false m = tell-on (outside-rises u st k v m b) (next k v)

    start-told : (l : Lines) → TellsOne u st l k v start
    unfolding samples_for events_for stage_for
    start-told idle = start_falls st k v
    start-told (held d) = tell-on (moves u st k v d true) (after-rise true (start_falls st))

    stop-told : (l : Lines) → TellsOne u st l k v stop
    unfolding samples_for
    stop-told idle = tell-on (clock-falls u st k v true) (tell-on (moves u st k v true false) (after-rise false (stop-rises st)))
    stop-told (held d) = tell-on (moves u st k v d false) (after-rise false (stop-rises st))

  module _ (n : ℕ) (b : Bool) (h : n < 256) where
    inside-byte :
        (st : Stage) → in_message st ≡ true → (d : Bool)
        → Tell (wires u (low d) st 0 0) (byte_samples n b) (event_of st n b ∷ []) (wires u (low b) (stage_on_byte st n) 0 0)
    inside-byte st m d =
        let eight = some_bits u st m (bits_of n) 0 0 d (omega arith) in
        let ninth = rw (stage-after st n) at (ninth-bit u st m n (is_odd n) b) in
        tell-on (rw (value-back n h) at eight) ninth

    outside-byte : (st : Stage) → in_message st ≡ false → (d : Bool) → Tell (wires u (low d) st 0 0) (byte_samples n b) [] (wires u (low b) st 0 0)
    outside-byte st m d = tell-on (outside-bits u st m (bits_of n) 0 0 d) (outside-bit u st m 0 0 (is_odd n) b)

    held-told : (st : Stage) (d : Bool) → TellsOne u st (held d) 0 0 (byte n b)
    unfolding samples_for events_for stage_for
    held-told Outside d = outside-byte Outside refl d
    held-told Waiting d = outside-byte Waiting refl d
    held-told First d = inside-byte First refl d
    held-told Writing d = inside-byte Writing refl d
    held-told Reading d = inside-byte Reading refl d

    byte-told : (st : Stage) (l : Lines) → TellsOne u st l 0 0 (byte n b)
    unfolding samples_for
    byte-told st idle = tell-on (clock-falls u st 0 0 true) (held-told st true)
    byte-told st (held d) = held-told st d

-- ---- one after the other

module _ (u : ℕ) where
  one-carried : (st : Stage) (l : Lines) (c : Carried) → is_byte c ≡ true → TellsOne u st l 0 0 c
  one-carried st l start t = start-told u st 0 0 (omega arith) l
  one-carried st l stop t = stop-told u st 0 0 (omega arith) l
  one-carried st l (byte v b) t = byte-told u v b (ltb-true v 256 t) st l

  pub all-carried : (st : Stage) (l : Lines) (cs : List Carried) → are_bytes cs ≡ true → TellsAll u st l 0 0 cs
  unfolding after_all events_of are_bytes samples_of lines_after_all events_by stage_by
  all-carried st l [] t = record { events = refl; after = refl }
  all-carried st l (c ∷ cs) t =
      let both = and_both (is_byte c) (are_bytes cs) t in
      tell-on (one-carried st l c both.0) (all-carried (stage_for st c) (lines_after c) cs both.1)

  -- START or STOP where fewer than eight bits of a byte are taken: these are dropped
  module _ (k v : ℕ) (h : k < 8) (st : Stage) (l : Lines) where
    signal-carried : (c : Carried) → (c ≡ start) ⊎ (c ≡ stop) → TellsOne u st l k v c
    signal-carried c (inl q) = rw q (start-told u st k v h l)
    signal-carried c (inr q) = rw q (stop-told u st k v h l)

    pub bits-dropped : (c : Carried) → (c ≡ start) ⊎ (c ≡ stop) → (cs : List Carried) → are_bytes cs ≡ true → TellsAll u st l k v (c ∷ cs)
    unfolding samples_of lines_after_all events_by stage_by
    bits-dropped c which cs t = tell-on (signal-carried c which) (all-carried (stage_for st c) (lines_after c) cs t)
