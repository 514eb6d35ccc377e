-- What a reader of wires does not do: wrong rules, and what is right where they would give something else. All are computed: a definition that
-- followed such a rule would not have passed here.
use mathlib.Core.List.{List, [], ◌∷◌, ◌++◌}
use mathlib.Core.Path.{◌≡◌, refl}
use Prim.Native.Nat.{ℕ, ◌+◌}
use Rattle.wire_samples.specs.declared.Stage.TheVariants.{Outside}
use Rattle.wire_samples.specs.Signal.{signal_of}
use Rattle.wire_samples.specs.Sample.{wires, at_start, on_stop, on_bit, on_signal, sample_of}
use Rattle.wire_samples.specs.Feed.{after_all, events_of, fitting, is_allowed, are_samples, refusal_of, feed_of}

-- the lines while bits go over them: the data line is set while the clock is low, then the clock rises and falls
abbrev bits : List ℕ → List ℕ
bits [] = []
bits (b ∷ bs) = b ∷ (2 + b) ∷ b ∷ bits bs

-- from both lines high: the data line falls, then the clock
abbrev start : List ℕ
start = 2 ∷ 0 ∷ []

-- from the clock low: the data line rises, the clock rises, the data line falls, the clock falls
abbrev again : List ℕ
again = 1 ∷ 3 ∷ 2 ∷ 0 ∷ []

-- 120, and the acknowledge bit
abbrev address : List ℕ
address = 0 ∷ 1 ∷ 1 ∷ 1 ∷ 1 ∷ 0 ∷ 0 ∷ 0 ∷ 0 ∷ []

-- ---- bits and bytes

-- 30 with the low bit first
pub low-bit-is-not-first : events_of at_start (start ++ bits address) ≡ 256 ∷ 120 ∷ []
unfolding events_of sample_of on_signal on_bit on_stop signal_of
low-bit-is-not-first = refl

-- eight rises
pub byte-is-not-told-at-its-eighth-bit : events_of at_start (start ++ bits (0 ∷ 1 ∷ 1 ∷ 1 ∷ 1 ∷ 0 ∷ 0 ∷ 0 ∷ [])) ≡ 256 ∷ []
unfolding events_of sample_of on_signal on_bit on_stop signal_of
byte-is-not-told-at-its-eighth-bit = refl

-- at the ninth rise; a reader that takes its bits where the clock falls would have the one of START and eight more, and tell 60
pub bit-is-not-taken-at-the-fall : events_of at_start (start ++ bits (0 ∷ 1 ∷ 1 ∷ 1 ∷ 1 ∷ 0 ∷ 0 ∷ 0 ∷ []) ++ (0 ∷ 2 ∷ [])) ≡ 256 ∷ 120 ∷ []
unfolding events_of sample_of on_signal on_bit on_stop signal_of
bit-is-not-taken-at-the-fall = refl

-- the low bit of a byte written, 121, says nothing: the next one is written too
pub direction-is-not-of-the-last-byte : events_of at_start (start ++ bits address ++ bits (0 ∷ 1 ∷ 1 ∷ 1 ∷ 1 ∷ 0 ∷ 0 ∷ 1 ∷ 0 ∷ []) ++ bits address) ≡ 256 ∷ 120 ∷ 121 ∷ 120 ∷ []
unfolding events_of sample_of on_signal on_bit on_stop signal_of
direction-is-not-of-the-last-byte = refl

-- an address that no chip acknowledges, with the low bit 0: what follows is written
pub direction-is-not-the-ninth-bit : events_of at_start (start ++ bits (0 ∷ 1 ∷ 1 ∷ 1 ∷ 1 ∷ 0 ∷ 0 ∷ 0 ∷ 1 ∷ []) ++ bits address) ≡ 256 ∷ 120 ∷ 120 ∷ []
unfolding events_of sample_of on_signal on_bit on_stop signal_of
direction-is-not-the-ninth-bit = refl

-- 120 is read twice; the value is the chip's, and no event has it
pub reads-go-by-their-ninth-bit : events_of at_start (start ++ bits (0 ∷ 1 ∷ 1 ∷ 1 ∷ 1 ∷ 0 ∷ 0 ∷ 1 ∷ 0 ∷ []) ++ bits address ++ bits (0 ∷ 1 ∷ 1 ∷ 1 ∷ 1 ∷ 0 ∷ 0 ∷ 0 ∷ 1 ∷ [])) ≡ 256 ∷ 121 ∷ 258 ∷ 259 ∷ []
unfolding events_of sample_of on_signal on_bit on_stop signal_of
reads-go-by-their-ninth-bit = refl

-- bytes after one that was not acknowledged are read still
pub read-does-not-end-at-259 : events_of at_start (start ++ bits (0 ∷ 1 ∷ 1 ∷ 1 ∷ 1 ∷ 0 ∷ 0 ∷ 1 ∷ 0 ∷ []) ++ bits (1 ∷ 1 ∷ 1 ∷ 1 ∷ 1 ∷ 1 ∷ 1 ∷ 1 ∷ 1 ∷ []) ++ bits address) ≡ 256 ∷ 121 ∷ 259 ∷ 258 ∷ []
unfolding events_of sample_of on_signal on_bit on_stop signal_of
read-does-not-end-at-259 = refl

-- ---- START and STOP

-- a data line that is low from the first is a START
pub first-sample-is-held-against-high-lines : events_of at_start (2 ∷ []) ≡ 256 ∷ []
unfolding events_of sample_of on_signal on_bit on_stop signal_of
first-sample-is-held-against-high-lines = refl

-- the clock falls, the data line falls, the clock rises, the data line rises
pub stop-without-start-is-told : events_of at_start (1 ∷ 0 ∷ 2 ∷ 3 ∷ []) ≡ 257 ∷ []
unfolding events_of sample_of on_signal on_bit on_stop signal_of
stop-without-start-is-told = refl

-- three bits, and the one that is taken where the clock rises for START
pub bits-are-not-kept-over-a-start : events_of at_start (start ++ bits (1 ∷ 1 ∷ 1 ∷ []) ++ again ++ bits address) ≡ 256 ∷ 256 ∷ 120 ∷ []
unfolding events_of sample_of on_signal on_bit on_stop signal_of
bits-are-not-kept-over-a-start = refl

-- eight bits, the last of them where the clock rises for START
pub eight-bits-are-not-kept-over-a-start :
    events_of at_start (start ++ bits (1 ∷ 0 ∷ 1 ∷ 0 ∷ 1 ∷ 0 ∷ 1 ∷ []) ++ again ++ bits address) ≡ 256 ∷ 256 ∷ 120 ∷ []
unfolding events_of sample_of on_signal on_bit on_stop signal_of
eight-bits-are-not-kept-over-a-start = refl

-- nor over a STOP under the clock of a bit, and a START behind it
pub bits-are-not-kept-over-a-stop :
    events_of at_start (start ++ bits (1 ∷ 1 ∷ 1 ∷ []) ++ (0 ∷ 2 ∷ 3 ∷ []) ++ start ++ bits address) ≡ 256 ∷ 257 ∷ 256 ∷ 120 ∷ []
unfolding events_of sample_of on_signal on_bit on_stop signal_of
bits-are-not-kept-over-a-stop = refl

-- of a read, where the next message writes
pub direction-is-not-kept-over-a-start : events_of at_start (start ++ bits (0 ∷ 1 ∷ 1 ∷ 1 ∷ 1 ∷ 0 ∷ 0 ∷ 1 ∷ 0 ∷ []) ++ again ++ bits address ++ bits address) ≡ 256 ∷ 121 ∷ 256 ∷ 120 ∷ 120 ∷ []
unfolding events_of sample_of on_signal on_bit on_stop signal_of
direction-is-not-kept-over-a-start = refl

-- nine of them, before any START
pub clocks-outside-are-not-read : events_of at_start (1 ∷ bits (1 ∷ 1 ∷ 1 ∷ 1 ∷ 0 ∷ 0 ∷ 0 ∷ 1 ∷ 1 ∷ [])) ≡ []
unfolding events_of sample_of on_signal on_bit on_stop signal_of
clocks-outside-are-not-read = refl

-- ---- unclear samples

-- both lines fall at once; then the clock rises, and the data line under it
pub stop-after-unclear-is-not-told : events_of at_start (0 ∷ 2 ∷ 3 ∷ []) ≡ []
unfolding events_of sample_of on_signal on_bit on_stop signal_of
stop-after-unclear-is-not-told = refl

-- a STOP does not end the waiting
pub second-stop-after-unclear-is-not-told : events_of at_start (0 ∷ 2 ∷ 3 ∷ 1 ∷ 0 ∷ 2 ∷ 3 ∷ []) ≡ []
unfolding events_of sample_of on_signal on_bit on_stop signal_of
second-stop-after-unclear-is-not-told = refl

-- a byte whose last clock is lost with a sample, and the bytes behind it
pub message-is-not-gone-on-with : events_of at_start (start ++ bits address ++ (3 ∷ 1 ∷ []) ++ bits address) ≡ 256 ∷ 120 ∷ []
unfolding events_of sample_of on_signal on_bit on_stop signal_of
message-is-not-gone-on-with = refl

-- and the byte behind it is told
pub start-ends-the-waiting : events_of at_start (0 ∷ again ++ bits address) ≡ 256 ∷ 120 ∷ []
unfolding events_of sample_of on_signal on_bit on_stop signal_of
start-ends-the-waiting = refl

-- three of them on end
pub each-unclear-sample-counts : (after_all at_start (0 ∷ 3 ∷ 0 ∷ [])).unclear ≡ 3
unfolding after_all sample_of on_signal on_bit on_stop signal_of
each-unclear-sample-counts = refl

-- 2^64 - 1 stays
pub unclear-count-does-not-wrap : (after_all (wires 18446744073709551615 3 Outside 0 0) (0 ∷ [])).unclear ≡ 18446744073709551615
unfolding after_all sample_of on_signal on_bit on_stop signal_of
unclear-count-does-not-wrap = refl

-- ---- calls

-- a START, and a 4: there is room, and 14 comes before anything is done
pub samples-before-a-bad-one-are-not-consumed : feed_of 1 at_start (2 ∷ 4 ∷ []) ≡ record { wires = at_start; consumed = 0; events = []; refusal = 14 }
unfolding feed_of refusal_of is_allowed are_samples fitting after_all events_of sample_of on_signal on_bit on_stop signal_of
samples-before-a-bad-one-are-not-consumed = refl

-- one that tells nothing is, and the START behind it is not
pub sample-without-room-is-not-consumed : feed_of 0 at_start (3 ∷ 2 ∷ []) ≡ record { wires = at_start; consumed = 1; events = []; refusal = 15 }
unfolding feed_of refusal_of is_allowed are_samples fitting after_all events_of sample_of on_signal on_bit on_stop signal_of
sample-without-room-is-not-consumed = refl

-- a buffer of no length, and samples that tell nothing
pub no-room-is-not-refused-before-it-is-needed : (feed_of 0 at_start (3 ∷ 1 ∷ [])).refusal ≡ 0
unfolding feed_of refusal_of is_allowed are_samples fitting after_all events_of sample_of on_signal on_bit on_stop signal_of
no-room-is-not-refused-before-it-is-needed = refl

-- a last sample of 4 in the state, and among the samples
pub fourteen-is-not-before-2 : (feed_of 0 (wires 0 4 Outside 0 0) (4 ∷ [])).refusal ≡ 2
unfolding feed_of refusal_of is_allowed are_samples fitting after_all events_of sample_of on_signal on_bit on_stop signal_of
fourteen-is-not-before-2 = refl

-- a START without room, and a bad sample behind it
pub fifteen-is-not-before-14 : (feed_of 0 at_start (2 ∷ 4 ∷ [])).refusal ≡ 14
unfolding feed_of refusal_of is_allowed are_samples fitting after_all events_of sample_of on_signal on_bit on_stop signal_of
fifteen-is-not-before-14 = refl

-- before the ninth is taken; nine are not
pub eight-bits-are-allowed : (feed_of 0 (wires 0 3 Outside 8 255) []).refusal ≡ 0
unfolding feed_of refusal_of is_allowed are_samples fitting after_all events_of sample_of on_signal on_bit on_stop signal_of
eight-bits-are-allowed = refl

-- even with no sample to read
pub nine-bits-are-not-allowed : (feed_of 0 (wires 0 3 Outside 9 255) []).refusal ≡ 2
unfolding feed_of refusal_of is_allowed are_samples fitting after_all events_of sample_of on_signal on_bit on_stop signal_of
nine-bits-are-not-allowed = refl
