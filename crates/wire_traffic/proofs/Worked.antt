-- Traffic at chosen places, written out: antt computes each.
use mathlib.Core.Bool.{true, false}
use mathlib.Core.List.{List, [], ◌∷◌}
use mathlib.Core.Path.{◌≡◌, refl}
use Prim.Native.Nat.{ℕ}
use Rattle.wire_samples.specs.declared.Stage.TheVariants.{Outside}
use Rattle.wire_samples.specs.Signal.{signal_of}
use Rattle.wire_samples.specs.Sample.{at_start, on_stop, on_bit, on_signal, sample_of}
use Rattle.wire_samples.specs.Feed.{events_of}
use Rattle.wire_traffic.specs.Traffic.{start, stop, byte, bits_samples, idle, samples_for, samples_of, events_for, stage_for, events_by}
use Rattle.wire_traffic.specs.Traffic.{can_be_told, stretched, clean_samples}

-- START, the byte 120 acknowledged, STOP; three samples a bit
abbrev sent : List ℕ
sent =
    2 ∷ 0
    ∷ 0 ∷ 2 ∷ 0
    ∷ 1 ∷ 3 ∷ 1
    ∷ 1 ∷ 3 ∷ 1
    ∷ 1 ∷ 3 ∷ 1
    ∷ 1 ∷ 3 ∷ 1
    ∷ 0 ∷ 2 ∷ 0
    ∷ 0 ∷ 2 ∷ 0
    ∷ 0 ∷ 2 ∷ 0
    ∷ 0 ∷ 2 ∷ 0
    ∷ 0 ∷ 2 ∷ 3
    ∷ []

pub sent-samples : samples_of idle (start ∷ byte 120 false ∷ stop ∷ []) ≡ sent
unfolding samples_of samples_for bits_samples
sent-samples = refl

pub sent-told : events_of at_start sent ≡ 256 ∷ 120 ∷ 257 ∷ []
unfolding events_of sample_of on_signal on_stop on_bit signal_of
sent-told = refl

-- two bytes written, two read after a repeated START, STOP and at once START, a bare STOP
abbrev talk : List ℕ
talk = 256 ∷ 120 ∷ 192 ∷ 255 ∷ 256 ∷ 121 ∷ 258 ∷ 259 ∷ 257 ∷ 256 ∷ 257 ∷ 257 ∷ []

pub talk-told : events_of at_start (clean_samples talk []) ≡ talk
unfolding stretched samples_of samples_for bits_samples events_of sample_of on_signal on_stop on_bit signal_of
talk-told = refl

-- the value of a byte read and the ninth bit of a byte written do not tell; a byte outside a message tells nothing
pub free-parts :
    events_by Outside (byte 7 true ∷ start ∷ byte 121 true ∷ byte 200 false ∷ byte 3 true ∷ start ∷ byte 120 true ∷ byte 3 true ∷ [])
    ≡ 256 ∷ 121 ∷ 258 ∷ 259 ∷ 256 ∷ 120 ∷ 3 ∷ []
unfolding events_by events_for stage_for
free-parts = refl

-- ---- events that no wires tell

-- a byte before any START
pub no-byte-first : can_be_told Outside (120 ∷ []) ≡ false
unfolding can_be_told
no-byte-first = refl

-- a read after a write address, a written byte after a read address
pub no-read-in-write : can_be_told Outside (256 ∷ 120 ∷ 258 ∷ []) ≡ false
unfolding can_be_told
no-read-in-write = refl

pub no-write-in-read : can_be_told Outside (256 ∷ 121 ∷ 0 ∷ []) ≡ false
unfolding can_be_told
no-write-in-read = refl

-- a reset pulse
pub no-reset : can_be_told Outside (260 ∷ []) ≡ false
unfolding can_be_told
no-reset = refl
