-- Captures of chosen samples, computed from the definition.
use mathlib.Core.List.{[], ◌∷◌}
use mathlib.Core.Path.{◌≡◌, refl}
use Rattle.text.specs.Text.{bytes}
use Rattle.print.specs.Chosen.{line, lines_of}
use Rattle.print.specs.Printed.{decimal_of}
use Rattle.wire_samples.specs.Feed.{events_of, are_samples}
use Rattle.wire_samples.specs.Sample.{sample_of, on_signal, on_stop, on_bit}
use Rattle.wire_samples.specs.Signal.{signal_of}
use Rattle.wire_text.specs.Capture.{samples_in, capture_of}

-- START, a bit, and STOP, which drops it; then a byte at place 5 that is no sample, and what follows it is not told
pub bad-byte :
    capture_of 2 (3 ∷ 2 ∷ 0 ∷ 2 ∷ 3 ∷ 4 ∷ 3 ∷ 2 ∷ [])
    ≡ lines_of line ((bytes "pins" ∷ bytes "2" ∷ []) ∷ (bytes "256" ∷ []) ∷ (bytes "257" ∷ []) ∷ (bytes "refused" ∷ bytes "14" ∷ bytes "5" ∷ []) ∷ [])
unfolding capture_of samples_in are_samples events_of sample_of signal_of on_signal on_stop on_bit decimal_of
bad-byte = refl

-- no samples
pub no-samples : capture_of 0 [] ≡ line (bytes "pins" ∷ bytes "0" ∷ [])
unfolding capture_of samples_in are_samples events_of decimal_of
no-samples = refl
