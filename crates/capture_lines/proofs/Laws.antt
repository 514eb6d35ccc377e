-- What is promised of a line read byte by byte, in one place: it comes to what the whole line says.
use mathlib.Core.List.{List, [], ◌∷◌, ◌++◌, append-nil}
use mathlib.Core.Path.{◌≡◌, ◌∙◌}
use Prim.Native.Nat.{ℕ}
use lib.Seq.{append_snoc}
use Rattle.capture_lines.specs.declared.LineSoFar.TheVariants.{First, Empty}
use Rattle.capture_lines.specs.Line.{pins_of}
use Rattle.capture_lines.specs.SoFar.{with_bytes, pins_in, event_line}
use Rattle.capture_lines.proofs.Digits.{event-line-kept}
use Rattle.capture_lines.proofs.Pins.{pins-kept}

-- the first line has the pins that its bytes say
pub first-line : (p : List ℕ) → pins_in (with_bytes (First 0) p) ≡ pins_of p
first-line p = pins-kept p

-- an event line has the number that its bytes are, or is bad
pub event-line : (p : List ℕ) → with_bytes Empty p ≡ event_line p
event-line p = after [] p
  where
    after : (q p : List ℕ) → with_bytes (event_line q) p ≡ event_line (q ++ p)
    after q [] = rw (append-nil q)
    after q (b ∷ p) = rw (event-line-kept q b) (after (q ++ b ∷ []) p ∙ rw (append_snoc q b p))
