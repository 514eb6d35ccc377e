-- Ways through the code, over plain variables: why a list is refused.
use mathlib.Core.List.{◌++◌}
use mathlib.Core.Path.{◌≡◌, refl}
use Prim.Native.Nat.{ℕ}
use borrow.Author.Tests.{ne_eqb}
use Rattle.refusals.specs.declared.Refusal.{Refusal}
use Rattle.refusals.specs.declared.Refusal.TheVariants.{MemoryLength, Record, UnlistedEvent, FullCount, OutsideGlass, MalformedLine, NumberOutOfRange, UnreadableRow, TooManyLines, ShortOutput, RowLength, CannotShare, SensorPins, NoSample, NoRoomForEvent, PixelCounts}
use Rattle.refusals.specs.Numbers.{number}
use Rattle.text.specs.Text.{bytes}
use Rattle.print.specs.Printed.{decimal_of}
use Rattle.draw.specs.Refusal.{place_of, too_many_lines, reason_of}

pub some-place : (line : ℕ) → (line ≡ 0 → ⊥) → bytes ", line " ++ decimal_of line ≡ place_of line
some-place line n = rw (ne_eqb line 0 n)

-- no rule of a line
pub other-reason :
    (r : Refusal) → (r ≡ MalformedLine → ⊥) → (r ≡ NumberOutOfRange → ⊥) → (r ≡ UnreadableRow → ⊥) → too_many_lines ≡ reason_of (number r)
unfolding reason_of
other-reason MemoryLength a b c = refl
other-reason Record a b c = refl
other-reason UnlistedEvent a b c = refl
other-reason FullCount a b c = refl
other-reason OutsideGlass a b c = refl
other-reason MalformedLine a b c = absurd (a refl)
other-reason NumberOutOfRange a b c = absurd (b refl)
other-reason UnreadableRow a b c = absurd (c refl)
other-reason TooManyLines a b c = refl
other-reason ShortOutput a b c = refl
other-reason RowLength a b c = refl
other-reason CannotShare a b c = refl
other-reason SensorPins a b c = refl
other-reason NoSample a b c = refl
other-reason NoRoomForEvent a b c = refl
other-reason PixelCounts a b c = refl
