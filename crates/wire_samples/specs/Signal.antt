-- What the two lines of the bus say between a sample and the next (document 02, W7). A sample has SCL in bit 1 and SDA in bit 0.
use Rattle.std.specs.Prelude.{Bool, cond, not, ◌&&◌, ◌||◌, ℕ, ◌/◌, ◌%◌, eqb}
use Rattle.wire_samples.specs.declared.signal.Signal.{Signal}
use Rattle.wire_samples.specs.declared.signal.Signal.TheVariants.{Quiet, Start, Stop, Bit, Unclear}

-- ---- the lines: true is high

abbrev pub scl_of : ℕ → Bool
scl_of s = eqb (s / 2 % 2) 1

abbrev pub sda_of : ℕ → Bool
sda_of s = eqb (s % 2) 1

-- ---- one line, from before to now

abbrev pub rises : Bool → Bool → Bool
rises before now = not before && now

abbrev pub falls : Bool → Bool → Bool
falls before now = before && not now

abbrev pub changes : Bool → Bool → Bool
changes before now = rises before now || falls before now

-- ---- both lines

-- The clock rose: a bit, which the data line holds. The data line fell while the clock was high: START; rose: STOP.
abbrev pub on_one_line : Bool → Bool → Bool → Bool → Signal
on_one_line scl₀ sda₀ scl sda =
    cond (rises scl₀ scl) (Bit sda)
    (cond ((scl₀ && scl) && falls sda₀ sda) Start
    (cond ((scl₀ && scl) && rises sda₀ sda) Stop Quiet))

-- where both changed nobody knows which did first
abbrev pub on_lines : Bool → Bool → Bool → Bool → Signal
on_lines scl₀ sda₀ scl sda = cond (changes scl₀ scl && changes sda₀ sda) Unclear (on_one_line scl₀ sda₀ scl sda)

abbrev pub both_change : ℕ → ℕ → Bool
both_change before s = changes (scl_of before) (scl_of s) && changes (sda_of before) (sda_of s)

unfoldable pub signal_of : ℕ → ℕ → Signal
signal_of before s = on_lines (scl_of before) (sda_of before) (scl_of s) (sda_of s)
