-- What a line of a capture says (document 01, "Replay listing"), without its newline: the first the pins, each other an event number.
use Rattle.std.specs.Prelude.{cond, List, ℕ, leb, take, drop, Option, Some, None}
use Rattle.text.specs.Decimal.{number_of}
use Rattle.text.specs.Text.{bytes, same_bytes}

abbrev pub newline : ℕ
newline = 10

-- `pins` and a tab
abbrev pub word : List ℕ
word = bytes "pins\t"

-- 0 to 3
abbrev pub as_pins : Option ℕ → Option ℕ
as_pins None = None
as_pins (Some n) = cond (leb n 3) (Some n) None

unfoldable pub pins_of : List ℕ → Option ℕ
pins_of p = cond (same_bytes (take 5 p) word) (as_pins (number_of (drop 5 p))) None
