-- A line byte by byte: what is kept of the bytes before the newline. proofs/Laws.antt holds it against what the whole line says.
use Rattle.std.specs.Prelude.{Bool, true, false, cond, ◌&&◌, List, [], ◌∷◌, ◌≡◌, ℕ, ◌+◌, ◌*◌, eqb, leb, ltb, get_or, drop, Option, Some, None}
use Rattle.text.specs.Decimal.{is_digit, digit_value, number_of}
use Rattle.capture_lines.specs.declared.LineSoFar.{LineSoFar}
use Rattle.capture_lines.specs.declared.LineSoFar.TheVariants.{First, Pins, Empty, Number, BadFirst, Bad}
use Rattle.capture_lines.specs.declared.Scanned.{Scanned}
use Rattle.capture_lines.specs.Line.{newline, word}

-- ---- one byte more, which is no newline

-- 0 to 3
abbrev pub is_pins : ℕ → Bool
is_pins b = leb 48 b && leb b 51

abbrev pub on_word : ℕ → ℕ → LineSoFar
on_word k b =
    cond (ltb k 5) (cond (eqb b (get_or word k 0)) (First (k + 1)) BadFirst)
    (cond (is_pins b) (Pins (digit_value b)) BadFirst)

abbrev pub on_digit : ℕ → LineSoFar
on_digit b = cond (is_digit b) (Number (digit_value b)) Bad

-- no digit follows a 0, and none a number of three digits
abbrev pub takes_digit : ℕ → Bool
takes_digit n = ltb 0 n && ltb n 100

abbrev pub on_number : ℕ → ℕ → LineSoFar
on_number n b = cond (takes_digit n && is_digit b) (Number (n * 10 + digit_value b)) Bad

unfoldable pub with_byte : LineSoFar → ℕ → LineSoFar
with_byte (First k) b = on_word k b
with_byte (Pins p) b = BadFirst
with_byte Empty b = on_digit b
with_byte (Number n) b = on_number n b
with_byte BadFirst b = BadFirst
with_byte Bad b = Bad

-- more bytes, none of them a newline
abbrev pub with_bytes : LineSoFar → List ℕ → LineSoFar
with_bytes l [] = l
with_bytes l (b ∷ bs) = with_bytes (with_byte l b) bs

-- ---- what is kept, in the words of the whole line

-- the pins, once the first line has them
abbrev pub pins_in : LineSoFar → Option ℕ
pins_in (First k) = None
pins_in (Pins p) = Some p
pins_in Empty = None
pins_in (Number n) = None
pins_in BadFirst = None
pins_in Bad = None

abbrev pub of_number : Option ℕ → LineSoFar
of_number (Some n) = Number n
of_number None = Bad

-- an event line with these bytes
abbrev pub event_line : List ℕ → LineSoFar
event_line [] = Empty
event_line (x ∷ xs) = of_number (number_of (x ∷ xs))

-- the capture is refused at this line or at one before it, whatever comes
abbrev pub is_refused : LineSoFar → Bool
is_refused (First k) = false
is_refused (Pins p) = false
is_refused Empty = false
is_refused (Number n) = false
is_refused BadFirst = true
is_refused Bad = true

-- ---- a part of a text

-- the line with the bytes up to the next newline, the first of them at a place, and the place where that ends
unfoldable pub scanned_from : ℕ → List ℕ → LineSoFar → Scanned
scanned_from at [] l = record { line = l; at = at }
scanned_from at (b ∷ bs) l = cond (eqb b newline) (record { line = l; at = at }) (scanned_from (at + 1) bs (with_byte l b))

-- r is reached on the way: what is left to scan comes to the same
abbrev pub PartlyScanned : List ℕ → ℕ → LineSoFar → Scanned → Type 0
PartlyScanned part from l r = scanned_from r.at (drop r.at part) r.line ≡ scanned_from from (drop from part) l
