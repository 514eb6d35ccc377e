-- When each answer of `compile` comes (document 01, "Numbers given back"): 2, 9, the first bad line's 6, 7 or 8, 10, and else the length and clocks.
use Rattle.std.specs.Prelude.{true, false, List, ◌⊎◌, ◌≡◌, ℕ, ◌≤◌, ◌<◌, length}
use Rattle.registers.specs.declared.Chip.{Chip}
use Rattle.registers.specs.Record.{allowed, blank}
use Rattle.lists.specs.declared.Line.{Line}
use Rattle.lists.specs.Lists.{faulty, lines, reading_of, newlines}
use Rattle.drawing.specs.Stream.{stream, clocks_of}
use Rattle.compiler.specs.Answer.{Compiled}
use Rattle.compiler.specs.Answer.{Done, Refused, BadLine, Short}

-- neither 2 nor 9
pub record PassesEntry (c : Chip) (text : List ℕ) : Type 0 where
  pub allowed_record : allowed c ≡ true
  pub not_too_long : newlines text ≤ 4096

-- no line is bad, and es is the list's stream
pub record Streams (c : Chip) (text : List ℕ) (es : List ℕ) : Type 0 where
  pub list : List Line
  pub reads : reading_of text ≡ lines list
  pub events : es ≡ stream c.pins list (blank c.registers)

-- what holds where 2 or 9 is the answer
abbrev pub NotRead : Chip → List ℕ → ℕ → Type 0
NotRead c text k = ((k ≡ 2) × (allowed c ≡ false)) ⊎ ((k ≡ 9) × (allowed c ≡ true) × (4096 < newlines text))

abbrev pub When : Chip → List ℕ → List ℕ → Compiled → Type 0
When c text out (Refused k) = NotRead c text k
When c text out (BadLine k i) = PassesEntry c text × (reading_of text ≡ faulty k i)
When c text out (Short n) = PassesEntry c text × ((es : List ℕ) × Streams c text es × (n ≡ length es) × (length out < n))
When c text out (Done n k) = PassesEntry c text × ((es : List ℕ) × Streams c text es × (n ≡ length es) × (k ≡ clocks_of es) × (n ≤ length out))
