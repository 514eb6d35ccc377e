-- What `compile` gives for every record, text and output (document 01, "Drawing lists" and "Numbers given back").
use Rattle.std.specs.Prelude.{cond, List, [], ℕ, ◌+◌, leb, ltb, length}
use Rattle.std.proofs.lemmas.List.Edits.{sets}
use Rattle.registers.specs.declared.Chip.{Chip}
use Rattle.registers.specs.declared.Registers.{Registers}
use Rattle.registers.specs.Record.{allowed, blank}
use Rattle.lists.specs.declared.Line.{Line}
use Rattle.lists.specs.Lists.{Reading, faulty, lines, reading_of, newlines}
use Rattle.drawing.specs.Stream.{stream, byte_events, clocks_of}
use Rattle.compiler.specs.Answer.{Compiled}
use Rattle.compiler.specs.Answer.{Done, Refused, BadLine, Short}
use Rattle.compiler.specs.declared.answer.Numbers.{Numbers}
use Rattle.compiler.specs.Answer.{Measured}
use Rattle.compiler.specs.Answer.{Fault, Whole}

-- the answer, and the output after it
pub record Result : Type 0 where
  pub answer : Compiled
  pub out : List ℕ

abbrev pub answered : Compiled → List ℕ → Result
answered a out = record { answer = a; out = out }

-- the stream to the output: from its first word on, or nothing where there is no room for all
abbrev pub into_output : List ℕ → List ℕ → Result
into_output es out = cond (leb (length es) (length out)) (answered (Done (length es) (clocks_of es)) (sets out 0 es)) (answered (Short (length es)) out)

-- the text's first fault, or its lines to a stream, from the pins and the registers but H, X and Y
abbrev pub from_reading : ℕ → Registers → Reading → List ℕ → Result
from_reading pins q (faulty k n) out = answered (BadLine k n) out
from_reading pins q (lines ls) out = into_output (stream pins ls q) out

-- 2, then 9, then the first bad line, then 10
unfoldable pub compile_of : Chip → List ℕ → List ℕ → Result
compile_of c text out =
    cond (allowed c) (cond (ltb 4096 (newlines text)) (answered (Refused 9) out) (from_reading c.pins (blank c.registers) (reading_of text) out))
    (answered (Refused 2) out)

-- ---- document 01's numbers

abbrev pub numbers : ℕ → ℕ → ℕ → ℕ → Numbers
numbers n l c i = record { number = n; length = l; clocks = c; line = i }

-- those that an answer does not name are 0
abbrev pub numbers_of : Compiled → Numbers
numbers_of (Done n k) = numbers 0 n k 0
numbers_of (Refused k) = numbers k 0 0 0
numbers_of (BadLine k i) = numbers k 0 0 i
numbers_of (Short n) = numbers 10 n 0 0

-- ---- the first of two passes: the first fault, or how many events and byte events there are

abbrev pub measure_from : ℕ → Registers → ℕ → ℕ → Reading → Measured
measure_from pins q n b (faulty k i) = Fault k i
measure_from pins q n b (lines ls) = Whole (n + length (stream pins ls q)) (b + byte_events (stream pins ls q))

abbrev pub measure_of : ℕ → Registers → Reading → Measured
measure_of pins q (faulty k i) = Fault k i
measure_of pins q (lines ls) = Whole (length (stream pins ls q)) (byte_events (stream pins ls q))

-- ---- the second pass

abbrev pub lines_of : Reading → List Line
lines_of (faulty k i) = []
lines_of (lines ls) = ls
