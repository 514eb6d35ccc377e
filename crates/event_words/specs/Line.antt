-- An event's line: its number, the event as a capture has it, what it is, and its answer.
use Rattle.std.specs.Prelude.{List, [], ◌∷◌, ℕ, ◌+◌}
use Rattle.registers.specs.declared.Chip.{Chip}
use Rattle.print.specs.Chosen.{line}
use Rattle.print.specs.Printed.{decimal_of}
use Rattle.engine.specs.Answer.{Answer}
use Rattle.event_words.specs.Words.{what_of, answer_words}

-- c is the chip before the event, and n the count, which the event's number follows
abbrev pub event_line : ℕ → Chip → ℕ → Answer → List ℕ
event_line e c n a = line (decimal_of (n + 1) ∷ decimal_of e ∷ what_of e c ∷ answer_words a ∷ [])
