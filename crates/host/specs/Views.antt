-- The two calls of a C host that look at the glass: what each gives back, for every input.
use Rattle.std.specs.Prelude.{cond, not, List, ℕ, eqb, length}
use Rattle.registers.specs.State.{places}
use Rattle.registers.specs.Refusals.{refuse, ◌then◌}
use Rattle.glass.specs.Answer.{shown_number, cell_number}
use Rattle.glass.specs.Glass.{off_glass, cell_of, glass_of}
use Rattle.host.specs.Calls.{no_record_for}
use Rattle.record_words.specs.Words.{stands_for, chip_of}

-- pcf8820_glass; there are no writer numbers whose length could be wrong
unfoldable pub glass_call : ℕ → ℕ → List ℕ → List ℕ → ℕ
glass_call row column ws m = cond (stands_for ws) (shown_number (glass_of (chip_of ws) m row column)) (no_record_for (length m) places)

-- pcf8820_place
unfoldable pub place_call : ℕ → ℕ → List ℕ → ℕ
place_call row column ws = cond (stands_for ws) (cell_number (cell_of (chip_of ws) row column)) 2

-- ---- exactly when a call is refused: document 01's numbers in their order, read off what the host lends; 0 is none

abbrev pub place_refusal : ℕ → ℕ → List ℕ → ℕ
place_refusal row column ws = refuse (not (stands_for ws)) 2 then refuse (off_glass row column) 5

abbrev pub glass_refusal : ℕ → ℕ → List ℕ → List ℕ → ℕ
glass_refusal row column ws m = refuse (not (eqb (length m) places)) 1 then place_refusal row column ws
