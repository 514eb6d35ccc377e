-- The calls: which refusal comes first, and what is printed of a capture.
use Rattle.std.specs.Prelude.{List, [], ℕ, Result, Ok, Err, length}
use Rattle.registers.specs.declared.Chip.{Chip}
use Rattle.registers.specs.Refusals.{lengths_refusal}
use Rattle.glass.specs.Glass.{cell_of}
use Rattle.print.specs.Printed.{Written, Refused, Output, output, whole_text, written_number}
use Rattle.capture.specs.declared.End.{End}
use Rattle.capture.specs.Feeding.{meaning}
use Rattle.capture.specs.Replay.{Replay, refused_by, refused_at, replayed}
use Rattle.listing.specs.ReplayText.{refused_text, text_unless}
use Rattle.origin.specs.Origin.{origin_at, origin_text}

-- the answer, and the buffer: the pixel's place is found, or refused by 2 or 5
abbrev pub told_at : Chip → List ℕ → List ℕ → ℕ → ℕ → Result ℕ ℕ → List ℕ → Output
told_at c m w row column (Err k) out = output (Refused k) out
told_at c m w row column (Ok p) out = whole_text 0 (origin_text (origin_at c m w row column p)) out

-- 1: a lent memory isn't 1,717 long; then 2: register record not allowed; 5: glass row above 66 or column above 100
unfoldable pub origin_call : Chip → List ℕ → List ℕ → ℕ → ℕ → List ℕ → Output
origin_call c m w row column out = text_unless (lengths_refusal (length m) (length w)) out (told_at c m w row column (cell_of c row column) out)

-- document 01's number for the answer: 10 is an output shorter than needed
abbrev pub origin_number : Written → ℕ
origin_number = written_number 10

-- a capture that is refused says nothing of a pixel: its one line is all
abbrev pub told_of : Replay → ℕ → ℕ → List ℕ → Output
told_of (refused_by k s) row column out = refused_text [] (refused_by k s) out
told_of (refused_at n s) row column out = refused_text [] (refused_at n s) out
told_of (replayed s) row column out = origin_call s.chip s.memory s.writers row column out

-- 1 comes first, whatever the capture came to; 2 and 5 come only of a capture that was replayed
unfoldable pub origin_text_call : Result End ℕ → List ℕ → List ℕ → ℕ → ℕ → List ℕ → Output
origin_text_call end m w row column out =
    text_unless (lengths_refusal (length m) (length w)) out (told_of (meaning end m w) row column out)
