-- What is printed of two captures: where the first is refused, else where the second is, else what differs at their ends.
use Rattle.std.specs.Prelude.{List, ℕ, Result}
use Rattle.registers.specs.Record.{values}
use Rattle.registers.specs.State.{State}
use Rattle.text.specs.Text.{bytes}
use Rattle.print.specs.Printed.{Output, whole_text}
use Rattle.capture.specs.declared.End.{End}
use Rattle.capture.specs.Feeding.{meaning}
use Rattle.capture.specs.Replay.{Replay, refused_by, refused_at, replayed}
use Rattle.listing.specs.ReplayText.{refused_text, text_unless}
use Rattle.differences.specs.Differences.{Compared, compared, memories, differences_refusal, differences_of}

-- what of a chip is compared
abbrev pub compared_of : State → Compared
compared_of s = compared (values s.chip.registers) s.memory s.writers

-- which file is refused, in front of the line: 1 or 2, and a tab
abbrev pub comparison_of : Replay → Replay → List ℕ → Output
comparison_of (refused_by k s) second out = refused_text (bytes "1\t") (refused_by k s) out
comparison_of (refused_at n s) second out = refused_text (bytes "1\t") (refused_at n s) out
comparison_of (replayed s) (refused_by k t) out = refused_text (bytes "2\t") (refused_by k t) out
comparison_of (replayed s) (refused_at n t) out = refused_text (bytes "2\t") (refused_at n t) out
comparison_of (replayed s) (replayed t) out = whole_text 0 (differences_of (compared_of s) (compared_of t)) out

-- 1: a memory isn't 1,717 long, whatever the captures came to
unfoldable pub comparison_call : Result End ℕ → List ℕ → List ℕ → Result End ℕ → List ℕ → List ℕ → List ℕ → Output
comparison_call first m w second n v out =
    text_unless (differences_refusal (memories m w) (memories n v)) out (comparison_of (meaning first m w) (meaning second n v) out)
