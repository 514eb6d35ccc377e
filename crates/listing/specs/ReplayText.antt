-- What is printed of a capture: the listing where it was replayed, the one line where it was refused.
use Rattle.std.specs.Prelude.{List, [], ℕ, zero, suc, Result, length}
use Rattle.registers.specs.Refusals.{lengths_refusal}
use Rattle.print.specs.Printed.{Refused, Output, output, whole_text}
use Rattle.capture.specs.declared.End.{End}
use Rattle.capture.specs.Feeding.{meaning}
use Rattle.capture.specs.Replay.{Replay, refused_by, refused_at, replayed}
use Rattle.listing.specs.Listing.{listing_call, refused_of}

-- the answer, and the buffer. Of a capture that was replayed there is no such line, and so no text
abbrev pub refused_text : List ℕ → Replay → List ℕ → Output
refused_text file (refused_by k s) out = output (Refused k) out
refused_text file (refused_at n s) out = whole_text 0 (refused_of file n) out
refused_text file (replayed s) out = whole_text 0 [] out

-- the memories say nothing of a refusal
unfoldable pub refused_call : List ℕ → Result End ℕ → List ℕ → Output
refused_call file end out = refused_text file (meaning end [] []) out

abbrev pub text_of_replay : Replay → List ℕ → Output
text_of_replay (refused_by k s) out = refused_text [] (refused_by k s) out
text_of_replay (refused_at n s) out = refused_text [] (refused_at n s) out
text_of_replay (replayed s) out = listing_call s.memory s.writers out

abbrev pub text_unless : ℕ → List ℕ → Output → Output
text_unless zero out text = text
text_unless (suc k) out text = output (Refused (suc k)) out

-- 1: a lent memory isn't 1,717 long, whatever the capture came to
unfoldable pub replay_text_call : Result End ℕ → List ℕ → List ℕ → List ℕ → Output
replay_text_call end m w out = text_unless (lengths_refusal (length m) (length w)) out (text_of_replay (meaning end m w) out)
