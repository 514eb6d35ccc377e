-- A capture part by part: what is kept between parts, and what a newline does. proofs/Laws.antt holds it against `replay_of`.
use Rattle.std.specs.Prelude.{Result, Ok, Err, Bool, true, cond, not, ◌&&◌, ◌||◌, List, [], ◌∷◌, ◌++◌, ℕ, zero, suc, ◌+◌, eqb, leb, length}
use Rattle.refusals.specs.declared.Refusal.{Refusal}
use Rattle.refusals.specs.Numbers.{number}
use Rattle.registers.specs.declared.Chip.{Chip}
use Rattle.registers.specs.Record.{allowed, reset_chip}
use Rattle.registers.specs.Refusals.{refuse, ◌then◌, lengths_refusal}
use Rattle.registers.specs.State.{State, state}
use Rattle.chip.specs.Promised.{Outcome, run_of, run_past_entry}
use Rattle.capture_lines.specs.declared.LineSoFar.{LineSoFar}
use Rattle.capture_lines.specs.declared.LineSoFar.TheVariants.{First, Pins, Empty, Number, BadFirst, Bad}
use Rattle.capture_lines.specs.Line.{newline}
use Rattle.capture_lines.specs.SoFar.{with_byte, is_refused}
use Rattle.capture.specs.declared.Capture.{Capture}
use Rattle.capture.specs.declared.End.{End}
use Rattle.capture.specs.declared.End.TheVariants as ends
use Rattle.capture.specs.Replay.{Replay, refused_by, refused_at, replayed, started}

-- the present line, and the chip with the two lent memories and the count
pub record Playing : Type 0 where
  pub line : LineSoFar
  pub state : State

abbrev pub playing : LineSoFar → State → Playing
playing l s = record { line = l; state = s }

abbrev pub kept : Capture → List ℕ → List ℕ → Playing
kept c m w = playing c.line (state c.chip m w c.count)

abbrev pub start_of : Capture
start_of = record { chip = reset_chip 0; count = 0; line = First 0 }

-- ---- a newline

-- the line after an event's: none after one that was refused
abbrev pub line_after : ℕ → LineSoFar
line_after zero = Empty
line_after (suc k) = Bad

-- one event is played
abbrev pub played : Outcome → Playing
played o = playing (line_after o.refusal) o.state

unfoldable pub ended_line : LineSoFar → State → Playing
ended_line (First k) s = playing BadFirst s
ended_line (Pins p) s = playing Empty (started p s.memory s.writers)
ended_line Empty s = playing Bad s
ended_line (Number e) s = played (run_of (e ∷ []) s)
ended_line BadFirst s = playing BadFirst s
ended_line Bad s = playing Bad s

-- the same past the entry of a part, which tests 1 and 2 for all its events
unfoldable pub ended_past_entry : LineSoFar → State → Playing
ended_past_entry (First k) s = ended_line (First k) s
ended_past_entry (Pins p) s = ended_line (Pins p) s
ended_past_entry Empty s = ended_line Empty s
ended_past_entry (Number e) s = played (run_past_entry 0 (e ∷ []) s)
ended_past_entry BadFirst s = ended_line BadFirst s
ended_past_entry Bad s = ended_line Bad s

-- ---- bytes

abbrev pub with_next : ℕ → Playing → Playing
with_next b p = cond (eqb b newline) (ended_line p.line p.state) (playing (with_byte p.line b) p.state)

unfoldable pub bytes_fed : List ℕ → Playing → Playing
bytes_fed [] p = p
bytes_fed (b ∷ bs) p = bytes_fed bs (with_next b p)

-- ---- a part

-- of the first line, up to 5 bytes of `pins` and the tab behind it are read, then the pins, which are 0 to 3
abbrev pub line_allowed : LineSoFar → Bool
line_allowed (First k) = leb k 5
line_allowed (Pins p) = leb p 3
line_allowed Empty = true
line_allowed (Number n) = true
line_allowed BadFirst = true
line_allowed Bad = true

abbrev pub capture_allowed : LineSoFar → Chip → Bool
capture_allowed l c = allowed c && line_allowed l

-- 2: the chip that was kept is not allowed, or no bytes lead to the first line that was
abbrev pub kept_refusal : LineSoFar → Chip → ℕ
kept_refusal l c = refuse (not (capture_allowed l c)) 2

-- 1: a lent memory isn't 1,717 long; then 2
abbrev pub part_refusal : Playing → ℕ
part_refusal p = lengths_refusal (length p.state.memory) (length p.state.writers) then kept_refusal p.line p.state.chip

-- the number of the refusal, 0 being none, and what is kept then, with the memories
pub record PartFed : Type 0 where
  pub refusal : ℕ
  pub after : Playing

abbrev pub fed : ℕ → Capture → List ℕ → List ℕ → PartFed
fed k c m w = record { refusal = k; after = kept c m w }

-- what a part comes to for one who hands over `before`: refused, it leaves that as it was
abbrev pub fed_by : Result Capture Refusal → Capture → List ℕ → List ℕ → PartFed
fed_by (Ok c) before m w = fed 0 c m w
fed_by (Err r) before m w = fed (number r) before m w

-- a refused part changes nothing
abbrev pub fed_unless : ℕ → Playing → Playing → PartFed
fed_unless zero next p = record { refusal = 0; after = next }
fed_unless (suc k) next p = record { refusal = suc k; after = p }

unfoldable pub feed_of : List ℕ → Playing → PartFed
feed_of part p = fed_unless (part_refusal p) (bytes_fed part p) p

-- f where it was refused, else the part that follows
abbrev pub next_unless : ℕ → PartFed → PartFed → PartFed
next_unless zero f next = next
next_unless (suc k) f next = f

abbrev pub then_fed : PartFed → List ℕ → PartFed
then_fed f part = next_unless f.refusal f (feed_of part f.after)

-- a part, and those after it
abbrev pub feed_parts : PartFed → List (List ℕ) → PartFed
feed_parts f [] = f
feed_parts f (p ∷ ps) = feed_parts (then_fed f p) ps

abbrev pub all_parts : List (List ℕ) → List ℕ
all_parts [] = []
all_parts (p ∷ ps) = p ++ all_parts ps

-- nothing that follows changes it: it was refused by a number, or at a line
abbrev pub is_over_at : ℕ → LineSoFar → Bool
is_over_at k l = not (eqb k 0) || is_refused l

abbrev pub is_over : PartFed → Bool
is_over f = is_over_at f.refusal f.after.line

-- of what a part came to: a refused one is over
abbrev pub is_over_fed : Result Capture Refusal → Bool
is_over_fed (Ok c) = is_over_at 0 c.line
is_over_fed (Err r) = true

-- ---- the end

abbrev pub end_of : LineSoFar → Chip → ℕ → End
end_of (First k) c n = ends.BadFirst
end_of (Pins p) c n = ends.BadFirst
end_of Empty c n = ends.Whole c n
end_of (Number e) c n = ends.Bad c n
end_of BadFirst c n = ends.BadFirst
end_of Bad c n = ends.Bad c n

abbrev pub end_unless : ℕ → End → Result End ℕ
end_unless zero e = Ok e
end_unless (suc k) e = Err (suc k)

-- a line that is not ended by its newline is bad. k is the refusal of the last part, 0 being none; then 2 where what was kept is not allowed
unfoldable pub finish_of : ℕ → Capture → Result End ℕ
finish_of k c = end_unless (k then kept_refusal c.line c.chip) (end_of c.line c.chip c.count)

-- of what a part came to: a refused one is refused so. `refused-finish` in proofs/Laws.antt: that is `finish_of` its number, whatever is kept
abbrev pub finish_fed : Result Capture Refusal → Result End ℕ
finish_fed (Ok c) = finish_of 0 c
finish_fed (Err r) = Err (number r)

-- what an end says, or the number by which it is refused, with the memories as they are then. The line of a bad event is count + 2, whatever the width of the count
unfoldable pub meaning : Result End ℕ → List ℕ → List ℕ → Replay
meaning (Err k) m w = refused_by k (started 0 m w)
meaning (Ok ends.BadFirst) m w = refused_at 1 (started 0 m w)
meaning (Ok (ends.Bad c n)) m w = refused_at (n + 2) (state c m w n)
meaning (Ok (ends.Whole c n)) m w = replayed (state c m w n)
