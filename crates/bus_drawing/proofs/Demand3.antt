-- What `compile` wrote: the events are there, and the lines of the text keep to the limits. OnBus.antt draws it on a bus.
use mathlib.Core.List.{List}
use mathlib.Core.Path.{◌≡◌, ap, ◌∙◌}
use Prim.Native.Nat.{ℕ, ◌+◌, ◌≤◌}
use native.Mathlib.Omega.{arith}
use lib.ListN.{length, take, drop}
use lib.Seq.{sets, sets-eq, take-append_seam}
use Rattle.lists.specs.declared.Line.{Line}
use Rattle.lists.specs.Lists.{lines, reading_of}
use Rattle.lists.proofs.Readings.{reading-accepted}
use Rattle.drawing.proofs.Fits.{AllFit, all_fit}

-- ---- what was written

pub written-there : (out es : List ℕ) → length es ≤ length out → take (length es) (sets out 0 es) ≡ es
written-there out es h = ap (take (length es)) (sets-eq es out 0 (omega arith)) ∙ take-append_seam es (drop (0 + length es) out)

-- the lines of a text that has a plain reading keep to the limits
pub lines_fit : (text : List ℕ) (ls : List Line) → reading_of text ≡ lines ls → AllFit ls
unfolding reading_of
lines_fit text ls e = all_fit ls (reading-accepted 1 text ls e).within
