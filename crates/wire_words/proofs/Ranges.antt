-- The ranges of the wires are those of their words.
use mathlib.Core.List.{List}
use mathlib.Core.Path.{refl}
use Prim.Native.Nat.{ℕ, ◌≤◌}
use native.Mathlib.Omega.{arith}
use Rattle.wire_samples.specs.declared.Stage.{Stage}
use Rattle.wire_samples.specs.declared.Stage.TheVariants.{Outside, Waiting, First, Writing, Reading}
use Rattle.wire_samples.specs.declared.Wires.{Wires}
use Rattle.wire_traffic.specs.When.{InRanges}
use Rattle.wire_words.specs.Words.{IsState, stage_number, wires_of, words_of}

stage-range : (st : Stage) → stage_number st ≤ 4
stage-range Outside = omega arith
stage-range Waiting = omega arith
stage-range First = omega arith
stage-range Writing = omega arith
stage-range Reading = omega arith

pub in-ranges-state : (w : Wires) → InRanges w → IsState (words_of w)
in-ranges-state w r = record { long = refl; last = r.last; stage = stage-range w.stage; bits = r.bits; value = r.value }

pub state-in-ranges : (ws : List ℕ) → IsState ws → InRanges (wires_of ws)
unfolding wires_of
state-in-ranges ws s = record { last = s.last; bits = s.bits; value = s.value }
