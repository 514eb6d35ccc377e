use Rattle.capture.proofs.CodeWays.{end_refused, stands_finished}
use Rattle.capture.specs.Feeding.{finish_of}
use mathlib.Core.Path.{ap}
use native.Mathlib.Omega.{arith}
use Rattle.std.specs.Prelude.{Ok}
use Rattle.capture.proofs.finish.Goals as goal

pub returns-in_err-of_kept : goal.returns-in_err-of_kept
unfolding finish_of
returns-in_err-of_kept c =
    let refused = end_refused _ _ c.in_err-of_kept.ensures in
    stands_finished c.in_ok-capture.was (grind (arith, refused))

pub returns : goal.returns
unfolding finish_of
returns c =
    let none = c.in_ok-of_kept.ensures in
    stands_finished c.in_ok-capture.was (rw (← none) (ap Ok c.end_of.ensures))
