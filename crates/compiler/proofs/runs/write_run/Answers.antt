use lib.ListN.{length-replicate}
use native.Mathlib.Omega.{arith}
use Rattle.compiler.proofs.CodeRuns.{run-wrote}
use Rattle.compiler.proofs.runs.write_run.Goals as goal

pub put-requires : goal.put-requires
put-requires c =
    omega (arith, length-replicate c.args.n c.args.event)

pub returns : goal.returns
returns c =
    let start = c.args in
    run-wrote start.pins start.x start.y start.n start.event _ c.write_address-address.ensures c.head-started.ensures
    c.repeat-drawn.ensures c.put.ensures
