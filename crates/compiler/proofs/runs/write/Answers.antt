use mathlib.Core.Path.{ap}
use native.Mathlib.Omega.{arith}
use lib.ListN.{length}
use Rattle.compiler.proofs.CodeRuns.{fill-runs-fit, fill-runs, fill-wrote}
use Rattle.compiler.proofs.runs.write.Goals as goal

pub write_runs-requires : goal.write_runs-requires
write_runs-requires c = (
  fill-runs-fit _ _ _ _ _ _ c.runs_of-runs.ensures c.requires.0,
  omega (arith, c.requires.1, ap length (fill-runs _ _ _ _ _ _ c.runs_of-runs.ensures c.args.pins)),
)

pub returns : goal.returns
returns c =
    fill-wrote _ _ _ _ _ _ c.runs_of-runs.ensures _ c.write_runs.ensures
