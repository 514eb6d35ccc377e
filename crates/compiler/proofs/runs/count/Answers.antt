use native.Mathlib.Omega.{arith}
use Rattle.compiler.proofs.CodeRuns.{fill-runs-fit, fill-counts, run-counts-small}
use Rattle.compiler.proofs.runs.count.Goals as goal

pub overflow_add-result : goal.overflow_add-result
overflow_add-result c =
    omega (arith, (fill-runs-fit _ _ _ _ _ _ c.runs_of-runs.ensures c.requires).bytes)

pub overflow_mul-result : goal.overflow_mul-result
overflow_mul-result c =
    omega (arith, run-counts-small 10 (omega arith) (fill-runs-fit _ _ _ _ _ _ c.runs_of-runs.ensures c.requires))

pub overflow_add-result-2 : goal.overflow_add-result-2
overflow_add-result-2 c =
    omega (arith, (fill-runs-fit _ _ _ _ _ _ c.runs_of-runs.ensures c.requires).bytes)

pub overflow_mul-result-2 : goal.overflow_mul-result-2
overflow_mul-result-2 c =
    omega (arith, run-counts-small 8 (omega arith) (fill-runs-fit _ _ _ _ _ _ c.runs_of-runs.ensures c.requires))

pub returns : goal.returns
returns c =
    fill-counts _ _ _ _ _ _ c.runs_of-runs.ensures
