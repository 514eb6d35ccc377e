use Rattle.compiler.proofs.Writes.{wrote_then}
use Rattle.compiler.proofs.emit.pair.Goals as goal

pub returns : goal.returns
returns c =
    wrote_then c.put-next.ensures c.put.ensures
