use Rattle.compiler.proofs.Writes.{wrote_then}
use Rattle.compiler.proofs.emit.head.Goals as goal

pub returns : goal.returns
returns c =
    let commands = wrote_then c.pair-in_page.ensures (wrote_then c.pair-at_x.ensures c.pair-at_y.ensures) in
    wrote_then c.pair-started.ensures (wrote_then commands c.put.ensures)
