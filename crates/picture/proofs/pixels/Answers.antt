use native.Mathlib.Omega.{arith}
use Rattle.print.proofs.Writing.{prints_none, prints-part, prints-parts}
use Rattle.picture.specs.Picture.{pixel_at}
use Rattle.picture.proofs.pixels.Goals as goal

pub loop-k-init : goal.loop-k-init
loop-k-init c = prints_none _ (omega arith)

pub loop-k-preserved : goal.loop-k-preserved
loop-k-preserved c = prints-part (pixel_at c.args.chip c.args.memory.now) c.loop-k.k c.loop-k.invariant c.pixel_at.ensures

pub returns : goal.returns
returns c = prints-parts (pixel_at c.args.chip c.args.memory.now) c.loop-k.auto.k-end c.loop-k-test.false c.loop-k.invariant
