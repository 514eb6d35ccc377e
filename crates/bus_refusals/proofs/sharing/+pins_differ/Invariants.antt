use Rattle.std.proofs.Common.{length}
use Rattle.bus_refusals.proofs.sharing.+pins_differ.Given as goal

abbrev pub decreases-pins_differ : goal.decreases-pins_differ
decreases-pins_differ l = length l.chips.now
