use Rattle.pixel_counts.proofs.Pixels.{by_value_lem}
use borrow.Author.Rules.{rules}
use Rattle.pixel_counts.proofs.shown.shown.Goals as goal

pub returns : goal.returns
returns c = by_value_lem c.args.place c.args.byte _ (search rules) c.packed-sum.ensures
