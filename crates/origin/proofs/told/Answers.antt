use native.Mathlib.Omega.{arith}
use borrow.Author.Rules.{rules}
use Rattle.origin.proofs.Bounds.{Fits, origin-bound}
use Rattle.origin.proofs.told.Goals as goal

pub returns : goal.returns
returns c =
    let fits : Fits c.args.origin = record {
      row = search rules;
      column = search rules;
      shows = c.requires;
      ram = search rules;
      place = search rules;
      byte = search rules;
      value = search rules;
      event = search rules;
    } in
    let bound = origin-bound c.args.origin fits in
    c.whole.ensures _ (omega arith) (λ p q post. search rules)
