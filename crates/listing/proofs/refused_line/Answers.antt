use mathlib.Core.List.{[], ◌∷◌, ◌++◌}
use Prim.Native.Nat.{◌+◌}
use Rattle.text.specs.Text.{bytes}
use Rattle.print.specs.Printed.{decimal_of}
use Rattle.print.proofs.Writing.{prints_then, prints-same}
use Rattle.listing.specs.Listing.{refused_of}
use Rattle.listing.proofs.CodeWays.{refused-fields}
use Rattle.listing.proofs.refused_line.Goals as goal

pub returns : goal.returns
unfolding refused_of
returns c =
    let given = c.args in
    prints-same (refused-fields (bytes "refused" ++ (9 ∷ [])) given.file.now (decimal_of (given.n + given.k)))
    (prints_then c.bytes.ensures (prints_then c.bytes-2.ensures (prints_then c.decimal_plus.ensures c.byte.ensures)))
