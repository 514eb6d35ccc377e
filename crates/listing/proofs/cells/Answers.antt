use mathlib.Core.List.{◌++◌}
use mathlib.Core.Path.{◌≡◌, ap, ◌∙◌}
use Prim.Native.Nat.{ℕ}
use native.Mathlib.Omega.{arith}
use Rattle.registers.specs.State.{places}
use Rattle.print.specs.Printed.{parts_from}
use Rattle.print.proofs.Writing.{prints-same}
use Rattle.listing.specs.Listing.{header, line_at}
use Rattle.listing.proofs.CodeWays.{part-after}
use Rattle.listing.proofs.Lines.{listing-parts}
use Rattle.listing.proofs.cells.Goals as goal

pub loop-place-init : goal.loop-place-init
loop-place-init c = c.bytes.ensures

pub loop-place-preserved : goal.loop-place-preserved
loop-place-preserved c = part-after header (line_at c.args.memory.now c.args.writers.now) _ c.loop-place.invariant c.cell_at.ensures

pub returns : goal.returns
returns c =
    let given = c.args in
    let all : c.loop-place.place ≡ places = omega arith in
    prints-same (ap (λ (k : ℕ). header ++ parts_from (line_at given.memory.now given.writers.now) 0 k) all ∙ listing-parts given.memory.now given.writers.now)
    c.loop-place.invariant
