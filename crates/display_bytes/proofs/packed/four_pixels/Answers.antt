use Rattle.display_bytes.proofs.Lanes.{byte-packed, entry-low}
use mathlib.Core.Path.{◌∙◌, ap}
use mathlib.Core.List.{List}
use Prim.Native.Nat.{ℕ, ◌+◌, ◌/◌, ◌%◌}
use native.Mathlib.Omega.{arith}
use lib.ListN.{get_or}
use Rattle.display_bytes.proofs.packed.four_pixels.Goals as goal

pub overflow_add-result : goal.overflow_add-result
overflow_add-result c =
    let byte = c.args.byte in
    rw (c.requires, c.from.ensures, c.from-2.ensures) (omega (arith, entry-low (byte % 16) (omega arith), entry-low (byte / 16) (omega arith)))

pub returns : goal.returns
returns c =
    let byte = c.args.byte in
    rw (c.from.ensures, c.from-2.ensures)
    (ap (λ (l : List ℕ). get_or l (byte % 16) 0 + get_or l (byte / 16) 0) c.requires ∙ byte-packed byte (omega arith))
