use native.Mathlib.Omega.{arith}
use Rattle.glass.proofs.CodeWays.{glass-accepts}
use Rattle.glass.proofs.Pixels.{row-bound}
use Rattle.glass.proofs.glass.Goals as goal

pub place_at-at-requires : goal.place_at-at-requires
place_at-at-requires c =
    let on = (glass-accepts c.args.chip _ c.args.row c.args.column c.in_ok-of_glass.ensures).2 in
    record { ram_bound = row-bound c.args.chip.registers.my _ on.row_there c.ram_row-ram.ensures; column_bound = on.column_there }

pub bounds-memory-at : goal.bounds-memory-at
bounds-memory-at c =
    let there = glass-accepts c.args.chip _ c.args.row c.args.column c.in_ok-of_glass.ensures in
    let ram = row-bound c.args.chip.registers.my _ there.2.row_there c.ram_row-ram.ensures in
    omega (arith, there.0, there.2.column_there, ram, c.place_at-at.ensures)
