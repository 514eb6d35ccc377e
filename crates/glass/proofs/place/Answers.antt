use native.Mathlib.Omega.{arith}
use Rattle.glass.proofs.CodeWays.{place-accepts}
use Rattle.glass.proofs.Pixels.{row-bound}
use Rattle.glass.proofs.place.Goals as goal

pub place_at-requires : goal.place_at-requires
place_at-requires c =
    let on = (place-accepts c.args.chip c.args.row c.args.column c.in_ok-of_place.ensures).1 in
    record { ram_bound = row-bound c.args.chip.registers.my _ on.row_there c.ram_row-ram.ensures; column_bound = on.column_there }

pub overflow_cast-result : goal.overflow_cast-result
overflow_cast-result c =
    let there = (place-accepts c.args.chip c.args.row c.args.column c.in_ok-of_place.ensures).1 in
    let ram = row-bound c.args.chip.registers.my _ there.row_there c.ram_row-ram.ensures in
    omega (arith, there.column_there, ram, c.place_at.ensures)
