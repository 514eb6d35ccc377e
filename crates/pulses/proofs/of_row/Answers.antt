use mathlib.Core.Path.{sym, ap}
use native.Mathlib.Omega.{arith}
use borrow.Author.Rules.{rules}
use Rattle.print.proofs.Writing.{prints_none, prints-part, prints-same}
use Rattle.pulses.specs.Row.{bytes_for, pixel_bytes}
use Rattle.pulses.proofs.CodeWays.{row_written, ram-row-bound, pixel-passes}
use Rattle.pulses.proofs.of_row.Goals as goal

pub loop-column-init : goal.loop-column-init
loop-column-init c = prints_none _ (omega arith)

pub overflow_mul-ram : goal.overflow_mul-ram
overflow_mul-ram c = omega (arith, ram-row-bound c.args.chip _ _ _ _ c.in_ok-refusal.ensures c.ram_row-ram.ensures)

pub overflow_add-ram : goal.overflow_add-ram
overflow_add-ram c = omega (arith, ram-row-bound c.args.chip _ _ _ _ c.in_ok-refusal.ensures c.ram_row-ram.ensures)

pub loop-column-preserved : goal.loop-column-preserved
loop-column-preserved c =
    let pulses =
    pixel-passes c.args.chip c.args.memory.now c.args.row c.loop-column.column _ _ _ _ _ c.in_ok-refusal.ensures (omega arith) c.ram_row-ram.ensures
    c.entry-byte.ensures c.shown-shown.ensures c.of_shown.ensures in
    prints-part (pixel_bytes c.args.chip c.args.memory.now c.args.row) c.loop-column.column c.loop-column.invariant
    (prints-same (ap bytes_for pulses) c.write_pixel.ensures)

pub returns : goal.returns
returns c =
    let printed = c.loop-column.invariant in
    let buffer = sym printed.buffer in
    row_written c.args.chip c.args.memory.now c.args.row c.args.out.now c.in_ok-refusal.ensures (omega arith) (printed.wrote (omega arith)) (search rules)
