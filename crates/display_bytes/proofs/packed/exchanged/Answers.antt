use Rattle.display_bytes.proofs.PackedWays.{guards-fit, sum_fits, enough, exchange-told}
use Rattle.display_bytes.specs.Lanes.{unpacked_of}
use native.Mathlib.Omega.{arith}
use Rattle.display_bytes.proofs.packed.exchanged.Goals as goal

pub overflow_add-result : goal.overflow_add-result
overflow_add-result c = record { fits = guards-fit (unpacked_of c.args.sum) _ c.requires.packed.apart c.requires.packed.low }

pub overflow_add-result-2 : goal.overflow_add-result-2
overflow_add-result-2 c =
    record { fits = sum_fits (unpacked_of c.args.sum) _ c.requires.packed.apart c.requires.packed.low c.args.old c.args.new (omega arith) (omega arith) _ c.four_pixels.ensures }

pub overflow_sub-result : goal.overflow_sub-result
overflow_sub-result c =
    enough (unpacked_of c.args.sum) _ c.requires.packed.apart c.requires.packed.low c.args.old c.args.new (omega arith) (omega arith) _ c.four_pixels.ensures _ c.four_pixels-2.ensures

pub returns : goal.returns
returns c =
    exchange-told (unpacked_of c.args.sum) _ c.requires.packed.apart c.requires.packed.low c.args.old c.args.new (omega arith) (omega arith) _ c.four_pixels.ensures _ c.four_pixels-2.ensures
