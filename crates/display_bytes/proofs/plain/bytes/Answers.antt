use Rattle.display_bytes.proofs.Ways.{begins, stopped, went_on, ran_out, no_byte, room_within, part-length, part-event, made-none, made-some}
use lib.ListN.{length, get_or}
use native.Mathlib.Omega.{arith}
use Prim.Native.Nat.{◌+◌, ◌^◌, ◌<◌}
use mathlib.Core.Path.{◌≡◌, sym, ◌∙◌}
use Rattle.display_bytes.proofs.plain.bytes.Goals as goal

pub loop-done-init : goal.loop-done-init
loop-done-init c =
    (room_within c.args.count (length c.args.events.now) c.args.end c.requires (omega (arith, c.well_formed.1.1.0)), begins _ _ _ _ _ _)

pub returns-in_default : goal.returns-in_default
returns-in_default c =
    let here = c.loop-done in
    let inside : here.done < c.args.end = omega (arith, c.loop-done-test.true, part-length c.args.events.now c.args.end 0 here.invariant.0.0) in
    stopped _ _ _ _ _ _ _ _ _ _ _ _ here.invariant.1 _ _ _ _ (omega (arith, inside, here.invariant.0.0))
    (no_byte _ _ _ _ _ (omega (arith, c.in_default.ensures, part-event c.args.events.now c.args.end here.done here.invariant.0.0 inside)))
    c.ended.ensures.done_value c.ended.ensures.x_value c.ended.ensures.y_value c.ended.ensures.pixels_value

pub returns-in_default-mend : goal.returns-in_default-mend
returns-in_default-mend c =
    let here = c.loop-done in
    let inside : here.done < c.args.end = omega (arith, c.loop-done-test.true, part-length c.args.events.now c.args.end 0 here.invariant.0.0) in
    let event = part-event c.args.events.now c.args.end here.done here.invariant.0.0 inside in
    let room : here.number + 1 < 2 ^ 64 = omega (arith, inside, here.invariant.0.1, here.invariant.1.counted) in
    let none = made-none (get_or c.args.events.now here.done 0) _ _ _ _ _ _ (c.in-Ok.ensures.1 ∙ event) (omega (arith, c.in-Ok.ensures.0, event)) room c.mend.ensures in
    stopped _ _ _ _ _ _ _ _ _ _ _ _ here.invariant.1 _ _ _ _ (omega (arith, inside, here.invariant.0.0)) (none _ c.in_default-mend.is)
    c.ended-in_default-mend.ensures.done_value c.ended-in_default-mend.ensures.x_value c.ended-in_default-mend.ensures.y_value c.ended-in_default-mend.ensures.pixels_value

pub loop-done-preserved : goal.loop-done-preserved
loop-done-preserved c =
    let here = c.loop-done in
    let inside : here.done < c.args.end = omega (arith, c.loop-done-test.true, part-length c.args.events.now c.args.end 0 here.invariant.0.0) in
    let event = part-event c.args.events.now c.args.end here.done here.invariant.0.0 inside in
    let room : here.number + 1 < 2 ^ 64 = omega (arith, inside, here.invariant.0.1, here.invariant.1.counted) in
    let byte = c.in-Ok.ensures.1 ∙ event in
    let some = made-some (get_or c.args.events.now here.done 0) _ _ _ _ _ _ byte (omega (arith, c.in-Ok.ensures.0, event)) room c.mend.ensures _ c.in-Ok-mend.is in (
      here.invariant.0,
      went_on _ _ _ _ _ _ _ _ _ _ _ _ here.invariant.1 _ _ _ _ (omega (arith, inside, here.invariant.0.0)) some.0
          c.display_byte-at.ensures.value some.1 (c.display_byte-at.ensures.memory_after ∙ rw byte) c.display_byte-at.ensures.writers_after,
    )

pub returns : goal.returns
returns c =
    let here = c.loop-done in
    let over : here.done ≡ c.args.end = omega (arith, c.loop-done-test.false, here.auto.done-end, part-length c.args.events.now c.args.end 0 here.invariant.0.0) in
    ran_out _ _ _ _ _ _ _ _ _ _ _ _ here.invariant.1 _ _ _ _ (omega (arith, c.well_formed.1.1.0)) (over ∙ c.requires)
    (c.ended-2.ensures.done_value ∙ sym over) c.ended-2.ensures.x_value c.ended-2.ensures.y_value c.ended-2.ensures.pixels_value
