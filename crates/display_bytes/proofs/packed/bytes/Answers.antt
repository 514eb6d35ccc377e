use Rattle.display_bytes.specs.Lanes.{unpacked_of, Packed}
use Rattle.display_bytes.proofs.Ways.{begins, stopped, went_on, ran_out, no_byte, byte-told, room_within, part-length, part-event}
use Rattle.display_bytes.proofs.PackedWays.{packs, counts-back, same_start, Exchange, fit-told, guards-there, packed-after, counts-after}
use lib.ListN.{length, get_or}
use native.Mathlib.Omega.{arith}
use borrow.Author.Rules.{rules}
use Prim.Native.Nat.{ℕ, ◌+◌, ◌-◌, ◌^◌, ◌<◌}
use mathlib.Core.Path.{◌≡◌, refl, sym, ap, subst, ◌∙◌}
use Rattle.display_bytes.proofs.packed.bytes.Goals.{else-loop-event-test, then-loop-event-test+in_default, then-loop-event-test+in-Ok+then-not-none_below}
use Rattle.display.specs.Display.{pixels_fit, pixels_after}
use Rattle.display.proofs.Address.{place-low, next_low}
use Rattle.display_bytes.proofs.packed.bytes.Goals as goal

pub loop-event-init : goal.loop-event-init
loop-event-init c =
    let ordinary = c.requires.ordinary in (
      room_within c.args.count (length c.args.events.now) c.args.end c.requires.end_value (omega (arith, c.well_formed.1.1.0)),
      (ordinary.bytes, ordinary.numbers),
      (ordinary.column, ordinary.bank),
      subst (λ (k : ℕ). Packed k) (sym c.packed-sum.ensures) (packs c.args.pixels ordinary.low),
      begins _ _ _ _ _ _,
    )

pub bounds-memory-place : goal.bounds-memory-place
bounds-memory-place c =
    let here = c.loop-event in
    omega (arith, c.place-place.ensures, place-low here.at here.invariant.2.0 here.invariant.2.1, here.invariant.1.0)

pub exchanged-next-requires-clause-packed : goal.exchanged-next-requires-clause-packed
exchanged-next-requires-clause-packed c = c.loop-event.invariant.3

pub overflow_sub-sum : goal.overflow_sub-sum
overflow_sub-sum c =
    let here = c.loop-event in
    let exchange : Exchange here.at here.memory here.sum c.in-Ok.byte c.place-place.result c.kept_in_bank-old.result c.stored-new.result c.exchanged-next.result =
    record {
      column = here.invariant.2.0;
      bank = here.invariant.2.1;
      packed = here.invariant.3;
      here = c.place-place.ensures;
      old-byte = omega arith;
      new-byte = omega arith;
      leaves = c.kept_in_bank-old.ensures;
      joins = c.stored-new.ensures;
      counts = c.exchanged-next.ensures;
    } in
    guards-there _ _ _ _ _ _ _ _ exchange (sym (fit-told _ _ _ _ _ _ _ _ exchange _ c.none_below.ensures) ∙ c.if-not-none_below.false)

pub overflow_add-number : goal.overflow_add-number
overflow_add-number c =
    let here = c.loop-event in
    omega (arith, c.loop-event-test.true, part-length c.args.events.now c.args.end 0 here.invariant.0.0, here.invariant.0.1, here.invariant.4.counted)

pub bounds-memory-place-in-loop-event : goal.bounds-memory-place-in-loop-event
bounds-memory-place-in-loop-event c =
    let here = c.loop-event in
    omega (arith, c.place-place.ensures, place-low here.at here.invariant.2.0 here.invariant.2.1, here.invariant.1.0)

pub offset_bounds-writers-place : goal.offset_bounds-writers-place
offset_bounds-writers-place c =
    let here = c.loop-event in
    omega (arith, c.place-place.ensures, place-low here.at here.invariant.2.0 here.invariant.2.1)

pub bounds-writers-place : goal.bounds-writers-place
bounds-writers-place c =
    let here = c.loop-event in
    omega (arith, c.place-place.ensures, place-low here.at here.invariant.2.0 here.invariant.2.1, here.invariant.1.1)

pub loop-event-preserved : goal.loop-event-preserved
loop-event-preserved c =
    let here = c.loop-event in
    let inside : here.event-index < c.args.end = omega (arith, c.loop-event-test.true, part-length c.args.events.now c.args.end 0 here.invariant.0.0) in
    let event = part-event c.args.events.now c.args.end here.event-index here.invariant.0.0 inside in
    let byte = c.in-Ok.ensures.1 ∙ event in
    let counts = unpacked_of here.sum in
    let room : here.number + 1 < 2 ^ 64 = omega (arith, inside, here.invariant.0.1, here.invariant.4.counted) in
    let exchange : Exchange here.at here.memory here.sum c.in-Ok.byte c.place-place.result c.kept_in_bank-old.result c.stored-new.result c.exchanged-next.result =
    record {
      column = here.invariant.2.0;
      bank = here.invariant.2.1;
      packed = here.invariant.3;
      here = c.place-place.ensures;
      old-byte = omega arith;
      new-byte = omega arith;
      leaves = c.kept_in_bank-old.ensures;
      joins = c.stored-new.ensures;
      counts = c.exchanged-next.ensures;
    } in
    let told = fit-told _ _ _ _ _ _ _ _ exchange _ c.none_below.ensures in
    let fit = sym told ∙ c.if-not-none_below.false in
    let taken =
    byte-told (get_or c.args.events.now here.event-index 0) here.at counts here.memory here.number _ (omega (arith, c.in-Ok.ensures.0, event)) room
    (told ∙ ap (λ (b : ℕ). pixels_fit here.at counts here.memory b) byte) in
    let low = next_low here.at here.invariant.2.0 here.invariant.2.1 in (
      here.invariant.0,
      (search rules, search rules),
      (rw c.moved_on-at.ensures low.0, rw c.moved_on-at.ensures low.1),
      packed-after _ _ _ _ _ _ _ _ exchange fit,
      went_on _ _ _ _ _ _ _ _ _ _ _ _ here.invariant.4 _ _ _ _ (omega (arith, inside, here.invariant.0.0)) (taken ∙ c.if-not-none_below.false)
          c.moved_on-at.ensures
          (counts-after _ _ _ _ _ _ _ _ exchange fit ∙ ap (λ (b : ℕ). pixels_after here.at counts here.memory b) byte)
          (rw (c.place-place.ensures, c.stored-new.ensures, byte)) (rw c.place-place.ensures),
    )

pub overflow_sub-result : goal.overflow_sub-result
overflow_sub-result c = omega (arith, c.loop-event.invariant.4.counted)

-- the three ways out of the loop: its own test, an event that is no byte, and a byte that the pixels by value refuse
pub returns : goal.returns
returns c =
    let here = c.loop-event in
    let counts = unpacked_of here.sum in
    let done : here.number - c.args.count ≡ here.event-index = omega (arith, here.invariant.4.counted) in
    let long = part-length c.args.events.now c.args.end 0 here.invariant.0.0 in
    same_start _ _ _ _ _ _ _ _ (counts-back c.args.pixels _ c.packed-sum.ensures c.requires.ordinary.low)
    (elim c.loop-event-test.branch [
      | else-loop-event-test w ↦
          let over : here.event-index ≡ c.args.end = omega (arith, w.loop-event-test.false, here.auto.event-index-end, long) in
          ran_out _ _ _ _ _ _ _ _ _ _ _ _ here.invariant.4 _ _ _ _ (omega (arith, c.well_formed.1.1.0)) (over ∙ c.requires.end_value) done refl refl c.unpacked.ensures
      | then-loop-event-test+in_default w ↦
          let inside : here.event-index < c.args.end = omega (arith, w.loop-event-test.true, long) in
          let event = part-event c.args.events.now c.args.end here.event-index here.invariant.0.0 inside in
          stopped _ _ _ _ _ _ _ _ _ _ _ _ here.invariant.4 _ _ _ _ (omega (arith, inside, here.invariant.0.0))
          (no_byte _ _ _ _ _ (omega (arith, w.in_default.ensures, event))) done refl refl c.unpacked.ensures
      | then-loop-event-test+in-Ok+then-not-none_below w ↦
          let inside : here.event-index < c.args.end = omega (arith, w.loop-event-test.true, long) in
          let event = part-event c.args.events.now c.args.end here.event-index here.invariant.0.0 inside in
          let told = fit-told here.at here.memory here.sum w.in-Ok.byte w.place-place.result w.kept_in_bank-old.result w.stored-new.result w.exchanged-next.result (record {
            column = here.invariant.2.0;
            bank = here.invariant.2.1;
            packed = here.invariant.3;
            here = w.place-place.ensures;
            old-byte = omega arith;
            new-byte = omega arith;
            leaves = w.kept_in_bank-old.ensures;
            joins = w.stored-new.ensures;
            counts = w.exchanged-next.ensures;
          }) _ w.none_below.ensures in
          let taken =
          byte-told (get_or c.args.events.now here.event-index 0) here.at counts here.memory here.number _ (omega (arith, w.in-Ok.ensures.0, event))
          (omega (arith, inside, here.invariant.0.1, here.invariant.4.counted)) (told ∙ ap (λ (b : ℕ). pixels_fit here.at counts here.memory b) (w.in-Ok.ensures.1 ∙ event)) in
          stopped _ _ _ _ _ _ _ _ _ _ _ _ here.invariant.4 _ _ _ _ (omega (arith, inside, here.invariant.0.0)) (taken ∙ w.if-not-none_below.true)
          done refl refl c.unpacked.ensures
    ])
