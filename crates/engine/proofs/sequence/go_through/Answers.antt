use Rattle.engine.proofs.Displays.{stretch-made, made-within, nothing-done, part_length, content-span, positive}
use Rattle.engine.proofs.EventKinds.{unlisted-refused, quiet-accepted, quiet-kind, quiet-counts, quiet-done}
use Rattle.engine.proofs.EventKinds.{content-byte, command-accepted, command-made, command-counted, taken-counts-not}
use Rattle.engine.proofs.Running.{begins, stops, goes_on, stretches-on, at-the-end, given_back}
use Rattle.display_bytes.proofs.Ways.{room_within}
use Rattle.phases.specs.Interface.{whole}
use Rattle.phases.specs.Phases.{is_endless}
use Rattle.commands.specs.declared.answer.CommandAnswer.TheVariants.{Unknown, OutOfRange}
use Rattle.commands.proofs.Answers.{counts-once}
use Rattle.registers.specs.State.{state}
use lib.ListN.{length, drop, take, get_or}
use native.Mathlib.Omega.{arith}
use Prim.Native.Nat.{ℕ, ◌+◌, ◌-◌, ◌^◌, ◌<◌}
use mathlib.Core.Bool.{false}
use mathlib.Core.Path.{◌≡◌, refl, sym, ap, ◌∙◌}
use borrow.Author.Rules.{rules}
use Rattle.engine.proofs.sequence.go_through.Goals as goal

pub loop-done-init : goal.loop-done-init
loop-done-init c =
    let room = room_within c.args.count (length c.args.events.now) _ c.room-end.ensures (omega (arith, c.well_formed.1.0)) in
    let counted : c.args.count + 0 ≡ c.args.count = omega arith in
    let chip = whole c.args.chip.registers c.of-interface.result c.args.chip.pixels in (
      (search rules, room.0, room.1),
      refl,
      refl,
      begins _ _ _ (ap (λ (k : ℕ). state chip c.args.memory.now c.args.writers.now k) counted),
    )

pub offset_bounds-events-done-then-rs : goal.offset_bounds-events-done-then-rs
offset_bounds-events-done-then-rs c =
    omega (arith, c.loop-done-test.true, c.loop-done.invariant.0.1, c.well_formed.1.1.1.1)

pub slice_bounds-part-count : goal.slice_bounds-part-count
slice_bounds-part-count c =
    let span = content-span c.loop-done.interface.phase _ _ _ c.content_end.ensures c.loop-done-test.true in
    omega (arith, span.0)

pub slice_bounds-part-start : goal.slice_bounds-part-start
slice_bounds-part-start c =
    let span = content-span c.loop-done.interface.phase _ _ _ c.content_end.ensures c.loop-done-test.true in
    omega (arith, span.0)

pub slice_bounds-part-end : goal.slice_bounds-part-end
slice_bounds-part-end c =
    let span = content-span c.loop-done.interface.phase _ _ _ c.content_end.ensures c.loop-done-test.true in
    omega (arith, span.1, c.loop-done.invariant.0.1)

pub overflow_add-number : goal.overflow_add-number
overflow_add-number c =
    let here = c.loop-done in
    omega (arith, c.loop-done-test.true, here.invariant.0.1, here.invariant.0.2)

pub shape_of-memory-then-stretch-eq0 : goal.shape_of-memory-then-stretch-eq0
shape_of-memory-then-stretch-eq0 c = omega (arith, c.loop-done.invariant.1)

pub shape_of-writers-then-stretch-eq0 : goal.shape_of-writers-then-stretch-eq0
shape_of-writers-then-stretch-eq0 c = omega (arith, c.loop-done.invariant.2)

pub returns-then-stretch-eq0 : goal.returns-then-stretch-eq0
returns-then-stretch-eq0 c =
    let here = c.loop-done in
    let event = get_or c.args.events.now here.done 0 in
    let before = state (whole here.registers here.interface here.pixels) here.memory here.writers (c.args.count + here.done) in
    let inside : here.done < length c.args.events.now = omega (arith, c.loop-done-test.true, here.invariant.0.1) in
    let span = content-span c.loop-done.interface.phase _ _ _ c.content_end.ensures c.loop-done-test.true in
    let size = c.content_end.result - here.done in
    let content = sym c.brings_content.ensures ∙ c.if-brings_content.true in
    let rs = sym c.rs.ensures ∙ c.if-rs.true in
    let room : c.args.count + here.done + 1 < 2 ^ 64 = omega (arith, c.loop-done-test.true, here.invariant.0.2) in
    let some : 0 < size = omega (arith, span.0) in
    let none =
    nothing-done c.args.events.now here.done size here.interface here.registers here.pixels here.memory here.writers
    (c.args.count + here.done) _ inside some c.take-stretch.ensures c.if-stretch-eq0.true (content-byte event here.interface.phase content) rs room in
    record {
      count_after = (given_back _ _ _ _ _ _ _ _ _ _ _ _ _ _ _ _ _ c.of-interface.ensures c.whole.ensures none.1.0 none.1.1
          (stops _ _ _ before _ _ here.invariant.3 inside 15 none.0)).0;
      unknown_value = (given_back _ _ _ _ _ _ _ _ _ _ _ _ _ _ _ _ _ c.of-interface.ensures c.whole.ensures none.1.0 none.1.1
          (stops _ _ _ before _ _ here.invariant.3 inside 15 none.0)).1.0;
      out_of_range_value = (given_back _ _ _ _ _ _ _ _ _ _ _ _ _ _ _ _ _ c.of-interface.ensures c.whole.ensures none.1.0 none.1.1
          (stops _ _ _ before _ _ here.invariant.3 inside 15 none.0)).1.1;
    }

pub overflow_add-done : goal.overflow_add-done
overflow_add-done c =
    let here = c.loop-done in
    let event = get_or c.args.events.now here.done 0 in
    let before = state (whole here.registers here.interface here.pixels) here.memory here.writers (c.args.count + here.done) in
    let inside : here.done < length c.args.events.now = omega (arith, c.loop-done-test.true, here.invariant.0.1) in
    let span = content-span c.loop-done.interface.phase _ _ _ c.content_end.ensures c.loop-done-test.true in
    let size = c.content_end.result - here.done in
    let part = take size (drop here.done c.args.events.now) in
    let long : length part ≡ size = part_length c.args.events.now here.done size (omega (arith, span.0, span.1, here.invariant.0.1)) in
    let within = made-within part here.registers here.pixels here.memory here.writers (c.args.count + here.done) _ c.take-stretch.ensures in
    omega (arith, within, long, span.0, span.1, here.invariant.0.2)

pub loop-done-smaller-then-rs : goal.loop-done-smaller-then-rs
loop-done-smaller-then-rs c =
    let here = c.loop-done in
    let event = get_or c.args.events.now here.done 0 in
    let before = state (whole here.registers here.interface here.pixels) here.memory here.writers (c.args.count + here.done) in
    let inside : here.done < length c.args.events.now = omega (arith, c.loop-done-test.true, here.invariant.0.1) in
    let span = content-span c.loop-done.interface.phase _ _ _ c.content_end.ensures c.loop-done-test.true in
    let size = c.content_end.result - here.done in
    let part = take size (drop here.done c.args.events.now) in
    let long : length part ≡ size = part_length c.args.events.now here.done size (omega (arith, span.0, span.1, here.invariant.0.1)) in
    let within = made-within part here.registers here.pixels here.memory here.writers (c.args.count + here.done) _ c.take-stretch.ensures in
    omega (arith, within, long, span.0, span.1, positive _ c.if-stretch-eq0.false)

pub loop-done-preserved-then-rs : goal.loop-done-preserved-then-rs
loop-done-preserved-then-rs c =
    let here = c.loop-done in
    let event = get_or c.args.events.now here.done 0 in
    let before = state (whole here.registers here.interface here.pixels) here.memory here.writers (c.args.count + here.done) in
    let inside : here.done < length c.args.events.now = omega (arith, c.loop-done-test.true, here.invariant.0.1) in
    let span = content-span c.loop-done.interface.phase _ _ _ c.content_end.ensures c.loop-done-test.true in
    let size = c.content_end.result - here.done in
    let part = take size (drop here.done c.args.events.now) in
    let long : length part ≡ size = part_length c.args.events.now here.done size (omega (arith, span.0, span.1, here.invariant.0.1)) in
    let within = made-within part here.registers here.pixels here.memory here.writers (c.args.count + here.done) _ c.take-stretch.ensures in
    let rs = sym c.rs.ensures ∙ c.if-rs.true in
    let one : is_endless here.interface.phase ≡ false → length part ≡ 1 =
    λ (f : is_endless here.interface.phase ≡ false). omega (arith, long, span.2 f) in
    let on =
    stretch-made here.interface _ _ here.done part (drop size (drop here.done c.args.events.now)) here.registers here.pixels
    here.memory here.writers (c.args.count + here.done) _ _ _ _ _ _ (c.args.count + (here.done + c.take-stretch.result.done))
    rs one c.if-stretch-eq0.false c.phase_after_content.ensures c.in_phase-interface.ensures (omega arith) c.take-stretch.ensures in (
      (omega (arith, within, long, span.0, span.1), here.invariant.0.1, here.invariant.0.2),
      omega (arith, here.invariant.1),
      omega (arith, here.invariant.2),
      stretches-on _ _ _ before _ _ here.invariant.3 part size _ _ refl within on,
    )

pub overflow_cast-event : goal.overflow_cast-event
overflow_cast-event c =
    let here = c.loop-done in
    let event = get_or c.args.events.now here.done 0 in
    omega (arith, content-byte event here.interface.phase (sym c.brings_content.ensures ∙ c.if-brings_content.true))

pub overflow_add-done-else-rs : goal.overflow_add-done-else-rs
overflow_add-done-else-rs c =
    let here = c.loop-done in
    omega (arith, c.loop-done-test.true, here.invariant.0.1, here.invariant.0.2)

pub overflow_add-unknown : goal.overflow_add-unknown
overflow_add-unknown c =
    let here = c.loop-done in
    omega (arith, c.loop-done-test.true, here.invariant.0.1, here.invariant.0.2, here.invariant.3.unknown.at_most, c.counts-unknown.ensures, counts-once Unknown c.command-commanded.result.answer)

pub overflow_add-out_of_range : goal.overflow_add-out_of_range
overflow_add-out_of_range c =
    let here = c.loop-done in
    omega (arith, c.loop-done-test.true, here.invariant.0.1, here.invariant.0.2, here.invariant.3.out_of_range.at_most, c.counts-out_of_range.ensures, counts-once OutOfRange c.command-commanded.result.answer)

pub loop-done-smaller-then-not-is_taken : goal.loop-done-smaller-then-not-is_taken
loop-done-smaller-then-not-is_taken c = omega (arith, c.loop-done-test.true)

pub loop-done-preserved-then-not-is_taken : goal.loop-done-preserved-then-not-is_taken
loop-done-preserved-then-not-is_taken c =
    let here = c.loop-done in
    let event = get_or c.args.events.now here.done 0 in
    let before = state (whole here.registers here.interface here.pixels) here.memory here.writers (c.args.count + here.done) in
    let inside : here.done < length c.args.events.now = omega (arith, c.loop-done-test.true, here.invariant.0.1) in
    let content = sym c.brings_content.ensures ∙ c.if-brings_content.true in
    let rs = sym c.rs.ensures ∙ c.if-rs.false in
    let room : c.args.count + here.done + 1 < 2 ^ 64 = omega (arith, c.loop-done-test.true, here.invariant.0.2) in
    let done =
    command-made event here.interface here.registers here.pixels here.memory here.writers (c.args.count + here.done) _ _ _ (c.args.count + (here.done + 1))
    content rs c.command-commanded.ensures.registers_value c.phase_after_content.ensures c.in_phase-interface.ensures (omega arith) in
    let unknown-counted =
    command-counted event here.interface here.registers here.pixels here.memory here.writers (c.args.count + here.done) Unknown
    c.command-commanded.result.answer _ content rs c.command-commanded.ensures.answer_value refl in
    let range-counted =
    command-counted event here.interface here.registers here.pixels here.memory here.writers (c.args.count + here.done) OutOfRange
    c.command-commanded.result.answer _ content rs c.command-commanded.ensures.answer_value refl in (
      (omega (arith, c.loop-done-test.true), here.invariant.0.1, here.invariant.0.2),
      here.invariant.1,
      here.invariant.2,
      goes_on _ _ _ before _ _ here.invariant.3 inside _ (command-accepted event here.interface here.registers here.pixels here.memory here.writers (c.args.count + here.done) content rs room) done _ _
          (omega (arith, c.counts-unknown.ensures, unknown-counted)) (omega (arith, c.counts-out_of_range.ensures, range-counted)),
    )

pub loop-done-smaller-else-not-is_taken : goal.loop-done-smaller-else-not-is_taken
loop-done-smaller-else-not-is_taken c = omega (arith, c.loop-done-test.true)

pub loop-done-preserved-else-not-is_taken : goal.loop-done-preserved-else-not-is_taken
loop-done-preserved-else-not-is_taken c =
    let here = c.loop-done in
    let event = get_or c.args.events.now here.done 0 in
    let before = state (whole here.registers here.interface here.pixels) here.memory here.writers (c.args.count + here.done) in
    let inside : here.done < length c.args.events.now = omega (arith, c.loop-done-test.true, here.invariant.0.1) in
    let content = sym c.brings_content.ensures ∙ c.if-brings_content.true in
    let rs = sym c.rs.ensures ∙ c.if-rs.false in
    let room : c.args.count + here.done + 1 < 2 ^ 64 = omega (arith, c.loop-done-test.true, here.invariant.0.2) in
    let done =
    command-made event here.interface here.registers here.pixels here.memory here.writers (c.args.count + here.done) _ _ _ (c.args.count + (here.done + 1))
    content rs c.command-commanded.ensures.registers_value c.phase_after_content.ensures c.in_phase-interface.ensures (omega arith) in
    let taken = sym c.is_taken.ensures ∙ c.if-not-is_taken.false in
    let unknown-counted =
    command-counted event here.interface here.registers here.pixels here.memory here.writers (c.args.count + here.done) Unknown
    c.command-commanded.result.answer _ content rs c.command-commanded.ensures.answer_value refl in
    let range-counted =
    command-counted event here.interface here.registers here.pixels here.memory here.writers (c.args.count + here.done) OutOfRange
    c.command-commanded.result.answer _ content rs c.command-commanded.ensures.answer_value refl in (
      (omega (arith, c.loop-done-test.true), here.invariant.0.1, here.invariant.0.2),
      here.invariant.1,
      here.invariant.2,
      goes_on _ _ _ before _ _ here.invariant.3 inside _ (command-accepted event here.interface here.registers here.pixels here.memory here.writers (c.args.count + here.done) content rs room) done _ _
          (omega (arith, taken-counts-not Unknown c.command-commanded.result.answer taken refl, unknown-counted))
          (omega (arith, taken-counts-not OutOfRange c.command-commanded.result.answer taken refl, range-counted)),
    )

pub overflow_add-result : goal.overflow_add-result
overflow_add-result c =
    let here = c.loop-done in
    omega (arith, c.loop-done-test.true, here.invariant.0.1, here.invariant.0.2)

pub returns-then-not-is_listed_event : goal.returns-then-not-is_listed_event
returns-then-not-is_listed_event c =
    let here = c.loop-done in
    let event = get_or c.args.events.now here.done 0 in
    let before = state (whole here.registers here.interface here.pixels) here.memory here.writers (c.args.count + here.done) in
    let inside : here.done < length c.args.events.now = omega (arith, c.loop-done-test.true, here.invariant.0.1) in
    let unlisted = sym c.is_listed_event.ensures ∙ c.if-not-is_listed_event.true in
    record {
      count_after = (given_back _ _ _ _ _ _ _ _ _ _ _ _ _ _ _ _ _ c.of-interface.ensures c.whole-then-not-is_listed_event.ensures refl refl
          (stops _ _ _ before _ _ here.invariant.3 inside 2 (unlisted-refused event before unlisted))).0;
      unknown_value = (given_back _ _ _ _ _ _ _ _ _ _ _ _ _ _ _ _ _ c.of-interface.ensures c.whole-then-not-is_listed_event.ensures refl refl
          (stops _ _ _ before _ _ here.invariant.3 inside 2 (unlisted-refused event before unlisted))).1.0;
      out_of_range_value = (given_back _ _ _ _ _ _ _ _ _ _ _ _ _ _ _ _ _ c.of-interface.ensures c.whole-then-not-is_listed_event.ensures refl refl
          (stops _ _ _ before _ _ here.invariant.3 inside 2 (unlisted-refused event before unlisted))).1.1;
    }

pub interface_after-interface-requires : goal.interface_after-interface-requires
interface_after-interface-requires c =
    let here = c.loop-done in
    let event = get_or c.args.events.now here.done 0 in
    rw c.of.ensures (quiet-kind event here.interface.phase (sym c.brings_content.ensures ∙ c.if-brings_content.false))

pub overflow_add-done-else-brings_content : goal.overflow_add-done-else-brings_content
overflow_add-done-else-brings_content c =
    let here = c.loop-done in
    omega (arith, c.loop-done-test.true, here.invariant.0.1, here.invariant.0.2)

pub loop-done-smaller : goal.loop-done-smaller
loop-done-smaller c = omega (arith, c.loop-done-test.true)

pub loop-done-preserved : goal.loop-done-preserved
loop-done-preserved c =
    let here = c.loop-done in
    let event = get_or c.args.events.now here.done 0 in
    let before = state (whole here.registers here.interface here.pixels) here.memory here.writers (c.args.count + here.done) in
    let inside : here.done < length c.args.events.now = omega (arith, c.loop-done-test.true, here.invariant.0.1) in
    let quiet = sym c.brings_content.ensures ∙ c.if-brings_content.false in
    let listed = sym c.is_listed_event.ensures ∙ c.if-not-is_listed_event.false in
    let room : c.args.count + here.done + 1 < 2 ^ 64 = omega (arith, c.loop-done-test.true, here.invariant.0.2) in
    let done =
    quiet-done event _ here.registers _ here.interface _ here.pixels here.memory here.writers (c.args.count + here.done) (c.args.count + (here.done + 1))
    c.of.ensures c.registers_after-registers.ensures (c.interface_after-interface.ensures _ _ _ _) (omega arith) in (
      (omega (arith, c.loop-done-test.true), here.invariant.0.1, here.invariant.0.2),
      here.invariant.1,
      here.invariant.2,
      goes_on _ _ _ before _ _ here.invariant.3 inside _ (quiet-accepted event before quiet listed room) done _ _
          (omega (arith, quiet-counts event before Unknown quiet)) (omega (arith, quiet-counts event before OutOfRange quiet)),
    )

pub overflow_add-count : goal.overflow_add-count
overflow_add-count c =
    let here = c.loop-done in
    omega (arith, here.invariant.0.0, here.invariant.0.2)

pub overflow_add-result-2 : goal.overflow_add-result-2
overflow_add-result-2 c =
    let here = c.loop-done in
    omega (arith, here.invariant.0.0, here.invariant.0.2)

pub returns : goal.returns
returns c =
    let here = c.loop-done in
    let before = state (whole here.registers here.interface here.pixels) here.memory here.writers (c.args.count + here.done) in
    let at-end : here.done ≡ c.room-end.result = omega (arith, c.loop-done-test.false, here.invariant.0.0) in
    record {
      count_after = (given_back _ _ _ _ _ _ _ _ _ _ _ _ _ _ _ _ _ c.of-interface.ensures c.whole-2.ensures refl refl
          (at-the-end _ _ _ before _ _ here.invariant.3 c.args.count _ (omega (arith, c.well_formed.1.0)) refl (at-end ∙ c.room-end.ensures) c.of_next.ensures)).0;
      unknown_value = (given_back _ _ _ _ _ _ _ _ _ _ _ _ _ _ _ _ _ c.of-interface.ensures c.whole-2.ensures refl refl
          (at-the-end _ _ _ before _ _ here.invariant.3 c.args.count _ (omega (arith, c.well_formed.1.0)) refl (at-end ∙ c.room-end.ensures) c.of_next.ensures)).1.0;
      out_of_range_value = (given_back _ _ _ _ _ _ _ _ _ _ _ _ _ _ _ _ _ c.of-interface.ensures c.whole-2.ensures refl refl
          (at-the-end _ _ _ before _ _ here.invariant.3 c.args.count _ (omega (arith, c.well_formed.1.0)) refl (at-end ∙ c.room-end.ensures) c.of_next.ensures)).1.1;
    }
