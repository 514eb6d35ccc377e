use mathlib.Core.Path.{sym, ap}
use lib.Seq.{length-take-le}
use Rattle.print.proofs.Writing.{prints-same}
use Rattle.print.specs.Chosen.{lines_of}
use Rattle.wire_text.specs.Capture.{event_line}
use Rattle.wire_text.proofs.CodeWays.{all-fed}
use Rattle.wire_text.proofs.events.tell_some.Goals as goal

pub slice_bounds-lines-end : goal.slice_bounds-lines-end
slice_bounds-lines-end c =
    let pre = c.requires in
    let told = c.feed-fed.ensures in
    (all-fed
    _ _ c.args.events.now (pre.wires_allowed, (pre.all_samples, pre.room)) _ _ (told.value, told.events_after)).written

pub slice_bounds-lines-end-2 : goal.slice_bounds-lines-end-2
slice_bounds-lines-end-2 c =
    let pre = c.requires in
    let told = c.feed-fed.ensures in
    sym (length-take-le _ _
    (all-fed
    _ _ c.args.events.now (pre.wires_allowed, (pre.all_samples, pre.room)) _ _ (told.value, told.events_after)).written)

pub returns : goal.returns
returns c =
    let pre = c.requires in
    let told = c.feed-fed.ensures in
    let fed =
    all-fed _ _ c.args.events.now (pre.wires_allowed, (pre.all_samples, pre.room)) _ _ (told.value, told.events_after) in
    record { after = fed.wires; told = prints-same (ap (lines_of event_line) fed.events) c.lines.ensures }
