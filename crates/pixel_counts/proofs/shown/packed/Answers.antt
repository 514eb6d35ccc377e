use mathlib.Core.Path.{sym}
use Rattle.pixel_counts.proofs.Pixels.{three-packed, four-packed}
use borrow.Author.Rules.{rules}
use Rattle.pixel_counts.proofs.shown.packed.Goals as goal

pub returns-then-place-lt1616 : goal.returns-then-place-lt1616
returns-then-place-lt1616 c =
    let args = c.args in
    let sum = four-packed args.place args.byte (search rules) c.if-place-lt1616.true in
    simp (c.one.ensures.value, c.one-2.ensures.value, c.one-3.ensures.value, c.one-then-place-lt1616.ensures.value) (sym sum)

pub returns : goal.returns
returns c =
    let args = c.args in
    let sum = three-packed args.place args.byte c.if-place-lt1616.false in
    simp (c.one.ensures.value, c.one-2.ensures.value, c.one-3.ensures.value) (sym sum)
