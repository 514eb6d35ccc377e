use Rattle.lists.proofs.Positions.{starts-before, line-there, line-missing}
use Rattle.lists.proofs.reader.line_from.Goals as goal

pub slice_bounds-line-count : goal.slice_bounds-line-count
slice_bounds-line-count c = starts-before _ _ _ c.find-end.ensures c.if-end-text.true

pub slice_bounds-line-start : goal.slice_bounds-line-start
slice_bounds-line-start c = starts-before _ _ _ c.find-end.ensures c.if-end-text.true

pub returns-then-end-text : goal.returns-then-end-text
returns-then-end-text c = line-there _ _ _ c.find-end.ensures c.if-end-text.true _ c.line.ensures

pub returns : goal.returns
returns c = line-missing _ _ _ c.find-end.ensures c.if-end-text.false
