use Rattle.lists.proofs.Positions.{behind-newline, at-end}
use Rattle.lists.proofs.reader.next_line.Goals as goal

pub returns-then-end-text : goal.returns-then-end-text
returns-then-end-text c = behind-newline _ _ _ c.find-end.ensures c.if-end-text.true

pub returns : goal.returns
returns c = at-end _ _ _ c.find-end.ensures c.if-end-text.false
