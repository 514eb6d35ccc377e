use Rattle.capture.proofs.Lines.{lines-played}
use Rattle.capture.proofs.whole_lines.Goals as goal

pub returns-in-Empty : goal.returns-in-Empty
returns-in-Empty c =
    lines-played _ _ _ _ _ c.event_lines.ensures c.requires.passed.fit _ c.in-Empty.is c.requires.from_in_bounds
