use Rattle.capture_lines.proofs.CodeWays.{digit-begins, partly-known}
use mathlib.Core.Path.{◌∙◌}
use Rattle.capture_lines.proofs.bytes.digits.Goals as goal

pub returns-in-Empty : goal.returns-in-Empty
returns-in-Empty c =
    partly-known _ _ c.in-Empty.is _ _ _
    (c.more_digits.ensures ∙ rw c.from.ensures (digit-begins _ _ c.if-from-part.true _ c.is_ascii_digit.ensures.value c.if-is_ascii_digit.true))
