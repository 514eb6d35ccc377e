use Rattle.capture_lines.proofs.WholeLines.{one-read, more-read, long-digits, long-read, not_long}
use mathlib.Core.Path.{sym, ◌∙◌}
use Rattle.capture_lines.proofs.event.line_in.Goals as goal

pub returns-then-b-eq-NEWLINE : goal.returns-then-b-eq-NEWLINE
returns-then-b-eq-NEWLINE c = one-read _ _ _ _ _ c.if-b-eq-NEWLINE.true c.of_one_digit.ensures

pub of_digits-requires : goal.of_digits-requires
of_digits-requires c = long-digits _ _ _ _ (sym c.is_long.ensures ∙ c.if-is_long.true)

pub returns-then-is_long : goal.returns-then-is_long
returns-then-is_long c =
    more-read _ _ _ _ _ c.if-b-eq-NEWLINE.false (long-read _ _ _ _ _ (sym c.is_long.ensures ∙ c.if-is_long.true) c.of_digits.ensures)

pub returns : goal.returns
returns c = more-read _ _ _ _ _ c.if-b-eq-NEWLINE.false (not_long _ _ _ _ (sym c.is_long.ensures ∙ c.if-is_long.false))
