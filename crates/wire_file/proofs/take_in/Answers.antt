use Rattle.std.proofs.Common.{rules, arith, refl}
use Rattle.wire_file.proofs.CodeWays.{failed-turn, more-turn, over-turn, end-turn}
use Rattle.wire_file.proofs.take_in.Goals as goal
use Rattle.wire_file.proofs.take_in.Goals.{else-n-gt0-via-then-n-gt0+else-not-is_over, else-n-gt0-via-else-n-gt0}

pub returns-in-Err-clause-result_value : goal.returns-in-Err-clause-result_value
returns-in-Err-clause-result_value c = failed-turn _ _ _ _ c.in-Err.is

pub returns-then-not-is_over-clause-result_value : goal.returns-then-not-is_over-clause-result_value
returns-then-not-is_over-clause-result_value c =
    more-turn _ _ _ _ c.in_default.is _ c.count-n.ensures.value _ c.tell-after.ensures.reading _ c.is_over.ensures c.if-n-gt0.true
    c.if-not-is_over.true

pub returns-else-n-gt0-clause-result_value : goal.returns-else-n-gt0-clause-result_value
returns-else-n-gt0-clause-result_value c =
    elim c.else-n-gt0.branch [
      | else-n-gt0-via-then-n-gt0+else-not-is_over w ↦
          over-turn _ _ _ _ c.in_default.is _ c.count-n.ensures.value _ c.tell-after.ensures.reading _ w.is_over.ensures
          w.if-not-is_over.false _ (search rules)
      | else-n-gt0-via-else-n-gt0 w ↦
          end-turn _ _ _ _ c.in_default.is _ c.count-n.ensures.value _ c.tell-after.ensures.reading _ refl (omega (arith, w.if-n-gt0.false)) _ (search rules)
    ]
