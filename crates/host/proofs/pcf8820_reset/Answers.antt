use native.Mathlib.Omega.{arith}
use Rattle.host.proofs.CodeWays.{reset-other-length, reset-other-pins, reset-done}
use Rattle.host.proofs.pcf8820_reset.Goals as goal

pub returns-then-record-ne-WORDS : goal.returns-then-record-ne-WORDS
returns-then-record-ne-WORDS c = reset-other-length _ _ c.if-record-ne-WORDS.true

pub returns-then-pins-gt3 : goal.returns-then-pins-gt3
returns-then-pins-gt3 c = reset-other-pins _ _ c.if-record-ne-WORDS.false (omega (arith, c.if-pins-gt3.true))

pub returns : goal.returns
returns c =
    reset-done _ _ _ _ c.if-record-ne-WORDS.false (omega (arith, c.if-pins-gt3.false)) c.reset.ensures c.write_record.ensures
