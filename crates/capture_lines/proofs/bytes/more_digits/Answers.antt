use Rattle.capture_lines.proofs.CodeWays.{digit-follows}
use mathlib.Core.Path.{◌≡◌, refl, ◌∙◌}
use native.Mathlib.Omega.{arith}
use Rattle.capture_lines.proofs.bytes.more_digits.Goals as goal

pub loop-at-init : goal.loop-at-init
loop-at-init c = (omega arith, refl)

pub loop-at-preserved : goal.loop-at-preserved
loop-at-preserved c = (
  omega arith,
  rw c.from.ensures
      (digit-follows _ _ c.loop-at-test.true _ c.is_ascii_digit.ensures.value _ _ c.takes_digit.ensures (rw (c.if-takes_digit.true, c.if-is_ascii_digit.true))
      ∙ c.loop-at.invariant.1),
)

pub returns : goal.returns
returns c =
    let past : c.max.result ≡ c.loop-at.at = omega (arith, c.max.ensures, c.loop-at.invariant.0, c.loop-at-test.false) in
    rw past c.loop-at.invariant.1
