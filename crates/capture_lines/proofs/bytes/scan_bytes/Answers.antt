use Rattle.capture_lines.proofs.CodeWays.{scan-stops, scan-on, scan-ends}
use mathlib.Core.Path.{◌≡◌, refl, sym, ◌∙◌}
use native.Mathlib.Omega.{arith}
use Rattle.capture_lines.proofs.bytes.scan_bytes.Goals as goal

pub loop-at-init : goal.loop-at-init
loop-at-init c = (omega arith, refl)

pub returns-then-byte-eq-NEWLINE : goal.returns-then-byte-eq-NEWLINE
returns-then-byte-eq-NEWLINE c = sym (scan-stops _ _ _ c.loop-at-test.true c.if-byte-eq-NEWLINE.true) ∙ c.loop-at.invariant.1

pub loop-at-preserved : goal.loop-at-preserved
loop-at-preserved c =
    (omega arith, scan-on _ _ _ c.loop-at-test.true c.if-byte-eq-NEWLINE.false _ c.with_byte-read.ensures ∙ c.loop-at.invariant.1)

pub returns : goal.returns
returns c =
    let past : c.max.result ≡ c.loop-at.at = omega (arith, c.max.ensures, c.loop-at.invariant.0, c.loop-at-test.false) in
    rw past (sym (scan-ends _ _ _ c.loop-at-test.false) ∙ c.loop-at.invariant.1)
