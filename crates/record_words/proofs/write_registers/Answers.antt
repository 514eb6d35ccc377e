use mathlib.Core.Path.{ap}
use native.Mathlib.Omega.{arith}
use lib.ListN.{length, length-set}
use Rattle.record_words.proofs.CodeWays.{copy-turn, registers-written}
use Rattle.record_words.proofs.write_registers.Goals as goal

pub loop-register-preserved : goal.loop-register-preserved
loop-register-preserved c =
    let at_head = c.loop-register in
    let bytes = c.bytes-bytes in (
      simp length-set at_head.invariant.0,
      copy-turn bytes.result _ _ _ _ at_head.invariant.1 c.from.ensures (omega (arith, ap length bytes.ensures)) (omega arith),
    )

pub returns : goal.returns
returns c = registers-written _ _ _ _ c.loop-register.register (omega arith) c.bytes-bytes.ensures c.loop-register.invariant.1
