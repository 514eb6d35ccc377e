use mathlib.Core.Path.{refl}
use native.Mathlib.Omega.{arith}
use Rattle.record_words.proofs.CodeWays.{copy-turn, bytes_read}
use Rattle.record_words.proofs.Stands.{stands-length}
use Rattle.record_words.proofs.register_bytes.Goals as goal

pub loop-register-preserved : goal.loop-register-preserved
loop-register-preserved c =
    copy-turn c.args.words.now _ _ _ _ c.loop-register.invariant refl (omega (arith, stands-length _ c.requires)) (omega arith)

pub returns : goal.returns
returns c = bytes_read _ _ _ c.loop-register.register (omega arith) refl c.loop-register.invariant
