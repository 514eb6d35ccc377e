use mathlib.Core.Path.{◌≡◌}
use Rattle.record_words.proofs.CodeWays.{copied}
use Rattle.record_words.proofs.register_bytes.Given as goal

abbrev pub invariant-loop-register : goal.invariant-loop-register
invariant-loop-register l = l.bytes ≡ copied l.words l.initial.bytes l.register
